-- A step of indexing, by the content of its line.
use Rattle.std.proofs.Common.{◌≡◌, ℕ, ◌+◌, ◌<◌, ◌≤◌, List, [], ◌∷◌, ◌++◌, length, take, drop, Some, Result, Ok, Err, refl, ap, ◌∙◌, arith, add-one}
use Rattle.std.proofs.Math.ListN.{length-take}
use Rattle.std.proofs.Math.Seq.{take-suc-set}
use Rattle.std.proofs.lemmas.List.{length-drop, length-set, length-take-le}
use Rattle.std.specs.Str.Lines.{lines}
use Rattle.cd_script.specs.ByLine.{meaning_at}
use Rattle.cd_script.specs.Script.{script}
use Rattle.cd_script.specs.declared.by_line.LineContent.{LineContent}
use Rattle.cd_script.specs.declared.by_line.LineContent.TheVariants as content
use Rattle.cd_script.specs.declared.fault.ScriptFault.{ScriptFault}
use Rattle.cd_c_scripts.specs.declared.entries.Entry.{Entry}
use Rattle.cd_c_scripts.specs.declared.entries.Found.{Found}
use Rattle.cd_c_scripts.specs.Indexing.{IndexesBy}
use Rattle.std.specs.List.{slice_set}
use Rattle.cd_script.specs.Order.{order}
use Rattle.cd_c_scripts.proofs.IndexLemmas.{Index-fault, Index-head, Index-passed, Index-patch, Indexing, head_above, patch_below}

-- the front of a list, up to a member that was changed
take_set : {X : Type 0} (xs : List X) (n : ℕ) (x : X) → n < length xs
    → take (n + 1) (slice_set xs n x) ≡ take n xs ++ x ∷ []
take_set xs n x inside = rw add-one (take-suc-set xs n x inside)

-- ---- a step, by the content of its line

pub record Stepped (text : List ℕ) (found : Found) (number start : ℕ) (es es' : List Entry)
    (next : Found) : Type 0 where
  pub indexing : Indexing text next.version number next.count start es'
  pub few : next.count ≤ found.count + 1
  pub size : length es' ≡ length es

module _ {text : List ℕ} {found : Found} {number start : ℕ} {es : List Entry}
    (es' : List Entry) {result : Result Found ScriptFault}
    (h : Indexing text found.version number found.count start es) (size taken : ℕ)
    (cut : lines (drop start text)
    ≡ take size (drop start text) ∷ lines (drop taken (drop start text)))
    (long : length (take size (drop start text)) ≡ size) (starts : start ≤ length text)
    (by : IndexesBy (meaning_at found.version (number + 1) found.count (take size (drop start text)))
    found (number + 1) start (length (take size (drop start text))) es es' result) where
  pub Index-step : (next : Found) → result ≡ Ok next
      → Stepped text found (number + 1) (start + taken) es es' next
  Index-step next ok = go _ refl by
    where
      go : (m : Result LineContent ScriptFault)
          → meaning_at found.version (number + 1) found.count (take size (drop start text)) ≡ m
          → IndexesBy m found (number + 1) start (length (take size (drop start text))) es es' result
          → Stepped text found (number + 1) (start + taken) es es' next
      go (Ok content.PassedOver) reads is =
          let same : next ≡ found = cc in
          rw (same, is.1) (record {
            indexing = Index-passed h size taken cut reads;
            few = omega arith;
            size = refl;
          })
      go (Ok (content.Head v)) reads is =
          let same : next ≡ record { version = Some v; count = found.count } = cc in
          let above = head_above found.version v (number + 1) found.count _ reads in
          rw (same, is.1) (record {
            indexing = Index-head h size taken cut v above reads;
            few = omega arith;
            size = refl;
          })
      go (Ok (content.Patch p)) reads m =
          let same : next ≡ record { version = found.version; count = found.count + 1 } = cc in
          let below = patch_below found.version p (number + 1) found.count _ reads in
          let size_of = length-set es found.count m.entry in
          rw (same, m.new_is) (record {
            indexing =
                let new =
                Index-patch h size taken cut below.0 p m.entry (slice_set es found.count m.entry)
                below.1 reads
                (λ room.
                let inside : found.count < length es = omega (arith, room, size_of) in
                (omega (arith, inside), take_set es found.count m.entry inside))
                m.block m.number_is m.start_is (m.size_is ∙ long) m.met
                (omega (
                  arith,
                  long,
                  starts,
                  length-drop start text,
                  length-take size (drop start text),
                )) in
                new;
            few = omega arith;
            size = size_of;
          })
      go (Err fault) reads is = absurd cc

  pub Index-stop : (fault : ScriptFault) → result ≡ Err fault → script text ≡ Err fault
  Index-stop fault stopped = go _ refl by
    where
      go : (m : Result LineContent ScriptFault)
          → meaning_at found.version (number + 1) found.count (take size (drop start text)) ≡ m
          → IndexesBy m found (number + 1) start (length (take size (drop start text))) es es' result
          → script text ≡ Err fault
      go (Ok content.PassedOver) reads is = absurd cc
      go (Ok (content.Head v)) reads is = absurd cc
      go (Ok (content.Patch p)) reads m = absurd (let made = m.is in cc)
      go (Err other) reads is =
          let same : other ≡ fault = cc in
          Index-fault h size taken cut other reads ∙ ap (λ e. Err e) same

-- the bytes of a line, and where the next one begins
pub size_is : (text rest : List ℕ) (start size taken : ℕ) → rest ≡ drop start text → size ≤ taken
    → taken ≤ length rest → length (take size (drop start text)) ≡ size
size_is text rest start size taken is order within =
    length-take-le size (drop start text) (omega (arith, ap length is, order, within))

pub inside_is : (text rest : List ℕ) (start taken : ℕ) → rest ≡ drop start text
    → start ≤ length text → taken ≤ length rest → start + taken ≤ length text
inside_is text rest start taken is inside within =
    omega (arith, ap length is, inside, within, length-drop start text)
