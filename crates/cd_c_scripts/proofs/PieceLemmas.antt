-- Patches on a piece of an image, one more at a time.
use Rattle.std.proofs.Common.{◌≡◌, ℕ, zero, suc, ◌+◌, ◌<◌, ◌≤◌, ◌⊎◌, inl, inr, Bool, true, List, [], ◌∷◌, ◌++◌, length, get_or, take, drop, Some, refl, sym, ap, ap₂, ◌∙◌, subst, arith, add-one}
use Rattle.std.specs.Prelude.{All}
use Rattle.std.specs.List.{slice_get, slice_index_or}
use Rattle.std.proofs.lemmas.Bool.{cases_lt}
use Rattle.std.proofs.lemmas.List.{get_or_append_left, get_or_push, get_or-take, length-append, length-take-le, take-append-drop}
use Rattle.std.proofs.lemmas.List.Elements.{All-head, All-tail, All-nil, All-push}
use Rattle.std.proofs.lemmas.Option.{get_or_from_slice_get, slice_get_within}
use Rattle.cd_script.specs.PatchForm.{Patch}
use Rattle.cd_script.specs.declared.version.Version.{Version}
use Rattle.cd_patch.specs.Blocks.{blocks_met}
use Rattle.cd_patch.specs.Deciding.{outcome}
use Rattle.cd_patch.specs.Effect.{Effect}
use Rattle.cd_patch.specs.Sequence.{PatchSequence}
use Rattle.cd_patch.specs.declared.outcome.Outcome.{Outcome}
use Rattle.cd_patch.proofs.FrameLemmas.{Effect-frame, Effect-length, Effect-missing, outcome-frame, outcome-missing}
use Rattle.cd_patch.proofs.SequenceLemmas.{Effect-determined, PatchSequence-append, PatchSequence-count, PatchSequence-lengths}
use Rattle.cd_c_scripts.specs.Entries.{AreEntries, IsEntry}
use Rattle.cd_c_scripts.proofs.EntryLemmas.{Said, entry_patch}
use Rattle.cd_c_scripts.specs.Flags.{carries}
use Rattle.cd_c_scripts.specs.Pieces.{AreApplied, AreBlocksIn, Fits, IsDone, Streams, Tells}
use Rattle.cd_c_scripts.specs.declared.entries.Entry.{Entry}
use Rattle.cd_c_scripts.specs.declared.pieces.Answer.{Answer}

-- ---- one more entry, and one more patch

pub AreEntries-add : (text : List ℕ) (v : Version) (flags : ℕ) (e : Entry) (p : Patch)
    (es : List Entry) (ps : List Patch) → AreEntries text v flags es ps → IsEntry text v flags e p
    → AreEntries text v flags (es ++ e ∷ []) (ps ++ p ∷ [])
AreEntries-add text v flags e p es ps h is =
    let size : length (ps ++ p ∷ []) ≡ length ps + 1 = length-append ps (p ∷ []) in
    let size' : length (es ++ e ∷ []) ≡ length es + 1 = length-append es (e ∷ []) in
    record {
      count = omega (arith, size, size', h.count);
      each = λ k f q inside. elim (cases_lt k (length es)) [
        | inl before ↦
            rw (
              get_or_append_left es (e ∷ []) f k before,
              get_or_append_left ps (p ∷ []) q k (omega (arith, before, h.count)),
            ) (h.each k f q before)
        | inr here ↦
            let last : k ≡ length es = omega (arith, here, inside, size') in
            rw (last, get_or_push es e f (length es) refl, get_or_push ps p q (length es) (sym h.count)) is
      ];
    }

take_suc : {X : Type 0} (xs : List X) (d : ℕ) (x : X) → d < length xs → take (suc d) xs ≡ take d xs ++ get_or xs d x ∷ []
take_suc [] d x inside = absurd (omega arith)
take_suc (y ∷ ys) zero x inside = refl
take_suc (y ∷ ys) (suc d) x inside = ap (λ l. y ∷ l) (take_suc ys d x (omega arith))

-- the first entries, and the next one
pub next_entry : (es : List Entry) (d : ℕ) (e : Entry) → slice_get es d ≡ Some e
    → take (suc d) es ≡ take d es ++ e ∷ []
next_entry es d e is =
    take_suc es d e (slice_get_within es d e is)
    ∙ ap (λ q. take d es ++ q ∷ []) (get_or_from_slice_get es d e e is)

drop_suc : {X : Type 0} (d : ℕ) (xs : List X) → drop (suc d) xs ≡ drop 1 (drop d xs)
drop_suc zero xs = refl
drop_suc (suc d) [] = refl
drop_suc (suc d) (x ∷ xs) = drop_suc d xs

drop_one : {X : Type 0} (d : ℕ) (a b c : List X) → drop (d + 1) c ≡ drop (d + 1) b
    → drop d b ≡ drop d a → drop (suc d) c ≡ drop (suc d) a
drop_one d a b c after before =
    rw (← add-one) after ∙ drop_suc d b ∙ ap (λ l. drop 1 l) before ∙ sym (drop_suc d a)

-- nothing is done
pub IsDone-none : (text : List ℕ) (v : Version) (flags base first : ℕ) (is_last : Bool)
    (es : List Entry) (old : List (List ℕ)) (answers : List Answer)
    → IsDone text v flags base first is_last es 0 old old answers answers
IsDone-none text v flags base first is_last es old answers = record {
  patches = [];
  entries = record { count = refl; each = λ k e p inside. absurd (omega arith) };
  fit = All-nil (Fits base first (length old) is_last);
  applied = record { outcomes = []; sequence = refl; told = λ k p o t inside. absurd (omega arith) };
  room = refl;
  others = refl;
}

AreApplied-add : (carry : Bool) (ps : List Patch) (first : ℕ) (p : Patch) (o : Outcome)
    (old middle new : List (List ℕ)) (answers answers' : List Answer)
    → o ≡ outcome carry middle first p → Effect carry first p middle new
    → take (length ps) answers' ≡ take (length ps) answers
    → ((t : Answer) → Tells p.line o (slice_index_or answers' (length ps) t))
    → AreApplied carry ps first old middle answers
    → AreApplied carry (ps ++ p ∷ []) first old new answers'
AreApplied-add carry ps first p o old middle new answers answers' decided effect same tells h =
    let d = length ps in
    let count : length h.outcomes ≡ d =
    PatchSequence-lengths carry ps h.outcomes first old middle h.sequence in
    let one : PatchSequence carry (p ∷ []) (o ∷ []) first middle new =
    record { decided = decided; next = new; effect = effect; others = refl } in
    record {
      outcomes = h.outcomes ++ o ∷ [];
      sequence =
          PatchSequence-append carry ps (p ∷ []) h.outcomes (o ∷ []) first old middle new
          h.sequence one;
      told = λ k q e t low. elim (cases_lt k d) [
        | inl before ↦
            let kept : get_or answers' k t ≡ get_or answers k t =
            sym (get_or-take d answers' k t before) ∙ ap (λ l. get_or l k t) same
            ∙ get_or-take d answers k t before in
            rw (
              get_or_append_left ps (p ∷ []) q k before,
              get_or_append_left h.outcomes (o ∷ []) e k (omega (arith, count, before)),
              kept,
            ) (h.told k q e t before)
        | inr here ↦
            let e0 : k ≡ d = omega (arith, here, low, length-append ps (p ∷ [])) in
            rw (e0, get_or_push ps p q d refl, get_or_push h.outcomes o e d count) (tells t)
      ];
    }

-- the next entry is done
pub IsDone-more : (text : List ℕ) (v : Version) (flags base first : ℕ) (is_last : Bool)
    (es : List Entry) (d : ℕ) (e : Entry) (p : Patch) (o : Outcome)
    (old middle new : List (List ℕ)) (answers answers' answers'' : List Answer)
    → slice_get es d ≡ Some e → IsEntry text v flags e p
    → Fits base first (length middle) is_last p
    → o ≡ outcome (carries flags) middle first p → Effect (carries flags) first p middle new
    → length answers'' ≡ length answers' → take d answers'' ≡ take d answers'
    → drop (d + 1) answers'' ≡ drop (d + 1) answers'
    → ((t : Answer) → Tells p.line o (slice_index_or answers'' d t))
    → IsDone text v flags base first is_last es d old middle answers answers'
    → IsDone text v flags base first is_last es (suc d) old new answers answers''
IsDone-more text v flags base first is_last es d e p o old middle new answers answers' answers'' at is
    fit decided effect size before after tells h =
    let within = slice_get_within es d e at in
    let count : length h.patches ≡ d =
    sym h.entries.count ∙ length-take-le d es (omega (arith, within)) in
    let same : length middle ≡ length old =
    PatchSequence-count (carries flags) h.patches h.applied.outcomes first old middle h.applied.sequence in
    record {
      patches = h.patches ++ p ∷ [];
      entries =
          rw (next_entry es d e at)
          (AreEntries-add text v flags e p (take d es) h.patches h.entries is);
      fit =
          All-push (Fits base first (length old) is_last) h.patches p h.fit
          (subst (λ n. Fits base first n is_last p) same fit);
      applied =
          AreApplied-add (carries flags) h.patches first p o old middle new answers' answers'' decided
          effect (rw count before) (rw count tells) h.applied;
      room = size ∙ h.room;
      others = drop_one d answers answers' answers'' after h.others;
    }

-- a patch fits if its entry says so
pub fits_by : (base first count : ℕ) (is_last : Bool) (e : Entry) (p : Patch) → Said e p
    → AreBlocksIn base first count is_last e.block e.blocks_met → Fits base first count is_last p
fits_by base first count is_last e p said h =
    subst (λ block. AreBlocksIn base first count is_last block (blocks_met p)) (sym said.block)
    (subst (λ met. AreBlocksIn base first count is_last e.block met) (sym said.met) h)

pub done_count : {text : List ℕ} {v : Version} {flags base first : ℕ} {is_last : Bool}
    {es : List Entry} {n : ℕ} {old new : List (List ℕ)} {answers answers' : List Answer}
    → IsDone text v flags base first is_last es n old new answers answers' → length new ≡ length old
done_count {flags = flags} {first = first} {old = old} {new = new} h =
    PatchSequence-count (carries flags) h.patches h.applied.outcomes first old new h.applied.sequence

-- ---- a piece, and the image of which it is a piece

-- a list is its first elements, the next ones, and those after them
pub in_three : {X : Type 0} (at n : ℕ) (xs : List X)
    → take at xs ++ (take n (drop at xs) ++ drop n (drop at xs)) ≡ xs
in_three at n xs =
    ap (λ l. take at xs ++ l) (take-append-drop n (drop at xs)) ∙ take-append-drop at xs

-- one patch
fit_one : (carry is_last : Bool) (p : Patch) (front window window' more : List (List ℕ))
    (base first : ℕ) → first ≡ base + length front → (is_last ≡ true → more ≡ [])
    → Fits base first (length window) is_last p → Effect carry first p window window'
    → (outcome carry window first p ≡ outcome carry (front ++ (window ++ more)) base p)
    × Effect carry base p (front ++ (window ++ more)) (front ++ (window' ++ more))
fit_one carry is_last p front window window' more base first e last (inl below) effect =
    let low : p.block < first = omega (arith, below, e) in
    let stays : window' ≡ window =
    Effect-determined carry first p window window' window effect
    (Effect-missing carry window first p (inl low)) in (
      outcome-missing carry window first p (inl low)
          ∙ sym (outcome-missing carry (front ++ (window ++ more)) base p (inl below)),
      rw stays (Effect-missing carry (front ++ (window ++ more)) base p (inl below)),
    )
fit_one carry is_last p front window window' more base first e last (inr inside) effect =
    let room : (p.block + blocks_met p ≤ first + length window) ⊎ (more ≡ []) =
    elim (inside.1) [ inl all ↦ inl all | inr ends ↦ inr (last ends) ] in (
      sym (outcome-frame carry front window more base first p e inside.0 room),
      Effect-frame carry front window window' more base first p e inside.0 room effect,
    )

pub fit_all : (carry is_last : Bool) (ps : List Patch) (os : List Outcome)
    (front window window' more : List (List ℕ)) (base first : ℕ) → first ≡ base + length front
    → (is_last ≡ true → more ≡ []) → All (Fits base first (length window) is_last) ps
    → PatchSequence carry ps os first window window'
    → PatchSequence carry ps os base (front ++ (window ++ more)) (front ++ (window' ++ more))
fit_all carry is_last [] [] front window window' more base first e last fit h =
    ap (λ l. front ++ (l ++ more)) h
fit_all carry is_last [] (o ∷ os) front window window' more base first e last fit h = elim h [ ]
fit_all carry is_last (p ∷ ps) [] front window window' more base first e last fit h = elim h [ ]
fit_all carry is_last (p ∷ ps) (o ∷ os) front window window' more base first e last fit h =
    let one =
    fit_one carry is_last p front window h.next more base first e last
    (All-head (Fits base first (length window) is_last) p ps fit) h.effect in
    let size : length h.next ≡ length window = Effect-length carry first p window h.next h.effect in
    record {
      decided = h.decided ∙ one.0;
      next = front ++ (h.next ++ more);
      effect = one.1;
      others =
          fit_all carry is_last ps os front h.next window' more base first e last
          (subst (λ n. All (Fits base first n is_last) ps) (sym size)
          (All-tail (Fits base first (length window) is_last) p ps fit)) h.others;
    }

-- ---- the patches of entries are one list

same_list : (ps qs : List Patch) → length ps ≡ length qs
    → ((k : ℕ) (p : Patch) → k < length ps → get_or ps k p ≡ get_or qs k p) → ps ≡ qs
same_list [] [] size each = refl
same_list [] (q ∷ qs) size each = absurd (omega arith)
same_list (p ∷ ps) [] size each = absurd (omega arith)
same_list (p ∷ ps) (q ∷ qs) size each =
    ap₂ (λ r rs. r ∷ rs) (each 0 p (omega arith))
    (same_list ps qs (omega arith) (λ k r inside. each (suc k) r (omega arith)))

pub entries_of_one : (text : List ℕ) (v : Version) (flags n : ℕ) (es : List Entry)
    (ps qs : List Patch) → n ≤ length es → AreEntries text v flags es ps
    → AreEntries text v flags (take n es) qs → qs ≡ take n ps
entries_of_one text v flags n es ps qs room h g =
    let size : length (take n es) ≡ n = length-take-le n es room in
    let size' : length (take n ps) ≡ n = length-take-le n ps (omega (arith, h.count)) in
    same_list qs (take n ps) (omega (arith, size, size', g.count)) (λ k p inside.
    let low : k < n = omega (arith, inside, size, g.count) in
    elim es as (λ l. (length l ≡ length es) → (l ≡ es) → get_or qs k p ≡ get_or (take n ps) k p) [
      | [] ↦ λ count is. absurd (omega (arith, low, room, count))
      | (d ∷ ds) ↦ λ count is.
          entry_patch
          (subst (λ q. IsEntry text v flags (get_or es k d) q) (sym (get_or-take n ps k p low))
          (h.each k d p (omega (arith, low, room))))
          (subst (λ f. IsEntry text v flags f (get_or qs k p)) (get_or-take n es k d low)
          (g.each k d p (omega (arith, low, size))))
    ] refl refl)

pub entries_left : (text : List ℕ) (v : Version) (flags n : ℕ) (es : List Entry) (ps : List Patch)
    → AreEntries text v flags es ps → AreEntries text v flags (drop n es) (drop n ps)
entries_left text v flags zero es ps h = h
entries_left text v flags (suc n) [] [] h = h
entries_left text v flags (suc n) [] (p ∷ ps) h = absurd (omega (arith, h.count))
entries_left text v flags (suc n) (e ∷ es) [] h = absurd (omega (arith, h.count))
entries_left text v flags (suc n) (e ∷ es) (p ∷ ps) h =
    entries_left text v flags n es ps (record {
      count = omega (arith, h.count);
      each = λ k f q inside. h.each (suc k) f q (omega arith);
    })

-- ---- a client, piece by piece

in_two : {X : Type 0} (k : ℕ) (window more : List X)
    → take k window ++ (drop k window ++ more) ≡ window ++ more
in_two zero window more = refl
in_two (suc k) [] more = refl
in_two (suc k) (x ∷ xs) more = ap (λ l. x ∷ l) (in_two k xs more)

regroup : {X : Type 0} (k : ℕ) (front window more : List X)
    → (front ++ take k window) ++ (drop k window ++ more) ≡ front ++ (window ++ more)
regroup k [] window more = in_two k window more
regroup k (x ∷ front) window more = ap (λ l. x ∷ l) (regroup k front window more)

pub streams : (carry : Bool) (base pieces : ℕ) (ps : List Patch) (os : List Outcome)
    (front rest out : List (List ℕ)) → Streams carry base pieces ps os front rest out
    → PatchSequence carry ps os base (front ++ rest) out
streams carry base zero ps os front rest out h = rw (h.0, h.1) h.2
streams carry base (suc pieces) ps os front rest out h =
    let now : PatchSequence carry (take h.count ps) h.here base (front ++ (h.window ++ h.more))
    (front ++ (h.window' ++ h.more)) =
    fit_all carry h.is_last (take h.count ps) h.here front h.window h.window' h.more base
    (base + length front) refl h.last h.fit h.applied in
    let later : PatchSequence carry (drop h.count ps) h.later base (front ++ (h.window' ++ h.more)) out =
    subst (λ l. PatchSequence carry (drop h.count ps) h.later base l out)
    (regroup h.sent front h.window' h.more)
    (streams carry base pieces (drop h.count ps) h.later (front ++ take h.sent h.window')
    (drop h.sent h.window' ++ h.more) out h.others) in
    let all = PatchSequence-append carry (take h.count ps) (drop h.count ps) h.here h.later base
    (front ++ (h.window ++ h.more)) (front ++ (h.window' ++ h.more)) out now later in
    rw (h.outcomes_are, h.cut)
    (subst (λ l. PatchSequence carry l (h.here ++ h.later) base (front ++ (h.window ++ h.more)) out)
    (take-append-drop h.count ps) all)
