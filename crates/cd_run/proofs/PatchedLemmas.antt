-- The effect of patches on an image.
use Rattle.std.proofs.Common.{◌≡◌, ◌≢◌, ℕ, ◌*◌, ◌/◌, ◌≤◌, zero, suc, Bool, true, List, [], ◌∷◌, ◌++◌, length, take, drop, sym, ap, ◌∙◌, subst, arith}
use Rattle.std.specs.Prelude.{All}
use Rattle.std.specs.Simd.{first_chunks}
use Rattle.std.proofs.lemmas.List.{length-drop, length-take-le}
use Rattle.std.proofs.lemmas.List.Elements.{All-cons, All-nil}
use Rattle.cd_code.specs.Field.{AreBytes}
use Rattle.cd_script.specs.Patch.{IsPatch}
use Rattle.cd_patch.specs.BySector.{IsSector}
use Rattle.cd_patch.specs.Sequence.{PatchSequence}
use Rattle.cd_script.specs.PatchForm.{Patch}
use Rattle.cd_patch.specs.declared.outcome.Outcome.{Outcome}
use Rattle.cd_code.proofs.ByteLemmas.{AreBytes-drop, AreBytes-take}
use Rattle.cd_patch.specs.declared.outcome.Outcome.TheVariants.{Damaged}
use Rattle.cd_patch.proofs.CarryLemmas.{never-damaged}
use Rattle.cd_patch.proofs.ExistenceLemmas.{run-exists}
use Rattle.cd_patch.proofs.BySectorLemmas.{run-leaves_others}
use Rattle.cd_patch.proofs.SequenceLemmas.{PatchSequence-determined}
use Rattle.cd_sector.specs.Image.{bytes_of, sectors, tail}
use Rattle.cd_run.specs.Patched.{CarriesDamage, IsPatched}
use Rattle.cd_sector.proofs.ImageLemmas.{IsCut-sectors, cut_of_joined}

pub IsPatched-determined : (carry : Bool) (patches : List Patch) (os os' : List Outcome) (base : ℕ)
    (image last last' : List ℕ) → IsPatched carry patches os base image last
    → IsPatched carry patches os' base image last'
    → (os ≡ os') × (last ≡ last')
IsPatched-determined carry patches os os' base image last last' one other =
    let same =
    PatchSequence-determined carry patches os os' base (sectors image) (sectors last)
    (sectors last') one.run other.run in (
      same.0,
      sym (IsCut-sectors last).joined ∙ ap (λ ss. bytes_of ss ++ tail last) same.1
          ∙ ap (λ t. bytes_of (sectors last') ++ t) (one.same_tail ∙ sym other.same_tail)
          ∙ (IsCut-sectors last').joined,
    )

-- ---- there is a run

chunks-sectors : (n : ℕ) (bytes : List ℕ) → 2352 * n ≤ length bytes → AreBytes bytes
    → All IsSector (first_chunks 2352 n bytes)
chunks-sectors zero bytes long each = All-nil IsSector
chunks-sectors (suc n) bytes long each =
    let size = length-take-le 2352 bytes (omega arith) in
    All-cons IsSector (take 2352 bytes) (first_chunks 2352 n (drop 2352 bytes))
    (record { size = size; bytes = AreBytes-take bytes 2352 each })
    (chunks-sectors n (drop 2352 bytes) (omega (arith, length-drop 2352 bytes))
    (AreBytes-drop bytes 2352 each))

-- the sectors of an image of bytes are sectors of bytes
sectors-are : (image : List ℕ) → AreBytes image → All IsSector (sectors image)
unfolding sectors
sectors-are image each = chunks-sectors (length image / 2352) image (omega arith) each

pub IsPatched-exists : (carry : Bool) (patches : List Patch) (base : ℕ) (image : List ℕ)
    → All IsPatch patches → AreBytes image
    → (os : List Outcome) × (last : List ℕ) × IsPatched carry patches os base image last
IsPatched-exists carry patches base image each bytes =
    let run = run-exists carry patches base (sectors image) each (sectors-are image bytes) in
    let cut =
    cut_of_joined run.1 (tail image) (λ k d inside. (run.3 k d inside).size)
    (IsCut-sectors image).short in (
      run.0,
      bytes_of run.1 ++ tail image,
      record {
        run = subst (PatchSequence carry patches run.0 base (sectors image)) cut.0 run.2;
        same_tail = sym cut.1;
      },
    )

-- ---- damage carried

-- in a run that carries damage, no patch is refused for damage
never_refused : (ps : List Patch) (os : List Outcome) (base : ℕ) (old last : List (List ℕ))
    → PatchSequence true ps os base old last → All (λ o. (block : ℕ) → o ≢ Damaged block) os
never_refused [] [] base old last h = All-nil (λ o. (block : ℕ) → o ≢ Damaged block)
never_refused [] (o ∷ os) base old last h = elim h [ ]
never_refused (p ∷ ps) [] base old last h = elim h [ ]
never_refused (p ∷ ps) (o ∷ os) base old last h =
    All-cons (λ o. (block : ℕ) → o ≢ Damaged block) o os
    (λ block e. never-damaged base block p old (sym h.decided ∙ e))
    (never_refused ps os base h.next last h.others)

pub IsPatched-carries : (patches : List Patch) (os : List Outcome) (base : ℕ) (image last : List ℕ)
    → All IsPatch patches → AreBytes image → IsPatched true patches os base image last
    → CarriesDamage patches os base image last
IsPatched-carries patches os base image last each bytes patched = record {
  unrefused = never_refused patches os base (sectors image) (sectors last) patched.run;
  leaves =
      run-leaves_others true patches os base (sectors image) (sectors last) each
      (sectors-are image bytes) patched.run;
  same_tail = patched.same_tail;
}
