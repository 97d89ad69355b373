-- A text that is written part by part, and the line of a patch.
use Rattle.std.proofs.Common.{◌≡◌, ℕ, suc, ◌+◌, ◌-◌, ◌*◌, ◌/◌, ◌%◌, ◌<◌, ◌≤◌, ◌==◌, true, List, [], ◌∷◌, ◌++◌, length, take, drop, map, Option, Some, None, refl, subst, sym, ap, ◌∙◌, arith, append_assoc, length-append}
use Rattle.std.specs.Prelude.{IfSome, codes, decimal, slice_index}
use Rattle.std.specs.Char.{to_ascii_uppercase}
use Rattle.std.proofs.lemmas.Bool.{agree_below_at, eqb-true}
use Rattle.std.proofs.lemmas.List.{drop-drop, take-append-drop, take_at}
use Rattle.std.proofs.lemmas.Slice.{drop-put_mid, take-put_mid}
use borrow.Rule.Slice.PartMut.{put_mid}
use Rattle.hex.specs.Hex.{encode_lower, encode_upper, encode_with, lower_digits, upper_digits}
use Rattle.hex.proofs.HexLemmas.{length-encode_with}
use Rattle.cd_script.specs.PatchForm.{Edit, Patch}
use Rattle.cd_script.specs.declared.patch.Edit.TheVariants.{Put}
use Rattle.cd_script.specs.Limits.{bytes_limit}
use Rattle.cd_script.specs.Patch.{IsBytes, IsPatch}
use Rattle.cd_script.specs.Spelling.{IsReadAs, edit_words, spelled_line, spelled_patch}
use Rattle.cd_script.specs.Writing.{IsPut, IsLineWritten, old_part}
use Rattle.cd_script.proofs.SpellingLemmas.{reads-spelled}

-- ---- digits

upper_digit : (n : ℕ) → n < 16 → to_ascii_uppercase (slice_index lower_digits n) ≡ slice_index upper_digits n
upper_digit n lt =
    eqb-true _ _ (agree_below_at (λ n. to_ascii_uppercase (slice_index lower_digits n) == slice_index upper_digits n)
    (λ n. true) 16 n refl lt)

-- the lower-case digits of bytes, in upper case
pub map-encode_lower : (bytes : List ℕ) → ((k : ℕ) → slice_index bytes k < 256)
    → map to_ascii_uppercase (encode_lower bytes) ≡ encode_upper bytes
unfolding encode_with
map-encode_lower [] fit = refl
map-encode_lower (b ∷ rest) fit =
    let byte : b < 256 = fit 0 in
    let high = upper_digit (b / 16) (omega arith) in
    let low = upper_digit (b % 16) (omega arith) in
    rw (high, low, map-encode_lower rest (λ k. fit (suc k))) refl

-- ---- parts

-- a part of a room that was written
pub IsPut-part : (text t room : List ℕ) (at k end : ℕ) → t ≡ text → k ≡ length text
    → end ≡ at + length text → at ≤ length room → IsPut text at room (put_mid at k room t) end
IsPut-part text t room at k end same size ends inside =
    let long : length t ≡ k = ap length same ∙ sym size in
    record {
      ends = ends;
      front = take-put_mid at k room t end (omega arith) inside ∙ ap (λ (l : List ℕ). take at room ++ l) same;
      rest = drop-put_mid at k room t end (omega arith) inside long;
    }

-- two texts, one after the other
pub IsPut-append : (s t old mid new : List ℕ) (at place end : ℕ) → IsPut s at old mid place
    → IsPut t place mid new end → IsPut (s ++ t) at old new end
IsPut-append s t old mid new at place end one two = record {
  ends = omega (arith, one.ends, two.ends, length-append s t);
  front = two.front ∙ ap (λ (l : List ℕ). l ++ t) one.front ∙ append_assoc (take at old) s t;
  rest =
      let size : end ≡ place + length t = omega (arith, two.ends) in
      two.rest ∙ ap (λ n. drop n mid) size ∙ sym (drop-drop (length t) place mid)
      ∙ ap (drop (length t)) one.rest ∙ drop-drop (length t) place old ∙ ap (λ n. drop n old) (sym size);
}

-- a text at the front
pub IsPut-front : (s old new : List ℕ) (end : ℕ) → IsPut s 0 old new end → new ≡ s ++ drop end old
IsPut-front s old new end put =
    sym (take-append-drop end new) ∙ ap (λ (l : List ℕ). l ++ drop end new) put.front
    ∙ ap (λ (l : List ℕ). s ++ l) put.rest

-- ---- the line of a `set`

pub few_old : (was : Option (List ℕ)) (n : ℕ) → IfSome was (λ old. IsBytes old × (length old ≡ n))
    → IfSome was (λ old. length old ≤ bytes_limit)
few_old None n h = tt
few_old (Some old) n h = h.0.most

regroup : (v b s o t n p : List ℕ)
    → ((v ++ b ++ s ++ o ++ t) ++ n) ++ p ≡ v ++ (b ++ (s ++ (o ++ (t ++ (n ++ p)))))
regroup v b s o t n p = simp append_assoc

set_text : (b o : ℕ) (bytes : List ℕ) (was : Option (List ℕ))
    → (((codes "set " ++ decimal b ++ codes " " ++ decimal o ++ codes " ") ++ encode_upper bytes) ++ old_part was)
    ++ 10 ∷ [] ≡ spelled_line (edit_words b o (Put bytes was))
unfolding edit_words
set_text b o bytes None = simp append_assoc
set_text b o bytes (Some old) =
    ap (λ (l : List ℕ). l ++ 10 ∷ [])
    (regroup (codes "set ") (decimal b) (codes " ") (decimal o) (codes " ") (encode_upper bytes)
    (codes " was " ++ encode_upper old))

pub length-set_line : (head : List ℕ) (b o : ℕ) (bytes : List ℕ) (was : Option (List ℕ)) (old size : ℕ)
    → head ≡ codes "set " ++ decimal b ++ codes " " ++ decimal o ++ codes " " → old ≡ length (old_part was)
    → size ≡ length head + 2 * length bytes + old + 1
    → size ≡ length (spelled_line (edit_words b o (Put bytes was)))
length-set_line head b o bytes was old size is part sum =
    let text = ap (λ (h : List ℕ). ((h ++ encode_upper bytes) ++ old_part was) ++ 10 ∷ []) is ∙ set_text b o bytes was in
    let hex = length-encode_with upper_digits bytes in
    sum
    ∙ omega (arith, hex, part, length-append ((head ++ encode_upper bytes) ++ old_part was) (10 ∷ []), length-append (head ++ encode_upper bytes) (old_part was), length-append head (encode_upper bytes))
    ∙ ap length text

pub set_written : (head : List ℕ) (b o : ℕ) (bytes : List ℕ) (was : Option (List ℕ)) (old size : ℕ)
    → head ≡ codes "set " ++ decimal b ++ codes " " ++ decimal o ++ codes " " → old ≡ length (old_part was)
    → size ≡ length head + 2 * length bytes + old + 1 → (r0 r1 r2 r3 r4 : List ℕ) (p1 p2 p3 p4 : ℕ)
    → IsPut head 0 r0 r1 p1 → IsPut (encode_upper bytes) p1 r1 r2 p2 → IsPut (old_part was) p2 r2 r3 p3
    → IsPut (10 ∷ []) p3 r3 r4 p4 → size ≤ length r0
    → IsLineWritten (spelled_line (edit_words b o (Put bytes was))) r0 r4 size
set_written head b o bytes was old size is part sum r0 r1 r2 r3 r4 p1 p2 p3 p4 i j k l room =
    let counts = length-set_line head b o bytes was old size is part sum in
    let text : ((head ++ encode_upper bytes) ++ old_part was) ++ 10 ∷ [] ≡ spelled_line (edit_words b o (Put bytes was)) =
    ap (λ (h : List ℕ). ((h ++ encode_upper bytes) ++ old_part was) ++ 10 ∷ []) is ∙ set_text b o bytes was in
    let all = IsPut-append _ _ _ _ _ _ _ _ (IsPut-append _ _ _ _ _ _ _ _ (IsPut-append _ _ _ _ _ _ _ _ i j) k) l in
    let whole : IsPut (spelled_line (edit_words b o (Put bytes was))) 0 r0 r4 p4 =
    subst (λ (t : List ℕ). IsPut t 0 r0 r4 p4) text all in
    let end : p4 ≡ size = omega (arith, whole.ends, counts) in
    record {
      counts = counts;
      fits = λ _. IsPut-front _ r0 r4 p4 whole ∙ ap (λ n. spelled_line (edit_words b o (Put bytes was)) ++ drop n r0) end;
      stays = λ less. absurd (omega (arith, less, room));
    }

-- ---- reading back

-- a patch's line that was written is read as the patch
pub written-reads : (p : Patch) → IsPatch p → (e : Edit) → p.edit ≡ e → (old new : List ℕ) (size : ℕ)
    → IsLineWritten (spelled_line (edit_words p.block p.offset e)) old new size → size ≤ length old
    → IsReadAs (take size new) p
written-reads p limits e is old new size written fits =
    let text : spelled_line (edit_words p.block p.offset e) ≡ spelled_patch p =
    ap (λ x. spelled_line (edit_words p.block p.offset x)) (sym is) in
    subst (λ (t : List ℕ). IsReadAs t p)
    (sym (ap (take size) (written.fits fits)
    ∙ take_at _ (drop size old) size (sym written.counts) ∙ text))
    (reads-spelled p limits)
