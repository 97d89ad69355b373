-- A text is cut after its first line.
use Rattle.std.proofs.Common.{◌≡◌, ◌+◌, ◌-◌, ◌<◌, ◌≤◌, ◌⊎◌, inl, inr, ℕ, suc, false, List, [], ◌∷◌, ◌++◌, length, length-take, take, drop, slice_index, refl, subst, sym, ap, ◌∙◌, arith, add-one}
use Rattle.std.specs.Str.Lines.{lines, strip_carriage_return}
use Rattle.std.proofs.lemmas.Bool.{eqb-true, false_from_ne_true}
use Rattle.std.proofs.lemmas.List.{get_or-take, get_or_default, take-append-drop, take_all, drop_all, take-take, take_more, drop-append-le, drop-take}
use Rattle.std.proofs.Math.Seq.{drop-cons}
use Rattle.memchr.specs.Find.{Nowhere, NoneBefore, Passes}
use Rattle.cd_script.specs.LineEnd.{IsLineEnd}
use Rattle.cd_script.proofs.general.Lines.{NoFeed, is_feed, lines-cut, lines-last}

-- the first line feed, and the text before and after it
pub first-cut : (text : List ℕ) (k size : ℕ)
    → NoneBefore (Passes is_feed text) 0 (length text) k × Passes is_feed text k
    → take size (take k text) ≡ strip_carriage_return (take k text) → size ≤ length (take k text)
    → lines text ≡ take size text ∷ lines (drop (k + 1) text)
first-cut text k size found line most =
    let lt : k < length text = found.0.high in
    let later = drop (suc k) text in
    let tail : drop k text ≡ slice_index text k ∷ later = drop-cons text k 0 lt in
    let feed : slice_index text k ≡ 10 = eqb-true _ _ found.1 in
    let none : NoFeed (take k text) = λ i d small.
    let below : i < k = omega (arith, length-take k text) in
    rw (get_or-take k text i d below)
    (subst (λ (b : ℕ). is_feed b ≡ false) (get_or_default text i 0 d (omega arith))
    (false_from_ne_true _ (found.0.before i (omega arith) below))) in
    let shorter : take size (take k text) ≡ take size text =
    take-take size k text (omega (arith, length-take k text)) in
    ap lines (sym (take-append-drop k text) ∙ ap (λ (l : List ℕ). take k text ++ l)
    (tail ∙ ap (λ (b : ℕ). b ∷ later) feed))
    ∙ lines-cut (take k text) later none
    ∙ ap (λ (l : List ℕ). l ∷ lines later) (sym line ∙ shorter)
    ∙ ap (λ (n : ℕ). take size text ∷ lines (drop n text)) (sym (add-one k))

-- the last line of a text without a line feed
pub first-last : (text : List ℕ) → Nowhere (Passes is_feed text) 0 (length text)
    → 0 < length text
    → lines text ≡ take (length text) text ∷ lines (drop (length text) text)
first-last text never some =
    let none : NoFeed text = λ k d lt.
    subst (λ (b : ℕ). is_feed b ≡ false) (get_or_default text k 0 d lt)
    (false_from_ne_true _ (never k (omega arith) lt)) in
    let front = take_all (length text) text (omega arith) in
    let back = drop_all (length text) text (omega arith) in
    lines-last text none some ∙ sym (rw (front, back) refl)

-- the line end at the first line feed
pub feed-end : (text : List ℕ) (k size : ℕ)
    → NoneBefore (Passes is_feed text) 0 (length text) k × Passes is_feed text k
    → size ≤ length (take k text)
    → (drop size (take k text) ≡ []) ⊎ (drop size (take k text) ≡ 13 ∷ [])
    → IsLineEnd text size (k + 1)
feed-end text k size found most back =
    let lt : k < length text = found.0.high in
    let feed : slice_index text k ≡ 10 = eqb-true _ _ found.1 in
    let whole : size + (k + 1 - size) ≡ k + 1 = omega (arith, length-take k text) in
    let cut : take (k + 1 - size) (drop size text) ≡ drop size (take k text) ++ 10 ∷ [] =
    sym (drop-take size (k + 1 - size) text) ∙ ap (λ (n : ℕ). drop size (take n text)) whole
    ∙ ap (drop size) (take_more text k 0 lt)
    ∙ ap (λ (b : ℕ). drop size (take k text ++ b ∷ [])) feed
    ∙ drop-append-le size (take k text) (10 ∷ []) most in
    elim back [
      | inl none ↦ inl (cut ∙ ap (λ (l : List ℕ). l ++ 10 ∷ []) none)
      | inr return ↦ inr (inl (cut ∙ ap (λ (l : List ℕ). l ++ 10 ∷ []) return))
    ]
