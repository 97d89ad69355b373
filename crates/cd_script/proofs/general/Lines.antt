-- The lines of the crate `bstr` are the lines of std.
use Rattle.std.proofs.Common.{◌≡◌, ◌+◌, ◌-◌, ◌<◌, ◌≤◌, ℕ, zero, suc, Bool, false, ◌==◌, ◌&&◌, List, [], ◌∷◌, ◌++◌, length, length-append, length-drop, length-take, take, drop, slice_index, map, refl, sym, ap, ◌∙◌, arith, inl, inr, append_assoc}
use Rattle.std.specs.Prelude.{All, nat_lt}
use Rattle.std.specs.List.{slice_split, position_or_len, before_first, after_first}
use Rattle.std.specs.Str.Lines.{lines, lines_of_parts, strip_carriage_return}
use Rattle.std.proofs.Math.Bool.{and-false}
use Rattle.std.proofs.Math.Seq.{get_or-append_seam}
use Rattle.std.proofs.lemmas.List.{take_at, drop_at, take_all, drop_all, get_or_append_left, get_or-take}
use Rattle.std.proofs.lemmas.List.Splits.{slice_split_none, slice_split_at, length-slice_split}
use Rattle.std.proofs.lemmas.List.Sums.{fails_before_first, passes_at_first, split_at_first}
use Rattle.std.proofs.lemmas.Bool.{cases_lt, cond-true, cond-false, eqb-true, eqb-false, eq-eqb, ne_eqb}
use Rattle.std.proofs.lemmas.Bool.Decides.{nat_tests}
use Rattle.bstr.specs.Text.{line_len, lines_of, no_cr, without_terminator}
use Rattle.bstr.proofs.lemmas.LineLemmas.{lines-step, lines-nil, line_len-at, line_len-none}

-- whether a byte ends a line
abbrev pub is_feed : ℕ → Bool
is_feed b = b == 10

-- there is no line feed among the bytes
abbrev pub NoFeed : List ℕ → Type 0
NoFeed = All (λ b. is_feed b ≡ false)

no_feed_at : (l : List ℕ) (k : ℕ) → NoFeed l → k < length l → slice_index l k ≡ 10 → ⊥
no_feed_at l k none lt = eqb-false _ _ (none k 0 lt)

lines_of_parts-cons : (l : List ℕ) (parts : List (List ℕ)) → 0 < length parts
    → lines_of_parts (l ∷ parts) ≡ strip_carriage_return l ∷ lines_of_parts parts
lines_of_parts-cons l [] some = absurd (omega arith)
lines_of_parts-cons l (x ∷ parts) some = refl

-- a line, cut at its line feed
pub lines-cut : (l rest : List ℕ) → NoFeed l
    → lines (l ++ 10 ∷ rest) ≡ strip_carriage_return l ∷ lines rest
lines-cut l rest none =
    ap lines_of_parts (slice_split_at is_feed l 10 rest none refl)
    ∙ lines_of_parts-cons l (slice_split is_feed rest)
    (omega (arith, length-slice_split is_feed rest))

-- a line without a line feed
pub lines-last : (l : List ℕ) → NoFeed l → 0 < length l → lines l ≡ l ∷ []
lines-last l none some =
    ap lines_of_parts (slice_split_none is_feed l none)
    ∙ cond-false _ _ _ (ne_eqb (length l) 0 (λ z. omega arith))

regroup : (l rest : List ℕ) → l ++ 10 ∷ rest ≡ (l ++ 10 ∷ []) ++ rest
regroup l rest = sym (append_assoc l (10 ∷ []) rest)

lines_of-cut : (l rest : List ℕ) → NoFeed l
    → lines_of (l ++ 10 ∷ rest) ≡ (l ++ 10 ∷ []) ∷ lines_of rest
lines_of-cut l rest none =
    let bs = l ++ 10 ∷ rest in
    let long = length-append l (10 ∷ rest) in
    let short = length-append l (10 ∷ []) in
    let first : line_len bs ≡ length l + 1 =
    line_len-at bs (length l) (omega arith) (get_or-append_seam l 10 rest 0)
    (λ k lt. rw (get_or_append_left l (10 ∷ rest) 0 k lt) (no_feed_at l k none lt)) in
    let front : take (length l + 1) bs ≡ l ++ 10 ∷ [] =
    ap (take (length l + 1)) (regroup l rest)
    ∙ take_at (l ++ 10 ∷ []) rest (length l + 1) (omega arith) in
    let back : drop (length l + 1) bs ≡ rest =
    ap (drop (length l + 1)) (regroup l rest)
    ∙ drop_at (l ++ 10 ∷ []) rest (length l + 1) (omega arith) in
    lines-step bs (omega arith) ∙ rw (first, front, back) refl

lines_of-last : (l : List ℕ) → NoFeed l → 0 < length l → lines_of l ≡ l ∷ []
lines_of-last l none some =
    lines-step l some
    ∙ rw (
      line_len-none l (λ k lt. no_feed_at l k none lt),
      take_all (length l) l (omega arith),
      drop_all (length l) l (omega arith),
      lines-nil,
    ) refl

no_cr-is : (l : List ℕ) → no_cr l ≡ strip_carriage_return l
no_cr-is [] = refl
no_cr-is (b ∷ l) = grind (arith, nat_tests)

at_feed : (x : List ℕ) → 0 < length x → slice_index x (length x - 1) ≡ 10
    → without_terminator x ≡ no_cr (take (length x - 1) x)
at_feed [] some feed = absurd (omega arith)
at_feed (b ∷ x) some feed =
    cond-true _ _ _ (ap (λ (t : Bool). nat_lt 0 (length (b ∷ x)) && t) (eq-eqb _ _ feed)
    ∙ grind (arith, nat_tests))

without_terminator-cut : (l : List ℕ) → without_terminator (l ++ 10 ∷ []) ≡ strip_carriage_return l
without_terminator-cut l =
    let long = length-append l (10 ∷ []) in
    let place : length (l ++ 10 ∷ []) - 1 ≡ length l = omega arith in
    let feed : slice_index (l ++ 10 ∷ []) (length (l ++ 10 ∷ []) - 1) ≡ 10 =
    ap (slice_index (l ++ 10 ∷ [])) place ∙ get_or-append_seam l 10 [] 0 in
    let front : take (length (l ++ 10 ∷ []) - 1) (l ++ 10 ∷ []) ≡ l =
    ap (λ (n : ℕ). take n (l ++ 10 ∷ [])) place ∙ take_at l (10 ∷ []) (length l) refl in
    at_feed (l ++ 10 ∷ []) (omega arith) feed ∙ ap no_cr front ∙ no_cr-is l

without_terminator-last : (l : List ℕ) → NoFeed l → 0 < length l → without_terminator l ≡ l
without_terminator-last l none some =
    cond-false _ _ _
    (ap (λ (b : Bool). nat_lt 0 (length l) && b) (none (length l - 1) 0 (omega arith))
    ∙ and-false (nat_lt 0 (length l)))

-- by the place of the first line feed
by_first : (bs : List ℕ) (n : ℕ) → length bs ≤ n → map without_terminator (lines_of bs) ≡ lines bs
by_first [] n le = ap (map without_terminator) lines-nil
by_first (b ∷ bs) zero le = absurd (omega arith)
by_first (b ∷ bs) (suc n) le =
    let text = b ∷ bs in
    let at = position_or_len is_feed text in
    elim (cases_lt at (length text)) [
      | inl found ↦
          let l = before_first is_feed text in
          let rest = after_first is_feed text in
          let feed : slice_index text at ≡ 10 =
          eqb-true _ _ (passes_at_first is_feed text 0 found) in
          let parts : text ≡ l ++ 10 ∷ rest =
          split_at_first is_feed text 0 found ∙ ap (λ (c : ℕ). l ++ c ∷ rest) feed in
          let none : NoFeed l = λ k d lt.
          rw (get_or-take at text k d (omega (arith, length-take at text)))
          (fails_before_first is_feed text k d (omega (arith, length-take at text))) in
          let shorter = length-drop (at + 1) text in
          ap (λ (t : List ℕ). map without_terminator (lines_of t)) parts
          ∙ ap (map without_terminator) (lines_of-cut l rest none)
          ∙ ap (λ (t : List ℕ). t ∷ map without_terminator (lines_of rest))
          (without_terminator-cut l)
          ∙ ap (λ (ls : List (List ℕ)). strip_carriage_return l ∷ ls)
          (by_first rest n (omega arith))
          ∙ sym (ap lines parts ∙ lines-cut l rest none)
      | inr absent ↦
          let none : NoFeed text = λ k d lt. fails_before_first is_feed text k d (omega arith) in
          ap (map without_terminator) (lines_of-last text none (omega arith))
          ∙ ap (λ (t : List ℕ). t ∷ []) (without_terminator-last text none (omega arith))
          ∙ sym (lines-last text none (omega arith))
    ]

pub lines-is : (bs : List ℕ) → map without_terminator (lines_of bs) ≡ lines bs
lines-is bs = by_first bs (length bs) (omega arith)
