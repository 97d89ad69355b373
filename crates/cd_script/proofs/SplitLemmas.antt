-- A line is split at its spaces and tabs.
use Rattle.std.proofs.Common.{◌≡◌, ◌+◌, ◌-◌, ◌<◌, ◌≤◌, ℕ, suc, Bool, true, false, cond, List, [], ◌∷◌, ◌++◌, length, length-append, length-take, take, drop, slice_index, refl, subst, sym, ap, ◌∙◌, arith, append_assoc}
use Rattle.std.specs.Prelude.{All, filter, not}
use Rattle.std.specs.Borrow.{Bor}
use Rattle.std.specs.List.{onto_first, slice_split}
use Rattle.std.proofs.lemmas.Bool.{cond-true, cond-false, false_from_ne_true, ne_eqb, eq-eqb}
use Rattle.std.proofs.lemmas.List.{append-nil, get_or-take, get_or_default, length-take-le, map-append, take-append-drop, take_all, take_at}
use Rattle.std.proofs.lemmas.List.Elements.{filter-append}
use Rattle.std.proofs.lemmas.List.Splits.{slice_split_none, slice_split_at}
use Rattle.std.proofs.Math.Seq.{drop-cons}
use Rattle.memchr.specs.Find.{Nowhere, NoneBefore, Passes}
use Rattle.cd_script.specs.Script.{is_passed_over}
use Rattle.cd_script.specs.Words.{words, is_space, is_word}
use Rattle.cd_script.proofs.FormLemmas.{seen}

-- ---- a part that is appended to words

pub part_empty : (ws : List (Bor (List ℕ))) (part : List ℕ) → length part ≡ 0
    → seen ws ≡ seen ws ++ filter is_word (part ∷ [])
part_empty ws part empty =
    let none : filter is_word (part ∷ []) ≡ [] =
    cond-false _ _ _ (ap not (eq-eqb (length part) 0 empty)) in
    sym (ap (λ (l : List (List ℕ)). seen ws ++ l) none ∙ append-nil (seen ws))

pub part_pushed : (ws after : List (Bor (List ℕ))) (part : Bor (List ℕ)) → 0 < length part.now
    → after ≡ ws ++ part ∷ []
    → seen after ≡ seen ws ++ filter is_word (part.now ∷ [])
part_pushed ws after part some pushed =
    let word : filter is_word (part.now ∷ []) ≡ part.now ∷ [] =
    cond-true _ _ _ (ap not (ne_eqb (length part.now) 0 (λ e. omega arith))) in
    ap seen pushed ∙ map-append (λ w. w.now) ws (part ∷ [])
    ∙ sym (ap (λ (l : List (List ℕ)). seen ws ++ l) word)

one_or_none : (word : Bool) (part : List ℕ) → length (cond word (part ∷ []) []) ≤ 1
one_or_none true part = omega arith
one_or_none false part = omega arith

pub part-most : (ws after : List (List ℕ)) (part : List ℕ)
    → after ≡ ws ++ filter is_word (part ∷ []) → length after ≤ length ws + 1
part-most ws after part put =
    omega (
      arith,
      ap (λ (l : List (List ℕ)). length l) put,
      length-append ws
          (filter is_word (part ∷ [])),
      one_or_none (is_word part) part,
    )

-- ---- the first words

pub words_full : (n : ℕ) (ws rest all : List (List ℕ)) → ws ++ rest ≡ all → length ws ≡ n
    → ws ≡ take n all
words_full n ws rest all parts full =
    sym (ap (take n) (sym parts) ∙ take_at ws rest n (omega arith))

pub words_all : (n : ℕ) (ws all : List (List ℕ)) → ws ≡ all → length ws ≤ n → ws ≡ take n all
words_all n ws all are few = sym (ap (take n) (sym are) ∙ take_all n ws few)

-- ---- the parts of a line

cut_at : (part : List ℕ) (x : ℕ) (rest : List ℕ) → All (λ b. is_space b ≡ false) part
    → is_space x ≡ true → words (part ++ x ∷ rest) ≡ filter is_word (part ∷ []) ++ words rest
unfolding words
cut_at part x rest none space =
    ap (filter is_word) (slice_split_at is_space part x rest none space)
    ∙ filter-append is_word (part ∷ []) (slice_split is_space rest)

-- spaces before a line
words_spaces : (v rest : List ℕ) → ((k : ℕ) → k < length v → is_space (slice_index v k) ≡ true)
    → words (v ++ rest) ≡ words rest
words_spaces [] rest h = refl
words_spaces (x ∷ v) rest h =
    cut_at [] x (v ++ rest) (λ k d lt. absurd (omega arith)) (h 0 (omega arith))
    ∙ words_spaces v rest (λ k lt. h (suc k) (omega arith))

pub words-skip : (line front after : List ℕ) (n : ℕ) → front ≡ take n line → after ≡ drop n line
    → n ≤ length line → ((k : ℕ) → k < n → is_space (slice_index front k) ≡ true)
    → words after ≡ words line
words-skip line front after n is_front is_after within h =
    let size : length front ≡ n = ap (λ (l : List ℕ). length l) is_front ∙ length-take-le n line within in
    sym (ap words (sym (take-append-drop n line))
    ∙ ap (λ (l : List ℕ). words (l ++ drop n line)) (sym is_front)
    ∙ ap (λ (l : List ℕ). words (front ++ l)) (sym is_after)
    ∙ words_spaces front after (λ k lt. h k (omega arith)))

-- the first space, and the line before and after it
pub words-cut : (line part after rest : List ℕ) (end : ℕ)
    → NoneBefore (Passes is_space line) 0 (length line) end × Passes is_space line end
    → part ≡ take end line → after ≡ drop end line
    → rest ≡ take (length after - 1) (drop 1 after)
    → words line ≡ filter is_word (part ∷ []) ++ words rest
words-cut line part after rest end found is_part is_after is_rest =
    let lt : end < length line = found.0.high in
    let x = slice_index line end in
    let later = drop (suc end) line in
    let tail : drop end line ≡ x ∷ later = drop-cons line end 0 lt in
    let rest_is : rest ≡ later =
    is_rest ∙ ap (λ (b : List ℕ). take (length b - 1) (drop 1 b)) (is_after ∙ tail)
    ∙ take_all (length (x ∷ later) - 1) later (omega arith) in
    let none : All (λ b. is_space b ≡ false) (take end line) = λ k d small.
    let below : k < end = omega (arith, length-take end line) in
    rw (get_or-take end line k d below)
    (subst (λ (b : ℕ). is_space b ≡ false) (get_or_default line k 0 d (omega arith))
    (false_from_ne_true _ (found.0.before k (omega arith) below))) in
    ap words (sym (take-append-drop end line) ∙ ap (λ (l : List ℕ). take end line ++ l) tail)
    ∙ cut_at (take end line) x later none found.1
    ∙ ap (λ (l : List ℕ). filter is_word (l ∷ []) ++ words later) (sym is_part)
    ∙ ap (λ (l : List ℕ). filter is_word (part ∷ []) ++ words l) (sym rest_is)

pub words-last : (line : List ℕ) → Nowhere (Passes is_space line) 0 (length line)
    → words line ≡ filter is_word (line ∷ [])
unfolding words
words-last line never =
    let none : All (λ b. is_space b ≡ false) line = λ k d lt.
    subst (λ (b : ℕ). is_space b ≡ false) (get_or_default line k 0 d lt)
    (false_from_ne_true _ (never k (omega arith) lt)) in
    ap (filter is_word) (slice_split_none is_space line none)

-- ---- the loop

pub part_taken : (ws after : List (List ℕ)) (line part : List ℕ) (rest total : List (List ℕ))
    → after ≡ ws ++ filter is_word (part ∷ []) → words line ≡ filter is_word (part ∷ []) ++ rest
    → ws ++ words line ≡ total → after ++ rest ≡ total
part_taken ws after line part rest total grown cut so_far =
    ap (λ (l : List (List ℕ)). l ++ rest) grown ∙ append_assoc ws (filter is_word (part ∷ [])) rest
    ∙ ap (λ (l : List (List ℕ)). ws ++ l) (sym cut) ∙ so_far

-- ---- lines that are skipped

pub words-empty : (line : List ℕ) → length line ≡ 0 → is_passed_over (words line) ≡ true
unfolding words
words-empty [] none = refl
words-empty (b ∷ rest) none = absurd (omega arith)

first_begins : (parts : List (List ℕ))
    → is_passed_over (filter is_word (onto_first 35 parts)) ≡ true
first_begins [] = refl
first_begins (part ∷ parts) =
    ap is_passed_over
    (cond-true _ _ _ (ap not (ne_eqb (length (35 ∷ part)) 0 (λ e. omega arith))))

pub words-comment : (line : List ℕ) → 1 ≤ length line → slice_index line 0 ≡ 35
    → is_passed_over (words line) ≡ true
unfolding words
words-comment [] some first = absurd (omega arith)
words-comment (b ∷ rest) some first =
    ap (λ c. is_passed_over (filter is_word (slice_split is_space (c ∷ rest)))) first
    ∙ first_begins (slice_split is_space rest)
