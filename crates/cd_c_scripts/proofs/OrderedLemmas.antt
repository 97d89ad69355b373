-- The order of application is the result of a sort by keys of block and line.
use Rattle.std.proofs.Common.{◌≡◌, ℕ, zero, suc, ◌+◌, ◌*◌, ◌<◌, ◌≤◌, ◌⊎◌, inl, inr, cond, List, [], ◌∷◌, length, get_or, refl, sym, ap, ◌∙◌, subst, arith}
use Rattle.std.specs.Prelude.{All, ◌==◌}
use Rattle.std.specs.List.{sum_by}
use Rattle.std.specs.List.Sorted.{IsNonDecreasingBy, IsPermutation}
use Rattle.std.proofs.lemmas.Bool.{cases_lt, cond-true, cond-false, eq-eqb, le-leb, lt-leb, ne_eqb}
use Rattle.std.proofs.lemmas.List.Elements.{All-cons, All-head, All-nil, All-tail}
use Rattle.std.proofs.lemmas.List.Sorted.{All-permutation, IsNonDecreasingBy-drop, sum_by-IsPermutation}
use Rattle.cd_script.specs.PatchForm.{Patch}
use Rattle.cd_script.specs.Order.{insert_patch, order}
use Rattle.cd_script.proofs.OrderLemmas.{order-permutes}
use Rattle.cd_script.specs.ByLine.{meaning_at}
use Rattle.cd_script.specs.declared.by_line.LineContent.{LineContent}
use Rattle.cd_script.specs.declared.by_line.LineContent.TheVariants as content
use Rattle.cd_script.specs.declared.fault.ScriptFault.{ScriptFault}
use Rattle.cd_script.specs.declared.patch.Edit.TheVariants.{Rebuild}
use Rattle.cd_script.specs.declared.version.Version.{Version}
use Rattle.cd_c_scripts.specs.declared.entries.Entry.{Entry}
use Rattle.cd_c_scripts.specs.Entries.{AllBelow, AreEntries, IsEntry, LinesRise, entry_key}
use Rattle.std.specs.Prelude.{Some, Result, Ok, Err, map, take, drop}
use Rattle.std.proofs.lemmas.List.Elements.{All-map}
use Rattle.std.proofs.lemmas.List.Sums.{sum_by-cons}
use Rattle.std.proofs.lemmas.List.Sorted.{IsPermutation-map}

-- the key by which the entries are sorted
abbrev pub key : Patch → ℕ
key p = p.block * 4294967296 + p.line

-- ---- lists whose keys do not decrease

abbrev pub Rises : List Patch → Type 0
Rises [] = Unit {0}
Rises (p ∷ ps) = All (λ q. key p ≤ key q) ps × Rises ps

All-insert : (P : Patch → Type 0) (p : Patch) (qs : List Patch) → P p → All P qs
    → All P (insert_patch p qs)
unfolding insert_patch
All-insert P p [] here others = All-cons P p [] here (All-nil P)
All-insert P p (q ∷ qs) here others = elim (cases_lt q.block p.block) [
  | inl lt ↦
      subst (All P) (sym (cond-false _ _ _ (lt-leb p.block q.block lt)))
      (All-cons P q (insert_patch p qs) (All-head P q qs others)
      (All-insert P p qs here (All-tail P q qs others)))
  | inr ge ↦
      subst (All P) (sym (cond-true _ _ _ (le-leb p.block q.block ge)))
      (All-cons P p (q ∷ qs) here others)
]

rises_insert : (p : Patch) (qs : List Patch) → Rises qs → All (λ q. p.line ≤ q.line) qs
    → p.line < 4294967296 → AllBelow qs → Rises (insert_patch p qs)
unfolding insert_patch
rises_insert p [] rises after small below = (All-nil (λ q. key p ≤ key q), tt)
rises_insert p (q ∷ qs) rises after small below = elim (cases_lt q.block p.block) [
  | inl lt ↦
      subst Rises (sym (cond-false _ _ _ (lt-leb p.block q.block lt))) (
        All-insert (λ r. key q ≤ key r) p qs
            (omega (arith, lt, All-head (λ r. r.line < 4294967296) q qs below)) rises.0,
        rises_insert p qs rises.1 (All-tail (λ r. p.line ≤ r.line) q qs after) small
            (All-tail (λ r. r.line < 4294967296) q qs below),
      )
  | inr ge ↦
      subst Rises (sym (cond-true _ _ _ (le-leb p.block q.block ge))) (
        (
            let first : key p ≤ key q =
            omega (arith, ge, All-head (λ r. p.line ≤ r.line) q qs after) in
            All-cons (λ r. key p ≤ key r) q qs first
            (λ k d inside. omega (arith, first, rises.0 k d inside))
            ),
        rises,
      )
]

-- ---- line numbers that increase along a script

order_rises : (ps : List Patch) → LinesRise ps → AllBelow ps → Rises (order ps)
unfolding order
order_rises [] lines below = tt
order_rises (p ∷ ps) lines below =
    rises_insert p (order ps)
    (order_rises ps lines.1 (All-tail (λ r. r.line < 4294967296) p ps below))
    (All-permutation (λ q. p.line ≤ q.line) ps (order ps) (order-permutes ps)
    (λ k d inside. omega (arith, lines.0 k d inside)))
    (All-head (λ r. r.line < 4294967296) p ps below)
    (All-permutation (λ r. r.line < 4294967296) ps (order ps) (order-permutes ps)
    (All-tail (λ r. r.line < 4294967296) p ps below))

abbrev In : Patch → List Patch → Type 0
In p [] = ⊥
In p (q ∷ qs) = (p ≡ q) ⊎ In p qs

in_self : (ps : List Patch) → All (λ p. In p ps) ps
in_self [] = All-nil (λ p. In p [])
in_self (p ∷ ps) =
    All-cons (λ q. In q (p ∷ ps)) p ps (inl refl) (λ k d inside. inr (in_self ps k d inside))

of_all : (P : Patch → Type 0) (p : Patch) (ps : List Patch) → All P ps → In p ps → P p
of_all P p [] all m = elim m [ ]
of_all P p (q ∷ ps) all (inl is) = subst P (sym is) (All-head P q ps all)
of_all P p (q ∷ ps) all (inr m) = of_all P p ps (All-tail P q ps all) m

same_line : (ps : List Patch) (a b : Patch) → LinesRise ps → In a ps → In b ps → a.line ≡ b.line
    → a ≡ b
same_line [] a b lines m n same = elim m [ ]
same_line (p ∷ ps) a b lines (inl is) (inl is') same = is ∙ sym is'
same_line (p ∷ ps) a b lines (inl is) (inr n) same =
    absurd (omega (arith, same, of_all (λ q. p.line < q.line) b ps lines.0 n, ap (λ (q : Patch). q.line) is))
same_line (p ∷ ps) a b lines (inr m) (inl is) same =
    absurd (omega (arith, same, of_all (λ q. p.line < q.line) a ps lines.0 m, ap (λ (q : Patch). q.line) is))
same_line (p ∷ ps) a b lines (inr m) (inr n) same = same_line ps a b lines.1 m n same

-- ---- two lists with the same elements whose keys do not decrease are equal

has_key : ℕ → Patch → ℕ
has_key n q = cond (key q == n) 1 0

none_has : (n : ℕ) (l : List Patch) → All (λ q. n < key q) l → sum_by (has_key n) l ≡ 0
unfolding has_key
none_has n [] above = refl
none_has n (q ∷ l) above =
    let other : has_key n q ≡ 0 =
    cond-false _ _ _ (ne_eqb (key q) n (λ e. omega (arith, e, All-head (λ r. n < key r) q l above))) in
    let others = none_has n l (All-tail (λ r. n < key r) q l above) in
    omega (arith, other, others, sum_by-cons (has_key n) q l)

first_least : (x y : Patch) (xs ys : List Patch) → All (λ q. key y ≤ key q) ys
    → ((f : Patch → ℕ) → sum_by f (x ∷ xs) ≡ sum_by f (y ∷ ys)) → key y ≤ key x
unfolding has_key
first_least x y xs ys rises sums = elim (cases_lt (key x) (key y)) [
  | inl lt ↦
      let none =
      none_has (key x) (y ∷ ys)
      (All-cons (λ q. key x < key q) y ys lt (λ k d inside. omega (arith, lt, rises k d inside))) in
      let one : has_key (key x) x ≡ 1 = cond-true _ _ _ (eq-eqb (key x) (key x) refl) in
      absurd (omega (arith, none, one, sums (has_key (key x)), sum_by-cons (has_key (key x)) x xs))
  | inr ge ↦ ge
]

unique : (In' : Patch → Type 0) (same : (a b : Patch) → In' a → In' b → key a ≡ key b → a ≡ b)
    (xs ys : List Patch) → Rises xs → Rises ys → All In' xs → All In' ys
    → ((f : Patch → ℕ) → sum_by f xs ≡ sum_by f ys) → xs ≡ ys
unique In' same [] [] a b m n sums = refl
unique In' same [] (y ∷ ys) a b m n sums =
    absurd (omega (arith, sums (λ p. 1), sum_by-cons (λ p. 1) y ys))
unique In' same (x ∷ xs) [] a b m n sums =
    absurd (omega (arith, sums (λ p. 1), sum_by-cons (λ p. 1) x xs))
unique In' same (x ∷ xs) (y ∷ ys) a b m n sums =
    let low = first_least x y xs ys b.0 sums in
    let high = first_least y x ys xs a.0 (λ f. sym (sums f)) in
    let first : x ≡ y =
    same x y (All-head In' x xs m) (All-head In' y ys n) (omega (arith, low, high)) in
    let rest : xs ≡ ys =
    unique In' same xs ys a.1 b.1 (All-tail In' x xs m) (All-tail In' y ys n)
    (λ f. omega (arith, sums f, ap f first, sum_by-cons f x xs, sum_by-cons f y ys)) in
    cc

-- patches of a script whose keys do not decrease are in the order of application
pub order_by_key : (ps qs : List Patch) → LinesRise ps → AllBelow ps → IsPermutation ps qs
    → Rises qs → qs ≡ order ps
order_by_key ps qs lines below moved rising =
    unique (λ p. In p ps × (p.line < 4294967296))
    (λ a b m n same. same_line ps a b lines m.0 n.0 (omega (arith, same, m.1, n.1)))
    qs (order ps) rising (order_rises ps lines below)
    (All-permutation (λ p. In p ps × (p.line < 4294967296)) ps qs moved both)
    (All-permutation (λ p. In p ps × (p.line < 4294967296)) ps (order ps) (order-permutes ps) both)
    (λ f.
    sum_by-IsPermutation f ps qs moved ∙ sym (sum_by-IsPermutation f ps (order ps) (order-permutes ps)))
  where
    both : All (λ p. In p ps × (p.line < 4294967296)) ps
    both = λ k d inside. (in_self ps k d inside, below k d inside)

-- ---- entries

read_patch : Result LineContent ScriptFault → Patch
read_patch (Ok (content.Patch p)) = p
read_patch (Ok content.PassedOver) = record { line = 0; block = 0; offset = 0; edit = Rebuild }
read_patch (Ok (content.Head v)) = record { line = 0; block = 0; offset = 0; edit = Rebuild }
read_patch (Err e) = record { line = 0; block = 0; offset = 0; edit = Rebuild }

module _ (text : List ℕ) (version : Version) where
  -- the patch of an entry
  abbrev of_entry : Entry → Patch
  of_entry e =
      read_patch (meaning_at (Some version) e.number 0 (take e.size (drop e.start text)))

  abbrev Good : Entry → Type 0
  Good e = IsEntry text version 0 e (of_entry e)

  is_of : (e : Entry) (p : Patch) → IsEntry text version 0 e p → of_entry e ≡ p
  unfolding read_patch
  is_of e p entry =
      let first : of_entry e ≡ entry.found = ap read_patch entry.reads.1 in
      let asked : p ≡ entry.found = entry.asked in
      first ∙ sym asked

  good : (e : Entry) (p : Patch) → IsEntry text version 0 e p → Good e
  good e p entry = subst (IsEntry text version 0 e) (sym (is_of e p entry)) entry

  all_good : (es : List Entry) (ps : List Patch) → AreEntries text version 0 es ps → All Good es
  all_good es [] entries = λ k e inside. absurd (omega (arith, inside, entries.count))
  all_good es (p ∷ ps) entries = λ k e inside. good (get_or es k e) _ (entries.each k e p inside)

  are_of : (es : List Entry) (ps : List Patch) → AreEntries text version 0 es ps
      → ps ≡ map of_entry es
  are_of [] [] entries = refl
  are_of [] (p ∷ ps) entries = absurd (omega (arith, entries.count))
  are_of (e ∷ es) [] entries = absurd (omega (arith, entries.count))
  are_of (e ∷ es) (p ∷ ps) entries =
      let first : p ≡ of_entry e = sym (is_of e p (entries.each 0 e p (omega arith))) in
      let others : ps ≡ map of_entry es =
      are_of es ps (record {
        count = omega (arith, entries.count);
        each = λ k f q inside. entries.each (suc k) f q (omega arith);
      }) in
      cc

  are_map : (es : List Entry) → All Good es → AreEntries text version 0 es (map of_entry es)
  are_map [] goods = record { count = refl; each = λ k e p inside. absurd (omega arith) }
  are_map (x ∷ xs) goods =
      let others = are_map xs (All-tail Good x xs goods) in
      record {
        count = omega (arith, others.count);
        each = λ k e p inside. at x xs goods others k e p inside;
      }
    where
      at : (x : Entry) (xs : List Entry) → All Good (x ∷ xs)
          → AreEntries text version 0 xs (map of_entry xs) → (k : ℕ) (e : Entry) (p : Patch)
          → k < length (x ∷ xs)
          → IsEntry text version 0 (get_or (x ∷ xs) k e) (get_or (map of_entry (x ∷ xs)) k p)
      at x xs goods others zero e p inside = All-head Good x xs goods
      at x xs goods others (suc k) e p inside = others.each k e p (omega arith)

  key_of : (e : Entry) → Good e → key (of_entry e) ≡ entry_key e
  key_of e entry =
      let asked : of_entry e ≡ entry.found = entry.asked in
      omega (
        arith,
        entry.block,
        entry.number,
        ap (λ (p : Patch). p.block) asked,
        ap (λ (p : Patch). p.line) asked,
      )

  rises_map : (es : List Entry) → IsNonDecreasingBy entry_key es → All Good es
      → Rises (map of_entry es)
  rises_map [] rising goods = tt
  rises_map (e ∷ es) rising goods = (
    All-map (λ q. key (of_entry e) ≤ key q) of_entry es (λ k d inside.
        omega (
          arith,
          rising 0 (suc k) d (omega arith) (omega arith),
          key_of e (All-head Good e es goods),
          key_of (get_or es k d) (All-tail Good e es goods k d inside),
        )),
    rises_map es (IsNonDecreasingBy-drop entry_key 1 (e ∷ es) rising) (All-tail Good e es goods),
  )

  -- sorted entries are those of the patches in the order of application
  pub sorted_entries : (es es' : List Entry) (ps : List Patch) → LinesRise ps → AllBelow ps
      → AreEntries text version 0 es ps → IsPermutation es es' → IsNonDecreasingBy entry_key es'
      → AreEntries text version 0 es' (order ps)
  sorted_entries es es' ps lines below entries moved rising =
      let goods = all_good es ps entries in
      let goods' = All-permutation Good es es' moved goods in
      let moves : IsPermutation ps (map of_entry es') =
      subst (λ l. IsPermutation l (map of_entry es')) (sym (are_of es ps entries))
      (IsPermutation-map of_entry es es' moved) in
      subst (AreEntries text version 0 es')
      (order_by_key ps (map of_entry es') lines below moves (rises_map es' rising goods'))
      (are_map es' goods')
