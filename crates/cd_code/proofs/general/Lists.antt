-- Lemmas about parts of lists by their places, and about lists in chunks.
use Rattle.std.proofs.Common.{◌≡◌, ℕ, zero, suc, ◌+◌, ◌-◌, ◌*◌, ◌<◌, ◌≤◌, List, [], ◌∷◌, ◌++◌, length, get_or, take, drop, refl, sym, ap, ◌∙◌, arith}
use Rattle.std.specs.Simd.{first_chunks}
use Rattle.std.proofs.Math.Seq.{drop-append-add, take-add, take-append_seam}
use Rattle.std.proofs.lemmas.List.{drop-drop, drop-take, ext_get_or, get_or-append-add, get_or-drop, get_or-take, length-drop, length-take-le, take-take, take_all}

-- ---- n elements from a on

pub length-part : (s : List ℕ) (a n : ℕ) → a + n ≤ length s → length (take n (drop a s)) ≡ n
length-part s a n h = length-take-le n (drop a s) (omega (arith, length-drop a s))

pub get_or-part : (s : List ℕ) (a n k : ℕ) → k < n
    → get_or (take n (drop a s)) k 0 ≡ get_or s (a + k) 0
get_or-part s a n k h = get_or-take n (drop a s) k 0 h ∙ get_or-drop a s k 0

-- two lists that agree in these places have the same part
pub part-same : (s t : List ℕ) (a n : ℕ) → a + n ≤ length s → a + n ≤ length t
    → ((i : ℕ) → a ≤ i → i < a + n → get_or s i 0 ≡ get_or t i 0)
    → take n (drop a s) ≡ take n (drop a t)
part-same s t a n inside within h =
    let one = length-part s a n inside in
    let two = length-part t a n within in
    ext_get_or 0 (take n (drop a s)) (take n (drop a t)) (one ∙ sym two)
    (λ k h_k.
    let below : k < n = omega arith in
    get_or-part s a n k below ∙ h (a + k) (omega arith) (omega arith)
    ∙ sym (get_or-part t a n k below))

-- two lists that agree at the front have the same front
pub front-same : (s t : List ℕ) (n : ℕ) → n ≤ length s → n ≤ length t
    → ((i : ℕ) → i < n → get_or s i 0 ≡ get_or t i 0) → take n s ≡ take n t
front-same s t n inside within h =
    part-same s t 0 n (omega arith) (omega arith) (λ i _ below. h i (omega arith))

-- the first n elements of a list that agrees with a list of n elements
pub front-list : (s v : List ℕ) (n : ℕ) → length v ≡ n → n ≤ length s
    → ((i : ℕ) → i < n → get_or s i 0 ≡ get_or v i 0) → take n s ≡ v
front-list s v n long inside h = front-same s v n inside (omega arith) h ∙ take_all n v (omega arith)

-- a part of a list that agrees with another list
pub part-list : (s v : List ℕ) (a : ℕ) → a + length v ≤ length s
    → ((i : ℕ) → i < length v → get_or s (a + i) 0 ≡ get_or v i 0)
    → take (length v) (drop a s) ≡ v
part-list s v a inside h =
    front-list (drop a s) v (length v) refl (omega (arith, length-drop a s))
    (λ i below. get_or-drop a s i 0 ∙ h i below)

-- a part of a list within its first n elements
pub part-of_front : (s front : List ℕ) (n a m : ℕ) → a + m ≤ n → take n s ≡ front
    → take m (drop a s) ≡ take m (drop a front)
part-of_front s front n a m h e =
    let whole : a + (n - a) ≡ n = omega arith in
    sym
    (ap (λ v. take m (drop a v)) (sym e ∙ ap (λ k. take k s) (sym whole))
    ∙ ap (take m) (drop-take a (n - a) s) ∙ take-take m (n - a) (drop a s) (omega arith))

-- ---- joined lists

pub first-part : (v w : List ℕ) (n : ℕ) → length v ≡ n → take n (v ++ w) ≡ v
first-part v w n long = ap (λ k. take k (v ++ w)) (sym long) ∙ take-append_seam v w

-- m elements of the second list, from place a on
pub second-part : (v w : List ℕ) (n a m : ℕ) → length v ≡ n
    → take m (drop (n + a) (v ++ w)) ≡ take m (drop a w)
second-part v w n a m long =
    ap (λ k. take m (drop (k + a) (v ++ w))) (sym long) ∙ ap (take m) (drop-append-add v w a)

-- element k of the second list
pub get_or-second : (v w : List ℕ) (n k : ℕ) → length v ≡ n
    → get_or (v ++ w) (n + k) 0 ≡ get_or w k 0
get_or-second v w n k long =
    ap (λ i. get_or (v ++ w) (i + k) 0) (sym long) ∙ get_or-append-add v w k 0

-- ---- chunks

-- chunk i of the first k chunks
pub get_or-first_chunks : (n k : ℕ) (xs d : List ℕ) (i : ℕ) → i < k
    → get_or (first_chunks n k xs) i d ≡ take n (drop (i * n) xs)
get_or-first_chunks n zero xs d i h = absurd (omega arith)
get_or-first_chunks n (suc k) xs d zero h =
    let e : zero * n ≡ zero = omega arith in
    ap (λ m. take n (drop m xs)) (sym e)
get_or-first_chunks n (suc k) xs d (suc i) h =
    let e : n + i * n ≡ suc i * n = grind arith in
    get_or-first_chunks n k (drop n xs) d i (omega arith)
    ∙ ap (take n) (drop-drop (i * n) n xs ∙ ap (λ m. drop m xs) e)

-- the front of a list, longer by one chunk of n
pub take-chunks : (n i : ℕ) (xs : List ℕ)
    → take ((i + 1) * n) xs ≡ take (i * n) xs ++ take n (drop (i * n) xs)
take-chunks n i xs =
    let e : (i + 1) * n ≡ i * n + n = grind arith in
    ap (λ m. take m xs) e ∙ take-add (i * n) n xs

-- a list of eight elements
pub list_of_eight : (b : List ℕ) → length b ≡ 8
    → b ≡ get_or b 0 0 ∷ get_or b 1 0 ∷ get_or b 2 0 ∷ get_or b 3 0 ∷ get_or b 4 0 ∷ get_or b 5 0
    ∷ get_or b 6 0 ∷ get_or b 7 0 ∷ []
list_of_eight (a ∷ b ∷ c ∷ d ∷ e ∷ f ∷ g ∷ h ∷ []) same = refl
list_of_eight _ same = absurd (omega arith)
