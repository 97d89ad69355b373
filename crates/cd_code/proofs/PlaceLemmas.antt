-- Lemmas about code words as lists of places, and about the bytes of a sector at these places.
use Rattle.std.proofs.Common.{◌≡◌, ℕ, ◌+◌, ◌*◌, ◌/◌, ◌%◌, ◌<◌, List, [], ◌∷◌, ◌++◌, length, get_or, refl, sym, ap, ap₂, ◌∙◌, arith}
use Rattle.std.proofs.lemmas.List.{ext_get_or, get_or-map, get_or_append_left, length-map, map-append}
use Rattle.std.proofs.lemmas.List.FromFn.{get_or-map-range_with_len}
use Rattle.cd_code.specs.Field.{AreBytes}
use Rattle.cd_code.proofs.ByteLemmas.{AreBytes-map}
use Rattle.cd_code.specs.CodeWords.{place_of, column_of, column_places, column_input, diagonal_of, diagonal_pair, diagonal_places, diagonal_input, bytes_at}

-- ---- the places

pub column_places-parts : (plane n : ℕ)
    → column_places plane n
    ≡ column_input plane n ++ place_of plane (1032 + n) ∷ place_of plane (1075 + n) ∷ []
unfolding column_places column_input
column_places-parts plane n = refl

pub length-column_input : (plane n : ℕ) → length (column_input plane n) ≡ 24
unfolding column_input
length-column_input plane n = refl

pub column_input_place : (plane n m : ℕ) → m < 24
    → get_or (column_input plane n) m 0 ≡ place_of plane (43 * m + n)
unfolding column_input
column_input_place plane n m h =
    get_or-map-range_with_len (λ k. place_of plane (43 * k + n)) 0 24 m m 0 h (omega arith)

pub diagonal_places-parts : (plane n : ℕ)
    → diagonal_places plane n ≡ diagonal_input plane n ++ diagonal_pair plane n
unfolding diagonal_places
diagonal_places-parts plane n = refl

pub length-column_places : (plane n : ℕ) → length (column_places plane n) ≡ 26
unfolding column_places
length-column_places plane n = refl

pub length-diagonal_places : (plane n : ℕ) → length (diagonal_places plane n) ≡ 45
unfolding diagonal_places diagonal_input
length-diagonal_places plane n = refl

pub length-diagonal_input : (plane n : ℕ) → length (diagonal_input plane n) ≡ 43
unfolding diagonal_input
length-diagonal_input plane n = refl

pub column_place : (plane n m : ℕ) → m < 26
    → get_or (column_places plane n) m 0 ≡ place_of plane (43 * m + n)
unfolding column_places
column_place plane n m h =
    get_or-map-range_with_len (λ k. place_of plane (43 * k + n)) 0 26 m m 0 h (omega arith)

pub diagonal_input_place : (plane n m : ℕ) → m < 43
    → get_or (diagonal_input plane n) m 0 ≡ place_of plane ((44 * m + 43 * n) % 1118)
unfolding diagonal_input
diagonal_input_place plane n m h =
    get_or-map-range_with_len (λ k. place_of plane ((44 * k + 43 * n) % 1118)) 0 43 m m 0
    h (omega arith)

pub diagonal_place : (plane n m : ℕ) → m < 43
    → get_or (diagonal_places plane n) m 0 ≡ place_of plane ((44 * m + 43 * n) % 1118)
diagonal_place plane n m h =
    let pair = place_of plane (1118 + n) ∷ place_of plane (1144 + n) ∷ [] in
    ap (λ ps. get_or ps m 0) (diagonal_places-parts plane n)
    ∙ get_or_append_left (diagonal_input plane n) pair 0 m
    (omega (arith, length-diagonal_input plane n))
    ∙ diagonal_input_place plane n m h

pub diagonal_place-first : (plane n : ℕ)
    → get_or (diagonal_places plane n) 43 0 ≡ place_of plane (1118 + n)
unfolding diagonal_places diagonal_input
diagonal_place-first plane n = refl

pub diagonal_place-second : (plane n : ℕ)
    → get_or (diagonal_places plane n) 44 0 ≡ place_of plane (1144 + n)
unfolding diagonal_places diagonal_input
diagonal_place-second plane n = refl

-- ---- the bytes at them

pub length-bytes_at : (s ps : List ℕ) → length (bytes_at s ps) ≡ length ps
unfolding bytes_at
length-bytes_at s ps = length-map ps (λ p. get_or s p 0)

pub bytes_at-byte : (s ps : List ℕ) (k : ℕ) → k < length ps
    → get_or (bytes_at s ps) k 0 ≡ get_or s (get_or ps k 0) 0
unfolding bytes_at
bytes_at-byte s ps k h = get_or-map (λ p. get_or s p 0) ps k 0 0 h

pub bytes_at-append : (s ps qs : List ℕ) → bytes_at s (ps ++ qs) ≡ bytes_at s ps ++ bytes_at s qs
unfolding bytes_at
bytes_at-append s ps qs = map-append (λ p. get_or s p 0) ps qs

pub bytes_at-two : (s : List ℕ) (p q : ℕ)
    → bytes_at s (p ∷ q ∷ []) ≡ get_or s p 0 ∷ get_or s q 0 ∷ []
unfolding bytes_at
bytes_at-two s p q = refl

pub AreBytes-bytes_at : (s ps : List ℕ) → AreBytes s → AreBytes (bytes_at s ps)
unfolding bytes_at
AreBytes-bytes_at s ps h = AreBytes-map (λ p. get_or s p 0) ps h

-- two sectors that agree at the places have the same bytes there
pub bytes_at-same : (s t ps : List ℕ)
    → ((k : ℕ) → k < length ps → get_or s (get_or ps k 0) 0 ≡ get_or t (get_or ps k 0) 0)
    → bytes_at s ps ≡ bytes_at t ps
bytes_at-same s t ps h =
    ext_get_or 0 (bytes_at s ps) (bytes_at t ps) (length-bytes_at s ps ∙ sym (length-bytes_at t ps))
    (λ k inside.
    let below : k < length ps = omega (arith, length-bytes_at s ps) in
    bytes_at-byte s ps k below ∙ h k below ∙ sym (bytes_at-byte t ps k below))

-- the bytes of a word are those of its input and its parity pair
word-parts : (s input : List ℕ) (p q a b : ℕ) → p ≡ a → q ≡ b
    → bytes_at s (input ++ p ∷ q ∷ []) ≡ bytes_at s input ++ get_or s a 0 ∷ get_or s b 0 ∷ []
word-parts s input p q a b e f =
    bytes_at-append s input (p ∷ q ∷ [])
    ∙ ap (λ v. bytes_at s input ++ v)
    (bytes_at-two s p q ∙ ap₂ (λ x y. get_or s x 0 ∷ get_or s y 0 ∷ []) e f)

pub column_of-parts : (s : List ℕ) (i : ℕ)
    → column_of s i
    ≡ bytes_at s (column_input (i % 2) (i / 2)) ++ get_or s (2076 + i) 0
    ∷ get_or s (2076 + 86 + i) 0 ∷ []
column_of-parts s i =
    ap (bytes_at s) (column_places-parts (i % 2) (i / 2))
    ∙ word-parts s (column_input (i % 2) (i / 2)) (place_of (i % 2) (1032 + i / 2))
    (place_of (i % 2) (1075 + i / 2)) (2076 + i) (2076 + 86 + i) (omega arith) (omega arith)

pub diagonal_of-parts : (s : List ℕ) (i : ℕ)
    → diagonal_of s i
    ≡ bytes_at s (diagonal_input (i % 2) (i / 2)) ++ get_or s (2248 + i) 0
    ∷ get_or s (2248 + 52 + i) 0 ∷ []
diagonal_of-parts s i =
    ap (bytes_at s) (diagonal_places-parts (i % 2) (i / 2))
    ∙ word-parts s (diagonal_input (i % 2) (i / 2)) (place_of (i % 2) (1118 + i / 2))
    (place_of (i % 2) (1144 + i / 2)) (2248 + i) (2248 + 52 + i) (omega arith) (omega arith)

-- a property of all words by number is a property of all words by plane
pub plane-by_number : (P : ℕ → ℕ → Type 0) (count : ℕ)
    → ((i : ℕ) → i < 2 * count → P (i % 2) (i / 2))
    → (plane n : ℕ) → plane < 2 → n < count → P plane n
plane-by_number P count h plane n hp hn =
    let e : (2 * n + plane) % 2 ≡ plane = omega arith in
    let f : (2 * n + plane) / 2 ≡ n = omega arith in
    rw e at (rw f at (h (2 * n + plane) (omega arith)))
