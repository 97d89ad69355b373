-- The code words of one direction, columns or diagonals, as places of a sector whose bytes change.
use Rattle.std.proofs.Common.{◌≡◌, ◌≢◌, ◌⊎◌, ℕ, ◌<◌, ◌-◌, inl, inr, List, [], ◌∷◌, length, get_or}
use Rattle.std.proofs.Common.{bit_xor, refl, sym, ap, ◌∙◌, arith}
use Rattle.std.specs.List.{AllByRecursion}
use Rattle.std.proofs.lemmas.Bool.{cases_eq}
use Rattle.std.proofs.lemmas.List.{ext_get_or, get_or-set_same, get_or-set_other, length-set}
use Rattle.cd_code.specs.Field.{AreBytes}
use Rattle.cd_code.specs.Syndrome.{Balances, SameSums, first_syndrome, second_syndrome, with_added}
use Rattle.cd_code.specs.CodeWords.{bytes_at}
use Rattle.cd_code.proofs.PlaceLemmas.{AreBytes-bytes_at, length-bytes_at, bytes_at-byte}
use Rattle.cd_code.proofs.PlaceLemmas.{bytes_at-same}
use Rattle.cd_delta.specs.declared.changes.Change.{Change}
use Rattle.cd_delta.specs.ParityChanges.{with_changes}
use Rattle.cd_delta.proofs.AddLemmas.{AreBytes-added, length-added}

-- the places of each word: `count` words in a plane, of `len` places each
pub record Words : Type 0 where
  pub places : ℕ → ℕ → List ℕ
  pub count : ℕ
  pub len : ℕ

-- place q is number k of word n of plane l
pub record IsIn (w : Words) (l n k q : ℕ) : Type 0 where
  pub plane : l < 2
  pub word : n < w.count
  pub index : k < w.len
  pub at : get_or (w.places l n) k 0 ≡ q

-- a place is in only one word of a direction, at only one index
pub record AreApart (w : Words) : Type 0 where
  pub size : (l n : ℕ) → length (w.places l n) ≡ w.len
  pub below : (l n k q : ℕ) → IsIn w l n k q → q < 2352
  pub apart : (l n k p m i q : ℕ) → IsIn w l n k q → IsIn w p m i q
      → (l ≡ p) × (n ≡ m) × (k ≡ i)

-- a place is not in a word
abbrev pub Misses : List ℕ → ℕ → Type 0
Misses ps q = (k : ℕ) → k < length ps → get_or ps k 0 ≢ q

-- a list of bytes that is as long as a sector
pub record IsSector (s : List ℕ) : Type 0 where
  pub bytes : AreBytes s
  pub size : length s ≡ 2352

-- a change at index i of a word changes the word's byte i
hit : {w : Words} {l n i q : ℕ} (s : List ℕ) (d : ℕ) → AreApart w → IsIn w l n i q → length s ≡ 2352
    → bytes_at (with_added s q d) (w.places l n) ≡ with_added (bytes_at s (w.places l n)) i d
hit {w} {l} {n} {i} {q} s d apart is long =
    let ps = w.places l n in
    let v = bytes_at s ps in
    let x = bit_xor (get_or s q 0) d in
    let y = bit_xor (get_or v i 0) d in
    let size = apart.size l n in
    let below = apart.below l n i q is in
    let short = length-bytes_at s ps in
    let changed_short = length-bytes_at (with_added s q d) ps in
    ext_get_or 0 (bytes_at (with_added s q d) ps) (with_added v i d)
    (changed_short ∙ sym (length-set v i y ∙ short))
    (λ k inside.
    let within : k < length ps = omega arith in
    let new = bytes_at-byte (with_added s q d) ps k within in
    let old = bytes_at-byte s ps k within in
    elim (cases_eq k i) [
      | inl same ↦
          let in_word : i < length v = (let h = is.index in omega arith) in
          let one = get_or-set_same s q x 0 (omega arith) in
          let two = get_or-set_same v i y 0 in_word in
          let at = is.at in
          cc
      | inr differ ↦
          let k_in : k < w.len = omega arith in
          let elsewhere : get_or ps k 0 ≢ q =
          (λ at.
          let here : IsIn w l n k q =
          record { plane = is.plane; word = is.word; index = k_in; at = at } in
          differ (apart.apart l n k l n i q here is).2) in
          let one = get_or-set_other s q (get_or ps k 0) x 0 elsewhere in
          let two = get_or-set_other v i k y 0 differ in
          cc
    ])

-- a place of one word is not in any other
misses : {w : Words} {p m i q : ℕ} → AreApart w → (l n : ℕ) → l < 2 → n < w.count → IsIn w p m i q
    → (l ≢ p) ⊎ (n ≢ m) → Misses (w.places l n) q
misses {w} {p} {m} {i} {q} apart l n hl hn is differ k inside at =
    let long = apart.size l n in
    let k_in : k < w.len = omega arith in
    let here : IsIn w l n k q = record { plane = hl; word = hn; index = k_in; at = at } in
    let same = apart.apart l n k p m i q here is in
    elim differ [ inl plane ↦ plane same.0 | inr word ↦ word same.1 ]

-- changes of other bytes leave a word as it is
pub misses_all : (cs : List Change) (ps s : List ℕ) → AllByRecursion (λ c. Misses ps c.place) cs
    → bytes_at (with_changes s cs) ps ≡ bytes_at s ps
misses_all [] ps s all = refl
misses_all (c ∷ cs) ps s all =
    let x = bit_xor (get_or s c.place 0) c.d in
    misses_all cs ps (with_added s c.place c.d) all.1
    ∙ bytes_at-same (with_added s c.place c.d) s ps
    (λ k inside. get_or-set_other s c.place (get_or ps k 0) x 0 (all.0 k inside))

-- ---- three changes in one word

-- byte i of word m of plane p changes, and with it the word's two parity bytes
pub record IsTrio (w : Words) (p m i : ℕ) (a b c : Change) : Type 0 where
  pub byte : IsIn w p m i a.place
  pub first : IsIn w p m (w.len - 2) b.place
  pub second : IsIn w p m (w.len - 1) c.place
  pub balances : Balances w.len i a.d b.d c.d
  pub low : (a.d < 256) × (b.d < 256) × (c.d < 256)

-- a sector with the three changes has the same length, and consists of bytes
pub trio_sector : {w : Words} {p m i : ℕ} {a b c : Change} → IsTrio w p m i a b c → (s : List ℕ)
    → IsSector s → IsSector (with_changes s (a ∷ b ∷ c ∷ []))
trio_sector {w} {p} {m} {i} {a} {b} {c} trio s sector =
    let one = with_added s a.place a.d in
    let two = with_added one b.place b.d in
    let bytes_one = AreBytes-added s a.place a.d sector.bytes trio.low.0 in
    let bytes_two = AreBytes-added one b.place b.d bytes_one trio.low.1 in
    record {
      bytes = AreBytes-added two c.place c.d bytes_two trio.low.2;
      size = length-added two c.place c.d ∙ length-added one b.place b.d
          ∙ length-added s a.place a.d ∙ sector.size;
    }

-- all words of one direction have the same sums in t as in s
abbrev pub KeepsSums : Words → List ℕ → List ℕ → Type 0
KeepsSums w t s =
    (l n : ℕ) → l < 2 → n < w.count
    → SameSums (bytes_at t (w.places l n)) (bytes_at s (w.places l n))

-- the three changes keep the sums of their word
trio_keeps-own : {w : Words} {p m i : ℕ} {a b c : Change} → AreApart w → IsTrio w p m i a b c
    → (s : List ℕ) → IsSector s
    → SameSums (bytes_at (with_changes s (a ∷ b ∷ c ∷ [])) (w.places p m)) (bytes_at s (w.places p m))
trio_keeps-own {w} {p} {m} {i} {a} {b} {c} apart trio s sector =
    let ps = w.places p m in
    let v = bytes_at s ps in
    let one = with_added s a.place a.d in
    let long_one : length one ≡ 2352 = length-added s a.place a.d ∙ sector.size in
    let two = with_added one b.place b.d in
    let long_two : length two ≡ 2352 = length-added one b.place b.d ∙ long_one in
    let hit_a = hit s a.d apart trio.byte sector.size in
    let hit_b = hit one b.d apart trio.first long_one ∙ ap (λ u. with_added u (w.len - 2) b.d) hit_a in
    let hits = hit two c.d apart trio.second long_two ∙ ap (λ u. with_added u (w.len - 1) c.d) hit_b in
    let bytes = AreBytes-bytes_at s ps sector.bytes in
    rw hits (trio.balances.keeps v bytes (length-bytes_at s ps ∙ apart.size p m))

-- the three changes keep the sums of every word
pub trio_keeps : {w : Words} {p m i : ℕ} {a b c : Change} → AreApart w → IsTrio w p m i a b c
    → (s : List ℕ) → IsSector s → KeepsSums w (with_changes s (a ∷ b ∷ c ∷ [])) s
trio_keeps {w} {p} {m} {i} {a} {b} {c} apart trio s sector l n hl hn =
    let ps = w.places l n in
    let t = with_changes s (a ∷ b ∷ c ∷ []) in
    let other : (l ≢ p) ⊎ (n ≢ m) → SameSums (bytes_at t ps) (bytes_at s ps) =
    (λ differ.
    let miss_a = misses apart l n hl hn trio.byte differ in
    let miss_b = misses apart l n hl hn trio.first differ in
    let miss_c = misses apart l n hl hn trio.second differ in
    let same = misses_all (a ∷ b ∷ c ∷ []) ps s (miss_a, (miss_b, (miss_c, tt))) in
    record { first = ap first_syndrome same; second = ap second_syndrome same }) in
    elim (cases_eq l p) [
      | inl el ↦ elim (cases_eq n m) [
        | inl en ↦ rw (el, en) (trio_keeps-own apart trio s sector)
        | inr differ ↦ other (inr differ)
      ]
      | inr differ ↦ other (inl differ)
    ]
