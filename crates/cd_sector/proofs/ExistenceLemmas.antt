-- For any front up to the user data there is a sector with this front and the defect of a given
-- sector: the given sector, to which the difference of the fronts is added, with the EDC and the
-- parity of the difference. So for any header and user data there is a consistent sector.
use Rattle.std.proofs.Common.{◌≡◌, ℕ, zero, suc, ◌+◌, ◌-◌, ◌*◌, ◌/◌, ◌%◌, ◌<◌, ◌≤◌, ◌⊎◌, inl, inr, List, [], ◌∷◌, ◌++◌, length, map, get_or, take, drop, replicate, bit_xor, refl, sym, ap, ap₂, ◌∙◌, arith, lit<}
use Rattle.std.specs.List.{range_with_len}
use Rattle.std.specs.Int.{to_le_bytes, w32}
use Rattle.std.specs.Int.Bits.{xor_self, xor_zero_r}
use Rattle.std.specs.Simd.Lanes.{zip2}
use Rattle.std.proofs.Math.Seq.{take-suc}
use Rattle.std.proofs.lemmas.Bool.{cases_lt}
use Rattle.std.proofs.lemmas.List.{get_or_append_left, get_or-append_right, get_or-drop, get_or_past, get_or-take, length-take-le, length-drop, length-append, length-replicate}
use Rattle.std.proofs.lemmas.List.FromFn.{get_or-map-range_with_len, length-map-range_with_len}
use Rattle.std.proofs.lemmas.Nat.{xor_lt}
use Rattle.std.proofs.lemmas.Simd.{length-zip2}
use Rattle.cd_code.specs.Edc.{IsEdc, bits, remainder}
use Rattle.cd_code.specs.Field.{AreBytes, IsSum, double, product}
use Rattle.cd_code.specs.Syndrome.{first_syndrome, second_syndrome}
use Rattle.cd_code.proofs.ByteLemmas.{AreBytes-append, AreBytes-cons, AreBytes-drop, AreBytes-map, AreBytes-replicate, AreBytes-sum, AreBytes-take, AreBytes-word, IsSum-zip, replicate-byte}
use Rattle.cd_code.proofs.general.Lists.{first-part, front-same, get_or-second, part-same}
use Rattle.cd_code.proofs.general.Tables.{bounded_below}
use Rattle.cd_code.proofs.general.Xor.{xor_twice_left}
use Rattle.cd_code.proofs.EdcLemmas.{IsEdc-nil, IsEdc-push}
use Rattle.cd_code.proofs.EdcTableLemmas.{word_at-IsEdc}
use Rattle.cd_code.proofs.FieldLemmas.{product-lt}
use Rattle.cd_code.proofs.SyndromeLemmas.{IsCodeWord-pair, first_syndrome-lt}
use Rattle.cd_code.specs.CodeWords.{AllCodeWords, bytes_at, column_input, diagonal_input}
use Rattle.cd_sector.specs.Defect.{defect_of}
use Rattle.cd_sector.specs.Kind.{sync_field}
use Rattle.cd_sector.specs.Laws.{IsEncoded}
use Rattle.cd_code.proofs.PlaceLemmas.{AreBytes-bytes_at}
use Rattle.cd_code.specs.Filling.{Filled}
use Rattle.cd_code.proofs.ParityLemmas.{columns_made, diagonals_made}
use Rattle.cd_sector.proofs.ParityLemmas.{AllCodeWords-filled}
use Rattle.cd_sector.proofs.ContentLemmas.{content_of, encoded, length-content}
use Rattle.cd_sector.proofs.CarriedLemmas.{defect-same, same-rest, same-syndromes, same-zeros}
use Rattle.cd_sector.proofs.SumLemmas.{AllCodeWords-same, AllCodeWords-sum, SameSyndromes-sum, remainder_of_sum}

-- ---- an EDC word

one_byte : (y : ℕ) → y < 256 → (t : ℕ) × IsEdc (y ∷ []) t
one_byte y h = (_, word_at-IsEdc 0 y (lit< tt) h)

pub edc_of_front : (v : List ℕ) → AreBytes v → (n : ℕ) → n ≤ length v → (w : ℕ) × IsEdc (take n v) w
edc_of_front v h zero k = (0, IsEdc-nil)
edc_of_front v h (suc n) k =
    let before = edc_of_front v h n (omega arith) in
    let x = get_or v n 0 in
    let low : before.0 % 256 < 256 = omega arith in
    let t = one_byte (bit_xor (before.0 % 256) x) (xor_lt 8 (before.0 % 256) x low (h n)) in
    let longer = sym (take-suc v n 0 (omega arith)) in
    (bit_xor (before.0 / 256) t.0, rw longer at (IsEdc-push (take n v) before.0 x t.0 before.1 t.1))

-- ---- parity

-- a list in which the parity of words is in its place
record Made (word : ℕ → List ℕ) (start count : ℕ) (old : List ℕ) : Type 0 where
  sector : List ℕ
  size : length sector ≡ length old
  bytes : AreBytes sector
  filled : Filled word start count count old sector

made : (word : ℕ → List ℕ) (start count : ℕ) (old : List ℕ) → ((i : ℕ) → AreBytes (word i))
    → AreBytes old → start + 2 * count ≤ length old → Made word start count old
made word start count old words each room =
    let plain = λ (i : ℕ). first_syndrome (word i) in
    let mixed = λ (i : ℕ). bit_xor (plain i) (double (double (second_syndrome (word i)))) in
    let first = λ (i : ℕ). product 244 (mixed i) in
    let second = λ (i : ℕ). bit_xor (plain i) (first i) in
    let plain_lt = λ (i : ℕ). first_syndrome-lt (word i) (words i) in
    let first_lt = λ (i : ℕ). product-lt 244 (mixed i) (lit< tt) in
    let second_lt = λ (i : ℕ). xor_lt 8 (plain i) (first i) (plain_lt i) (first_lt i) in
    let front = take start old in
    let ps = map first (range_with_len 0 count) in
    let qs = map second (range_with_len 0 count) in
    let back = drop (start + 2 * count) old in
    let sector = front ++ (ps ++ (qs ++ back)) in
    let front_len : length front ≡ start = length-take-le start old (omega arith) in
    let ps_len : length ps ≡ count = length-map-range_with_len first 0 count in
    let qs_len : length qs ≡ count = length-map-range_with_len second 0 count in
    record {
      sector = sector;
      size = omega (
        arith,
        length-append front (ps ++ (qs ++ back)),
        length-append ps (qs ++ back),
        length-append qs back,
        length-drop (start + 2 * count) old,
      );
      bytes =
          AreBytes-append front (ps ++ (qs ++ back)) (AreBytes-take old start each)
          (AreBytes-append ps (qs ++ back) (AreBytes-map first (range_with_len 0 count) first_lt)
          (AreBytes-append qs back (AreBytes-map second (range_with_len 0 count) second_lt)
          (AreBytes-drop old (start + 2 * count) each)));
      filled = record {
        pairs = λ i h.
            let first_at : get_or sector (start + i) 0 ≡ first i =
            get_or-second front (ps ++ (qs ++ back)) start i front_len
            ∙ get_or_append_left ps (qs ++ back) 0 i (omega arith)
            ∙ get_or-map-range_with_len first 0 count i i 0 h (omega arith) in
            let place : start + count + i ≡ start + (count + i) = omega arith in
            let second_at : get_or sector (start + count + i) 0 ≡ second i =
            ap (λ k. get_or sector k 0) place
            ∙ get_or-second front (ps ++ (qs ++ back)) start (count + i) front_len
            ∙ get_or-second ps (qs ++ back) count i ps_len
            ∙ get_or_append_left qs back 0 i (omega arith)
            ∙ get_or-map-range_with_len second 0 count i i 0 h (omega arith) in
            rw (first_at, second_at)
            (λ v _ firsts seconds. IsCodeWord-pair v (plain i) (second_syndrome (word i)) (first i)
            (plain_lt i) firsts seconds refl);
        stays = λ k h. elim h [
          | inl low ↦
              get_or_append_left front (ps ++ (qs ++ back)) 0 k (omega arith)
              ∙ get_or-take start old k 0 low
          | inr past ↦
              let j = k - (start + 2 * count) in
              let place : k ≡ start + (count + (count + j)) = omega arith in
              let same : start + 2 * count + j ≡ k = omega arith in
              ap (λ n. get_or sector n 0) place
              ∙ get_or-second front (ps ++ (qs ++ back)) start (count + (count + j)) front_len
              ∙ get_or-second ps (qs ++ back) count (count + j) ps_len
              ∙ get_or-second qs back count j qs_len
              ∙ get_or-drop (start + 2 * count) old j 0 ∙ ap (λ n. get_or old n 0) same
        ];
      };
    }

-- the same bytes before the parity, and parity with which all words are code words
record WithWords (old : List ℕ) : Type 0 where
  sector : List ℕ
  size : length sector ≡ 2352
  bytes : AreBytes sector
  words : AllCodeWords sector
  stays : (k : ℕ) → k < 2076 → get_or sector k 0 ≡ get_or old k 0

with_words : (old : List ℕ) → length old ≡ 2352 → AreBytes old → WithWords old
with_words old size each =
    let p = made (λ i. bytes_at old (column_input (i % 2) (i / 2))) 2076 86 old
    (λ i. AreBytes-bytes_at old (column_input (i % 2) (i / 2)) each) each (omega arith) in
    let q = made (λ i. bytes_at p.sector (diagonal_input (i % 2) (i / 2))) 2248 52 p.sector
    (λ i. AreBytes-bytes_at p.sector (diagonal_input (i % 2) (i / 2)) p.bytes) p.bytes
    (omega (arith, p.size)) in
    record {
      sector = q.sector;
      size = q.size ∙ p.size ∙ size;
      bytes = q.bytes;
      words =
          AllCodeWords-filled p.sector q.sector (columns_made old p.sector each p.filled)
          (λ k low. q.filled.stays k (inl low))
          (diagonals_made p.sector q.sector p.bytes q.filled);
      stays = λ k low. q.filled.stays k (inl (omega arith)) ∙ p.filled.stays k (inl low);
    }

-- ---- the EDC

-- the same bytes outside the EDC field, and an EDC that matches the bytes before it
record Checked (old : List ℕ) : Type 0 where
  sector : List ℕ
  size : length sector ≡ 2352
  bytes : AreBytes sector
  divides : remainder (bits (take 2068 sector)) ≡ 0
  stays : (k : ℕ) → (k < 2064) ⊎ (2068 ≤ k) → get_or sector k 0 ≡ get_or old k 0

checked : (old : List ℕ) → length old ≡ 2352 → AreBytes old → Checked old
checked old size h =
    let word = edc_of_front old h 2064 (omega (arith, size)) in
    let four = to_le_bytes w32 word.0 in
    let front = take 2064 old ++ four in
    let back = drop 2068 old in
    let old_len : length (take 2064 old) ≡ 2064 = length-take-le 2064 old (omega (arith, size)) in
    let front_len : length front ≡ 2068 =
    length-append (take 2064 old) four ∙ ap (λ n. n + 4) old_len in
    record {
      sector = front ++ back;
      size = omega (arith, length-append front back, length-drop 2068 old);
      bytes =
          AreBytes-append front back (AreBytes-append (take 2064 old) four
          (AreBytes-take old 2064 h) (AreBytes-word word.0)) (AreBytes-drop old 2068 h);
      divides = ap (λ v. remainder (bits v)) (first-part front back 2068 front_len)
          ∙ word.1.divides;
      stays = λ k out. elim out [
        | inl low ↦
            get_or_append_left front back 0 k (omega arith)
            ∙ get_or_append_left (take 2064 old) four 0 k (omega arith)
            ∙ get_or-take 2064 old k 0 low
        | inr high ↦
            let place : 2068 + (k - 2068) ≡ k = omega arith in
            get_or-append_right front back 2068 k 0 front_len high
            ∙ get_or-drop 2068 old (k - 2068) 0 ∙ ap (λ n. get_or old n 0) place
      ];
    }

-- ---- a sector

pub record HasFront (old front s : List ℕ) : Type 0 where
  pub size : length s ≡ 2352
  pub bytes : AreBytes s
  pub same_front : (k : ℕ) → k < 2064 → get_or s k 0 ≡ get_or front k 0
  pub same_defect : defect_of s ≡ defect_of old

pub front_found : (old front : List ℕ) → length old ≡ 2352 → AreBytes old → length front ≡ 2064
    → AreBytes front → (s : List ℕ) × HasFront old front s
front_found old front size each long front_each =
    let content = front ++ drop 2064 old in
    let content_size : length content ≡ 2352 =
    omega (arith, length-append front (drop 2064 old), length-drop 2064 old) in
    let content_each = AreBytes-append front (drop 2064 old) front_each
    (AreBytes-drop old 2064 each) in
    let difference = zip2 bit_xor old content in
    let differs = IsSum-zip old content (size ∙ sym content_size) in
    let edc = checked difference
    (length-zip2 bit_xor old content (size ∙ sym content_size) ∙ size)
    (AreBytes-sum differs each content_each) in
    let made = with_words edc.sector edc.size edc.bytes in
    let filled = made.sector in
    let new = zip2 bit_xor old filled in
    let new_size = length-zip2 bit_xor old filled (size ∙ sym made.size) ∙ size in
    let sum = IsSum-zip old filled (size ∙ sym made.size) in
    let kept : (k : ℕ) → get_or filled k 0 ≡ get_or difference k 0
    → get_or new k 0 ≡ get_or content k 0 =
    (λ k stays. sum.byte k ∙ ap (bit_xor (get_or old k 0)) (stays ∙ differs.byte k)
    ∙ xor_twice_left (get_or old k 0) (get_or content k 0)) in
    let back : (k : ℕ) → 2064 ≤ k → get_or content k 0 ≡ get_or old k 0 =
    (λ k past. let place : 2064 + (k - 2064) ≡ k = omega arith in
    get_or-append_right front (drop 2064 old) 2064 k 0 long past
    ∙ get_or-drop 2064 old (k - 2064) 0 ∙ ap (λ n. get_or old n 0) place) in
    let divides : remainder (bits (take 2068 filled)) ≡ 0 =
    ap (λ v. remainder (bits v))
    (front-same filled edc.sector 2068 (omega (arith, made.size)) (omega (arith, edc.size))
    (λ k h. made.stays k (omega arith))) ∙ edc.divides in
    let rest = remainder (bits (take 2068 old)) in (
      new,
      record {
        size = new_size;
        bytes = AreBytes-sum sum each made.bytes;
        same_front = λ k h.
            kept k (made.stays k (omega arith) ∙ edc.stays k (inl h))
            ∙ get_or_append_left front (drop 2064 old) 0 k (omega (arith, long));
        same_defect =
            defect-same new old
            (part-same new old 2068 8 (omega (arith, new_size)) (omega (arith, size))
            (λ k low high.
            kept k (made.stays k high ∙ edc.stays k (inr low)) ∙ back k (omega arith)))
            (remainder_of_sum new old filled sum new_size size made.size
            ∙ ap (bit_xor rest) divides ∙ xor_zero_r rest)
            (SameSyndromes-sum new old filled sum made.words);
      },
    )

-- ---- a consistent sector

AreBytes-sync : AreBytes sync_field
AreBytes-sync = λ i. elim (cases_lt i 12) [
  | inl inside ↦ bounded_below (λ k. get_or sync_field k 0) 256 12 refl i inside
  | inr past ↦ let e : get_or sync_field i 0 ≡ 0 = get_or_past sync_field i 0 past in rw e (lit< tt)
]

-- 2352 bytes 00, which have no defect
nothing : List ℕ
nothing = replicate 2352 0

length-nothing : length nothing ≡ 2352
unfolding nothing
length-nothing = length-replicate {A = ℕ} 2352 0

AreBytes-nothing : AreBytes nothing
unfolding nothing
AreBytes-nothing = AreBytes-replicate 2352

nothing-byte : (i : ℕ) → get_or nothing i 0 ≡ 0
unfolding nothing
nothing-byte i = replicate-byte 2352 i

pub sector_found : (header user : List ℕ) → AreBytes header → length header ≡ 3 → AreBytes user
    → length user ≡ 2048
    → (s : List ℕ) × IsEncoded header user s
sector_found header user header_bytes header_size user_bytes user_size =
    let one : AreBytes (1 ∷ user) = AreBytes-cons 1 user (lit< tt) user_bytes in
    let found = front_found nothing (content_of header user) length-nothing AreBytes-nothing
    (length-content header user header_size user_size)
    (AreBytes-append sync_field (header ++ 1 ∷ user) AreBytes-sync
    (AreBytes-append header (1 ∷ user) header_bytes one)) in
    let s = found.0 in
    let has = found.1 in
    let sum : IsSum nothing nothing nothing =
    record { byte = λ i. nothing-byte i ∙ sym (ap₂ bit_xor (nothing-byte i) (nothing-byte i)) } in
    let none = AllCodeWords-sum nothing nothing nothing sum
    (same-syndromes nothing nothing refl) in (
      s,
      encoded header user s header_size user_size has.size has.bytes has.same_front
          (λ k low high. same-zeros s nothing has.same_defect k low high ∙ nothing-byte k)
          (same-rest s nothing has.same_defect
          ∙ remainder_of_sum nothing nothing nothing sum length-nothing length-nothing
          length-nothing ∙ xor_self (remainder (bits (take 2068 nothing))))
          (AllCodeWords-same (same-syndromes s nothing has.same_defect) none),
    )
