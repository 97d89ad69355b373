-- How a sector is encoded: its content in its places, and the fields after it.
use Rattle.std.proofs.Common.{◌≡◌, ℕ, suc, ◌+◌, ◌-◌, ◌<◌, ◌≤◌, ◌⊎◌, inl, List, [], ◌∷◌, ◌++◌, length, get_or, take, drop, refl, sym, ap, ap₂, ◌∙◌, arith, lit<, lit≤, append_assoc}
use Rattle.std.specs.List.{slice_range}
use Rattle.std.proofs.Math.Seq.{take-add}
use Rattle.std.proofs.lemmas.List.{get_or-drop, get_or-take, length-append, length-drop, take-append-drop, take_all}
use Rattle.cd_code.specs.Edc.{bits, remainder}
use Rattle.cd_code.specs.Field.{AreBytes}
use Rattle.cd_code.proofs.general.Lists.{first-part, front-list, front-same, get_or-part, get_or-second, part-list, part-of_front, part-same, second-part}
use Rattle.cd_code.specs.CodeWords.{AllCodeWords}
use Rattle.cd_sector.specs.Consistent.{IsConsistent, header_of, user_of}
use Rattle.cd_sector.specs.Kind.{kind_of, sync_field}
use Rattle.cd_sector.specs.Laws.{IsEncoded}
use Rattle.cd_sector.specs.declared.kinds.SectorKind.TheVariants.{Mode1}
use Rattle.cd_sector.proofs.SectorLemmas.{header_of-same, kind_of-same, mode1-from, sector_unique}

-- ---- the content

-- the front of a sector, up to the end of the user data
abbrev pub content_of : List ℕ → List ℕ → List ℕ
content_of header user = sync_field ++ (header ++ 1 ∷ user)

pub length-content : (header user : List ℕ) → length header ≡ 3 → length user ≡ 2048
    → length (content_of header user) ≡ 2064
length-content header user h k =
    let a : length (header ++ 1 ∷ user) ≡ 2052 =
    length-append header (1 ∷ user) ∙ ap₂ (λ m n. m + suc n) h k in
    length-append sync_field (header ++ 1 ∷ user) ∙ ap (λ n. 12 + n) a

-- a sector with this front, and with the right fields after it, is encoded
pub encoded : (header user s : List ℕ) → length header ≡ 3 → length user ≡ 2048
    → length s ≡ 2352 → AreBytes s
    → ((k : ℕ) → k < 2064 → get_or s k 0 ≡ get_or (content_of header user) k 0)
    → ((k : ℕ) → 2068 ≤ k → k < 2076 → get_or s k 0 ≡ 0)
    → remainder (bits (take 2068 s)) ≡ 0 → AllCodeWords s → IsEncoded header user s
unfolding header_of user_of
encoded header user s size long s_size bytes front zeros divides words =
    let content = content_of header user in
    let whole : take 2064 s ≡ content =
    front-list s content 2064 (length-content header user size long) (omega (arith, s_size)) front in
    let head = header ++ 1 ∷ [] in
    let head_size : length head ≡ 4 = length-append header (1 ∷ []) ∙ ap (λ n. n + 1) size in
    let joined : header ++ 1 ∷ user ≡ head ++ user = sym (append_assoc header (1 ∷ []) user) in
    let begins : s ≡ sync_field ++ drop 12 s =
    sym (take-append-drop 12 s)
    ∙ ap (λ v. v ++ drop 12 s) (part-of_front s content 2064 0 12 (lit≤ tt) whole) in
    let has_header : take 4 (drop 12 s) ≡ head =
    part-of_front s content 2064 12 4 (lit≤ tt) whole
    ∙ second-part sync_field (header ++ 1 ∷ user) 12 0 4 refl ∙ ap (take 4) joined
    ∙ first-part head user 4 head_size in
    let has_user : take 2048 (drop 16 s) ≡ user =
    part-of_front s content 2064 16 2048 (lit≤ tt) whole
    ∙ second-part sync_field (header ++ 1 ∷ user) 12 4 2048 refl
    ∙ ap (λ v. take 2048 (drop 4 v)) joined
    ∙ second-part head user 4 0 2048 head_size ∙ take_all 2048 user (omega arith) in
    let mode : get_or s 15 0 ≡ 1 =
    sym (get_or-part s 12 4 3 (lit< tt)) ∙ ap (λ v. get_or v 3 0) has_header
    ∙ get_or-second header (1 ∷ []) 3 0 size in
    record {
      is_consistent = record {
        size = s_size;
        bytes = bytes;
        mode = mode1-from s (drop 12 s) begins mode;
        zeros = zeros;
        edc = divides;
        words = words;
      };
      has_header = has_header;
      has_user = has_user;
    }

-- the encoded sector is unique
pub encoded-unique : (header user s t : List ℕ) → IsEncoded header user t
    → IsConsistent s → header_of s ≡ header ++ 1 ∷ [] → user_of s ≡ user → s ≡ t
encoded-unique header user s t made h e f =
    sector_unique s t h made.is_consistent (e ∙ sym made.has_header) (f ∙ sym made.has_user)

-- ---- parts in their places

-- `new` is `old` with a part of a sector's front written at a place
pub record Puts (at : ℕ) (part old new : List ℕ) : Type 0 where
  pub inside : (i : ℕ) → i < length part → get_or new (at + i) 0 ≡ get_or part i 0
  pub outside : (k : ℕ) → (k < at) ⊎ (at + length part ≤ k) → get_or new k 0 ≡ get_or old k 0

-- a part that is written after a front
Puts-front : (at : ℕ) (front part old new : List ℕ) → Puts at part old new
    → at + length part ≤ length old → length new ≡ length old → take at old ≡ front
    → take (at + length part) new ≡ front ++ part
Puts-front at front part old new put room size before =
    take-add at (length part) new
    ∙ ap₂ (λ v w. v ++ w)
    (front-same new old at (omega arith) (omega arith) (λ i h. put.outside i (inl h)) ∙ before)
    (part-list new part at (omega arith) put.inside)

pub content_put : (header user s a b c d : List ℕ) → length header ≡ 3 → length user ≡ 2048
    → length s ≡ 2352 → length a ≡ 2352 → length b ≡ 2352 → length c ≡ 2352 → length d ≡ 2352
    → Puts 0 sync_field s a → Puts 12 header a b → Puts 15 (1 ∷ []) b c → Puts 16 user c d
    → (k : ℕ) → k < 2064 → get_or d k 0 ≡ get_or (content_of header user) k 0
content_put header user s a b c d size long ls la lb lc ld sync head mode tail k h =
    let one : take 12 a ≡ sync_field =
    Puts-front 0 [] sync_field s a sync (omega arith) (la ∙ sym ls) refl in
    let two : take 15 b ≡ sync_field ++ header =
    ap (λ n. take (12 + n) b) (sym size)
    ∙ Puts-front 12 sync_field header a b head (omega arith) (lb ∙ sym la) one in
    let three = Puts-front 15 (sync_field ++ header) (1 ∷ []) b c mode
    (omega arith) (lc ∙ sym lb) two in
    let four : take 2064 d ≡ ((sync_field ++ header) ++ 1 ∷ []) ++ user =
    ap (λ n. take (16 + n) d) (sym long)
    ∙ Puts-front 16 ((sync_field ++ header) ++ 1 ∷ []) user c d tail
    (omega arith) (ld ∙ sym lc) three in
    let joined : ((sync_field ++ header) ++ 1 ∷ []) ++ user ≡ content_of header user =
    append_assoc (sync_field ++ header) (1 ∷ []) user ∙ append_assoc sync_field header (1 ∷ user) in
    sym (get_or-take 2064 d k 0 h) ∙ ap (λ v. get_or v k 0) (four ∙ joined)

first_four : (v : List ℕ) → 4 ≤ length v
    → get_or v 0 0 ∷ get_or v 1 0 ∷ get_or v 2 0 ∷ get_or v 3 0 ∷ [] ≡ take 4 v
first_four (a ∷ b ∷ c ∷ d ∷ v) h = refl
first_four _ h = absurd (omega arith)

-- the four bytes of the header, one by one
pub header_bytes : (bytes s : List ℕ) → bytes ≡ s → length bytes ≡ 2352
    → get_or bytes 12 0 ∷ get_or bytes 13 0 ∷ get_or bytes 14 0 ∷ get_or bytes 15 0 ∷ []
    ≡ header_of s
unfolding header_of
header_bytes bytes s same size =
    simp get_or-drop at (first_four (drop 12 bytes) (omega (arith, length-drop 12 bytes)))
    ∙ ap (λ v. slice_range v 12 16) same

-- ---- a sector that is rebuilt

-- a sector with the front of a Mode 1 sector, and with the right fields after it, is consistent
pub rebuilt : (old new : List ℕ) → length old ≡ 2352 → length new ≡ 2352 → AreBytes new
    → kind_of old ≡ Mode1
    → ((k : ℕ) → k < 2064 → get_or new k 0 ≡ get_or old k 0)
    → ((k : ℕ) → 2068 ≤ k → k < 2076 → get_or new k 0 ≡ 0)
    → remainder (bits (take 2068 new)) ≡ 0 → AllCodeWords new
    → IsConsistent new × ((header_of new ≡ header_of old) × (user_of new ≡ user_of old))
unfolding user_of
rebuilt old new old_size size bytes kind front zeros divides words =
    let same_size : length new ≡ length old = size ∙ sym old_size in (
      record {
        size = size;
        bytes = bytes;
        mode = kind_of-same new old (omega (arith, size)) same_size (λ i h. front i (omega arith))
            (front 15 (lit< tt)) ∙ kind;
        zeros = zeros;
        edc = divides;
        words = words;
      },
      (
        header_of-same new old (omega (arith, size)) same_size (λ i h. front i (omega arith)),
        part-same new old 16 2048 (omega (arith, size)) (omega (arith, old_size))
            (λ i _ h. front i (omega arith)),
      ),
    )
