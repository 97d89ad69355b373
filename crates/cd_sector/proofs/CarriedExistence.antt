-- For any header and user data there is a sector with this content and the damage of a given
-- sector.
use Rattle.std.proofs.Common.{◌≡◌, ℕ, ◌+◌, ◌≤◌, List, ◌++◌, length, take, ◌∙◌, arith, lit≤}
use Rattle.std.proofs.lemmas.List.{length-append, length-take-le, take_all}
use Rattle.cd_code.specs.Field.{AreBytes}
use Rattle.cd_code.proofs.ByteLemmas.{AreBytes-append, AreBytes-take}
use Rattle.cd_code.proofs.general.Lists.{first-part, front-list, part-of_front, second-part}
use Rattle.cd_sector.specs.Carried.{IsCarried, sync_of}
use Rattle.cd_sector.specs.Consistent.{header_of, user_of}
use Rattle.cd_sector.proofs.ExistenceLemmas.{front_found}

pub carried_found : (old header user : List ℕ) → length old ≡ 2352 → AreBytes old → AreBytes header
    → length header ≡ 4
    → AreBytes user → length user ≡ 2048 → (s : List ℕ) × IsCarried old header user s
unfolding sync_of header_of user_of
carried_found old header user size each header_each four user_each long =
    let sync = take 12 old in
    let front = sync ++ (header ++ user) in
    let sync_len : length sync ≡ 12 = length-take-le 12 old (omega (arith, size)) in
    let front_len : length front ≡ 2064 =
    omega (arith, length-append sync (header ++ user), length-append header user) in
    let found = front_found old front size each front_len
    (AreBytes-append sync (header ++ user) (AreBytes-take old 12 each)
    (AreBytes-append header user header_each user_each)) in
    let s = found.0 in
    let has = found.1 in
    let whole : take 2064 s ≡ front =
    front-list s front 2064 front_len (omega (arith, has.size)) has.same_front in (
      s,
      record {
        size = has.size;
        bytes = has.bytes;
        same_sync = part-of_front s front 2064 0 12 (lit≤ tt) whole
            ∙ first-part sync (header ++ user) 12 sync_len;
        has_header = part-of_front s front 2064 12 4 (lit≤ tt) whole
            ∙ second-part sync (header ++ user) 12 0 4 sync_len ∙ first-part header user 4 four;
        has_user = part-of_front s front 2064 16 2048 (lit≤ tt) whole
            ∙ second-part sync (header ++ user) 12 4 2048 sync_len
            ∙ second-part header user 4 0 2048 four ∙ take_all 2048 user (omega arith);
        same_defect = has.same_defect;
      },
    )
