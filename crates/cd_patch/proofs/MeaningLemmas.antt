-- The limits of the meaning of an edit, with a row for each edit; no other proof has a case for
-- each edit.
use Rattle.std.proofs.Common.{◌≡◌, ℕ, ◌+◌, ◌*◌, ◌<◌, ◌≤◌, inl, inr, true, false, List, [], ◌∷◌}
use Rattle.std.proofs.Common.{length, get_or, replicate, Option, Some, None, refl, sym, subst}
use Rattle.std.proofs.Common.{arith, lit<}
use Rattle.std.specs.List.{All}
use Rattle.std.specs.Option.{IfSome}
use Rattle.std.specs.Prelude.{unwrap_or}
use Rattle.std.proofs.lemmas.Bool.{cases_lt}
use Rattle.std.proofs.lemmas.List.{get_or_past, length-replicate}
use Rattle.std.proofs.lemmas.List.Elements.{All-cons, All-nil, All-replicate}
use Rattle.cd_code.specs.Field.{AreBytes}
use Rattle.cd_address.specs.Address.{bcd}
use Rattle.cd_script.specs.Address.{IsAddress}
use Rattle.cd_script.specs.Limits.{offset_limit}
use Rattle.cd_script.specs.Patch.{IsBytes, IsEditAt, IsPatch}
use Rattle.cd_script.specs.declared.patch.Edit.TheVariants.{Put, Fill, Rebuild, Address}
use Rattle.cd_script.specs.PatchForm.{Edit, Patch}
use Rattle.cd_sector.specs.declared.sector.TheConstants.{USER_SIZE}
use Rattle.cd_patch.specs.Blocks.{block_limit}
use Rattle.cd_patch.specs.EditMeaning.{EditMeaning, meaning}

-- an edit that writes an address writes no bytes, and changes the existing sector
pub record IsAddressAlone (m : EditMeaning) (address : List ℕ) : Type 0 where
  pub is_address : IsAddress address
  pub no_bytes : m.bytes ≡ []
  pub keeps_old : m.keeps_old ≡ true

pub record FitsMeaning (offset : ℕ) (m : EditMeaning) : Type 0 where
  -- the bytes lie in as many blocks as a patch may meet
  pub room : offset + length m.bytes ≤ USER_SIZE * block_limit
  pub each : AreBytes m.bytes
  -- there are at most as many old bytes as bytes to write
  pub must_be_consistent : length m.old ≤ length m.bytes
  -- an edit that changes the existing sector and writes no address writes bytes
  pub some : m.keeps_old ≡ true → m.address ≡ None → 1 ≤ length m.bytes
  pub address : IfSome m.address (IsAddressAlone m)
  -- an edit that encodes the sector again writes neither bytes nor an address
  pub encoded : m.keeps_old ≡ false → (m.bytes ≡ []) × (m.address ≡ None)

-- ---- bytes

pub AreBytes-all : (v : List ℕ) → All (λ b. b < 256) v → AreBytes v
AreBytes-all v h = λ i. elim (cases_lt i (length v)) [
  | inl inside ↦ h i 0 inside
  | inr past ↦ let none : get_or v i 0 ≡ 0 = get_or_past v i 0 past in rw none (lit< tt)
]

-- the three bytes of an address
bcd-byte : (n : ℕ) → n < 100 → bcd n < 256
bcd-byte n lt = omega arith

pub AreBytes-address : (bytes : List ℕ) → IsAddress bytes → AreBytes bytes
AreBytes-address bytes h =
    let P : ℕ → Type 0 = λ b. b < 256 in
    let minute = bcd-byte h.minute h.is_minute in
    let second = bcd-byte h.second (omega (arith, h.is_second)) in
    let fraction = bcd-byte h.fraction (omega (arith, h.is_fraction)) in
    subst AreBytes (sym h.are)
    (AreBytes-all (bcd h.minute ∷ bcd h.second ∷ bcd h.fraction ∷ [])
    (All-cons P (bcd h.minute) (bcd h.second ∷ bcd h.fraction ∷ []) minute
    (All-cons P (bcd h.second) (bcd h.fraction ∷ []) second
    (All-cons P (bcd h.fraction) [] fraction (All-nil P)))))

-- there are as many old bytes as new ones, or none
length-asked : (bytes : List ℕ) (was : Option (List ℕ))
    → IfSome was (λ old. IsBytes old × (length old ≡ length bytes))
    → length (unwrap_or was []) ≤ length bytes
length-asked bytes None h = omega arith
length-asked bytes (Some old) h = omega (arith, h.1)

-- ---- a row for each edit

fits_meaning : (offset : ℕ) (edit : Edit) → offset ≤ offset_limit → IsEditAt offset edit
    → FitsMeaning offset (meaning edit)
fits_meaning offset (Put bytes was) low h = record {
  room = omega (arith, h.0.most);
  each = AreBytes-all bytes h.0.each;
  must_be_consistent = length-asked bytes was h.1;
  some = λ builds none. h.0.some;
  address = tt;
  encoded = λ encoded. cc;
}
fits_meaning offset (Fill count value) low h = record {
  room = omega (arith, h.1, length-replicate {A = ℕ} count value);
  each = AreBytes-all (replicate count value) (All-replicate (λ b. b < 256) count value h.2);
  must_be_consistent = omega arith;
  some = λ builds none. omega (arith, length-replicate {A = ℕ} count value, h.0);
  address = tt;
  encoded = λ encoded. cc;
}
fits_meaning offset Rebuild low h = record {
  room = omega arith;
  each = λ i. lit< tt;
  must_be_consistent = omega arith;
  some = λ builds none. cc;
  address = tt;
  encoded = λ encoded. (refl, refl);
}
fits_meaning offset (Address address) low h = record {
  room = omega arith;
  each = λ i. lit< tt;
  must_be_consistent = omega arith;
  some = λ builds none. cc;
  address = record { is_address = h.1; no_bytes = refl; keeps_old = refl };
  encoded = λ encoded. cc;
}

-- the edit of a patch keeps these limits at the patch's offset
pub patch-fits : (p : Patch) → IsPatch p → FitsMeaning p.offset (meaning p.edit)
patch-fits p h = fits_meaning p.offset p.edit h.offset h.edit

-- the address of an edit that has one
pub address-only : {offset : ℕ} {m : EditMeaning} {address : List ℕ} → FitsMeaning offset m
    → m.address ≡ Some address → IsAddressAlone m address
address-only {offset} {m} {address} fits is =
    subst (λ a. IfSome a (IsAddressAlone m)) is fits.address
