-- Bytes of streams that are known.
use Rattle.std.proofs.Common.{◌≡◌, ℕ, List, ◌++◌, Option, None, Some, ap, subst}
use Rattle.std.specs.Io.KnownBytes.{Appends, Consumes, Keeps}

pub Some-injective : {A : Type 0} {x y : A} → Some x ≡ Some y → x ≡ y
Some-injective e = cc

-- known bytes to which more were appended
pub Appends-known : (old new : Option (List ℕ)) (earlier now sent : List ℕ) → old ≡ Some earlier
    → new ≡ Some now → Appends old new sent → now ≡ earlier ++ sent
Appends-known old new earlier now sent was is went =
    subst (λ o. Appends (Some earlier) o sent) is (subst (λ o. Appends o new sent) was went)

-- after an append the bytes are still known
pub Appends-Some : (old new : Option (List ℕ)) (earlier sent : List ℕ) → old ≡ Some earlier
    → Appends old new sent → new ≡ Some (earlier ++ sent)
Appends-Some old new earlier sent was went = go new (subst (λ o. Appends o new sent) was went)
  where
    go : (o : Option (List ℕ)) → Appends (Some earlier) o sent → o ≡ Some (earlier ++ sent)
    go None h = absurd h
    go (Some now) h = ap Some h

-- known bytes that were kept
pub Keeps-Some : (old new : Option (List ℕ)) (bytes : List ℕ) → old ≡ Some bytes → Keeps old new
    → new ≡ Some bytes
Keeps-Some old new bytes was kept = go new (subst (λ o. Keeps o new) was kept)
  where
    go : (o : Option (List ℕ)) → Keeps (Some bytes) o → o ≡ Some bytes
    go None h = absurd h
    go (Some now) h = ap Some h

-- known bytes of which a front was read
pub Consumes-known : (old new : Option (List ℕ)) (all rest came : List ℕ) → old ≡ Some all
    → new ≡ Some rest → Consumes old new came → all ≡ came ++ rest
Consumes-known old new all rest came was is went =
    subst (λ o. Consumes (Some all) o came) is (subst (λ o. Consumes o new came) was went)
