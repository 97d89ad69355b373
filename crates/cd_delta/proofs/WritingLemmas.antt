-- Bytes that are written into a sector with its parity updated, one by one or by a difference
-- sector.
use Rattle.std.proofs.Common.{◌≡◌, ℕ, ◌<◌, List, get_or, bit_xor, ap, ◌∙◌}
use Rattle.cd_code.specs.Syndrome.{SameSums}
use Rattle.cd_code.proofs.general.Xor.{xor_twice_left}
use Rattle.cd_code.specs.CodeWords.{SameSyndromes}

pub SameSums-trans : {u v w : List ℕ} → SameSums u v → SameSums v w → SameSums u w
SameSums-trans h k = record { first = h.first ∙ k.first; second = h.second ∙ k.second }

pub SameSyndromes-trans : {s t u : List ℕ} → SameSyndromes s t → SameSyndromes t u
    → SameSyndromes s u
SameSyndromes-trans h k = record {
  columns = λ plane n hp hn. SameSums-trans (h.columns plane n hp hn) (k.columns plane n hp hn);
  diagonals = λ plane n hp hn. SameSums-trans (h.diagonals plane n hp hn)
      (k.diagonals plane n hp hn);
}

-- a byte of the front, from the xor with the difference
pub front-sum : (old front difference filled new : List ℕ) (i : ℕ) → i < 2076
    → ((k : ℕ) → get_or difference k 0 ≡ bit_xor (get_or old k 0) (get_or front k 0))
    → ((k : ℕ) → k < 2076 → get_or filled k 0 ≡ get_or difference k 0)
    → ((k : ℕ) → get_or new k 0 ≡ bit_xor (get_or old k 0) (get_or filled k 0))
    → get_or new i 0 ≡ get_or front i 0
front-sum old front difference filled new i below differs stays sum =
    sum i ∙ ap (bit_xor (get_or old i 0)) (stays i below ∙ differs i)
    ∙ xor_twice_left (get_or old i 0) (get_or front i 0)
