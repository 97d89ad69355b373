-- The sync field of a sector.
use Rattle.std.proofs.Common.{◌≡◌, ℕ, true, List, ◌++◌, take, drop, sym, ap, ◌∙◌}
use Rattle.std.specs.Prelude.{slice_range}
use Rattle.std.proofs.lemmas.List.{drop-drop}
use Rattle.cd_sector.specs.Consistent.{consistent, header_of}
use Rattle.cd_sector.specs.Kind.{sync_field}
use Rattle.cd_sector.proofs.DefectLemmas.{consistent-decided}
use Rattle.cd_sector.proofs.SectorLemmas.{mode1-parts}

-- with the sync field in place of its first bytes, a sector is the sound sector with the same rest
pub sync_back : (s t w : List ℕ) → w ≡ sync_field ++ drop 12 s → consistent t ≡ true
    → drop 12 s ≡ drop 12 t → w ≡ t
sync_back s t w made sound same =
    made ∙ ap (λ (l : List ℕ). sync_field ++ l) same
    ∙ sym (mode1-parts t ((consistent-decided t).0 sound).mode).0

-- the fields after the sync field are those of each sector with the same rest
pub same-header : (s t : List ℕ) → drop 12 s ≡ drop 12 t → header_of s ≡ header_of t
unfolding header_of
same-header s t same = ap (take 4) same

pub same-edc : (s t : List ℕ) → drop 12 s ≡ drop 12 t
    → slice_range s 2064 2068 ≡ slice_range t 2064 2068
same-edc s t same =
    ap (take 4) (sym (drop-drop 2052 12 s) ∙ ap (drop 2052) same ∙ drop-drop 2052 12 t)
