-- The log of patches: a line for each, then their counts.
use Rattle.std.specs.Prelude.{ℕ, ◌+◌, ◌-◌, ◌*◌, ◌/◌, nat_lt, not, if◌then◌else◌, List, [], ◌∷◌}
use Rattle.std.specs.Prelude.{◌++◌, length, count_by, codes, decimal}
use Rattle.cd_script.specs.PatchForm.{Patch}
use Rattle.cd_sector.specs.declared.sector.TheConstants.{SECTOR_SIZE}
use Rattle.cd_patch.specs.Blocks.{blocks_met}
use Rattle.cd_patch.specs.Outcome.{is_applied}
use Rattle.cd_patch.specs.declared.outcome.Outcome.{Outcome}
use Rattle.cd_patch.specs.declared.outcome.Outcome.TheVariants.{Applied, Damaged, Differs, NoBlock}
use Rattle.cd_patch.specs.declared.outcome.Outcome.TheVariants.{NotMode1}
use Rattle.cd_sector.specs.Image.{sector_limit, sectors}

-- the text for an outcome in its line
unfoldable pub outcome_text : Outcome → List ℕ
outcome_text Applied = codes "applied"
outcome_text (NoBlock block) = codes "refused: no block " ++ decimal block
outcome_text (NotMode1 block) = codes "refused: block " ++ decimal block ++ codes " is not mode 1"
outcome_text (Damaged block) = codes "refused: block " ++ decimal block ++ codes " is damaged"
outcome_text (Differs block offset) =
    codes "refused: old bytes differ at block " ++ decimal block ++ codes " offset "
    ++ decimal offset

-- the line of a patch, by the number of its line in the script
unfoldable pub outcome_line : ℕ → Outcome → List ℕ
outcome_line number outcome =
    codes "line " ++ decimal number ++ codes ": " ++ outcome_text outcome ++ codes "\n"

-- the line of a patch
abbrev pub log_line : Patch → Outcome → List ℕ
log_line p outcome = outcome_line p.line outcome

-- a line for each patch
abbrev pub log_lines : List Patch → List Outcome → List ℕ
log_lines [] os = []
log_lines (p ∷ ps) [] = []
log_lines (p ∷ ps) (o ∷ os) = log_line p o ++ log_lines ps os

-- the last line: how many were accepted, and how many refused
unfoldable pub counts_line : ℕ → ℕ → List ℕ
counts_line applied refused =
    codes "applied " ++ decimal applied ++ codes " refused " ++ decimal refused ++ codes "\n"

-- how many patches were accepted
abbrev pub applied_count : List Outcome → ℕ
applied_count os = count_by is_applied os

-- how many patches were refused
abbrev pub refused_count : List Outcome → ℕ
refused_count os = count_by (λ o. not (is_applied o)) os

-- the complete log
unfoldable pub log_text : List Patch → List Outcome → List ℕ
log_text ps os = log_lines ps os ++ counts_line (applied_count os) (refused_count os)

-- ---- how far one sink has got when the other fails

-- the lines of the patches whose first block is below this one
abbrev pub lines_below : ℕ → List Patch → List Outcome → List ℕ
lines_below block [] os = []
lines_below block (p ∷ ps) [] = []
lines_below block (p ∷ ps) (o ∷ os) =
    (if nat_lt p.block block then log_line p o else []) ++ lines_below block ps os

-- the log when the output fails after `sent` bytes, and `count` bytes of the image were read. If
-- the output fails within a complete sector, these are the lines of the patches up to the sector's
-- block; within the tail, the lines of the patches before the tail; else this is the complete log
unfoldable pub log_when_out_fails : List Patch → List Outcome → ℕ → ℕ → ℕ → List ℕ
log_when_out_fails ps os base count sent =
    if nat_lt sent (SECTOR_SIZE * (count / SECTOR_SIZE))
    then lines_below (base + sent / SECTOR_SIZE + 1) ps os
    else if nat_lt sent count then lines_below (base + count / SECTOR_SIZE) ps os
    else log_text ps os

-- the number of the image's bytes before a block: none if the block is before the first, all if it
-- is after the last
unfoldable pub bytes_before : List ℕ → ℕ → ℕ → ℕ
bytes_before image base block =
    if nat_lt block base then 0
    else if nat_lt (block - base) (length (sectors image)) then SECTOR_SIZE * (block - base)
    else length image

-- the number of bytes sent to the output when the log fails after `logged` bytes: those before the
-- block of the patch in whose line it failed, or all. A log that stops at the end of a line failed
-- in the next line, since a failed write has not sent its last byte
abbrev pub sent_when_log_fails : List Patch → List Outcome → ℕ → List ℕ → ℕ → ℕ
sent_when_log_fails [] os base image logged = length image
sent_when_log_fails (p ∷ ps) [] base image logged = length image
sent_when_log_fails (p ∷ ps) (o ∷ os) base image logged =
    if nat_lt logged (length (log_line p o)) then bytes_before image base p.block
    else sent_when_log_fails ps os base image (logged - length (log_line p o))

-- ---- how far both sinks have got when the image continues past its largest size

-- the lines of the patches before the first one that meets a block from `end` on
abbrev pub lines_within : ℕ → List Patch → List Outcome → List ℕ
lines_within end [] os = []
lines_within end (p ∷ ps) [] = []
lines_within end (p ∷ ps) (o ∷ os) =
    if nat_lt end (p.block + blocks_met p) then [] else log_line p o ++ lines_within end ps os

-- the first block of that patch, or `end` if the patch does not begin before `end` or there is no
-- such patch
abbrev pub front_within : ℕ → List Patch → ℕ
front_within end [] = end
front_within end (p ∷ ps) =
    if nat_lt end (p.block + blocks_met p) then (if nat_lt p.block end then p.block else end)
    else front_within end ps

-- the log in this case, for an image whose first block is `base`
abbrev pub log_when_too_long : List Patch → List Outcome → ℕ → List ℕ
log_when_too_long ps os base = lines_within (base + sector_limit) ps os

-- the number of bytes sent to the output in this case
abbrev pub sent_when_too_long : List Patch → ℕ → ℕ
sent_when_too_long ps base = SECTOR_SIZE * (front_within (base + sector_limit) ps - base)
