-- The number of bytes that is enough for the text of `list` or `audit`. `cdpatch.h` has the same
-- numbers; the law is a contract in `short_texts.rt`.
use Rattle.std.specs.Prelude.{ℕ, ◌+◌, ◌*◌, ◌/◌, ◌≤◌, List, length}
use Rattle.cd_sector.specs.Image.{base_limit, image_limit}
use Rattle.cd_report.specs.AuditText.{audit_text}
use Rattle.cd_report.specs.ListText.{list_text}

-- 100 bytes, and 40 for each whole sector of an image
abbrev pub text_room : List ℕ → ℕ
text_room image = 100 + 40 * (length image / 2352)

-- no text of `list` or `audit` is longer than `text_room`
abbrev pub TextsAreShort : Type 0
TextsAreShort =
    (base : ℕ) (image : List ℕ) → base ≤ base_limit → length image ≤ image_limit
    → (length (list_text base image) ≤ text_room image)
    × (length (audit_text base image) ≤ text_room image)
