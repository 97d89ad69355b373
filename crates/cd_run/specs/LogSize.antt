-- The largest size of a log. The law is the contract of a function in `laws.rt`.
use Rattle.std.specs.Prelude.{◌≡◌, ℕ, ◌+◌, ◌*◌, ◌≤◌, Bool, List, length, Ok}
use Rattle.cd_script.specs.Limits.{text_limit}
use Rattle.cd_script.specs.Order.{order}
use Rattle.cd_script.specs.PatchForm.{Patch}
use Rattle.cd_script.specs.Script.{script}
use Rattle.cd_run.specs.PatchLog.{log_text}
use Rattle.cd_run.specs.Patched.{EachPatching}

-- the log of a script's patches on an image: at most 76 bytes for each patch, and 38 for the last
-- line
abbrev pub LogIsShort : Type 0
LogIsShort =
    (text : List ℕ) (patches : List Patch) (carry : Bool) (base : ℕ) (image : List ℕ)
    → length text ≤ text_limit → script text ≡ Ok patches
    → EachPatching carry (order patches) base image (λ outcomes last.
    length (log_text (order patches) outcomes) ≤ 76 * length patches + 38)
