-- The largest number of patches of a text. The law is a contract in `laws.rt`.
use Rattle.std.specs.Prelude.{ℕ, ◌≤◌, List, length, IfOk}
use Rattle.std.specs.Str.Lines.{lines}
use Rattle.cd_script.specs.Limits.{patch_limit}
use Rattle.cd_script.specs.Script.{script}

-- a script has no more patches than it has lines, and no more than `patch_limit`
abbrev pub ScriptIsShort : Type 0
ScriptIsShort =
    (text : List ℕ)
    → IfOk (script text) (λ ps. (length ps ≤ length (lines text)) × (length ps ≤ patch_limit))
