-- The statuses of commands.
use Rattle.std.specs.Prelude.{ℕ}

-- everything was done
abbrev pub done_status : ℕ
done_status = 0

-- everything was done, and an audit has a finding, or a patch was refused
abbrev pub found_status : ℕ
found_status = 1

-- an error
abbrev pub failed_status : ℕ
failed_status = 2
