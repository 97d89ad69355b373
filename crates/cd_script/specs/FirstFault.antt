-- Plumbing of all readers of lines: reading from left to right, up to the first error.
use Rattle.std.specs.Prelude.{Result, Ok, Err}
use Rattle.cd_script.specs.declared.fault.ScriptFault.{ScriptFault}

-- plumbing of `do`: an Ok continues with what follows, an Err ends the reading
infixl 10 ◌>>=◌
abbrev pub ◌>>=◌ : {A B : Type 0} → Result A ScriptFault → (A → Result B ScriptFault)
    → Result B ScriptFault
(Ok x) >>= f = f x
(Err e) >>= f = Err e
