-- A host, as contracts see it.
use Rattle.std.specs.Prelude.{⊤, ℕ, List, Result}
use Rattle.cd_host.specs.declared.host.OpenFault.{OpenFault}

-- which answers are possible for the file at a path, for the standard input, and for a new file at
-- a path, and the state of the host afterwards; and the state of the host after the new file of a
-- path was given back
pub record Hosting (H I O : Type 0) : Type 1 where
  pub gives_input : H → List ℕ → Result I OpenFault → H → Type 0
  pub gives_standard_input : H → Result I OpenFault → H → Type 0
  pub gives_output : H → List ℕ → Result O OpenFault → H → Type 0
  pub takes_back : H → List ℕ → O → H → Type 0

-- a host about which nothing is known
abbrev pub any_answers : {H I O : Type 0} → Hosting H I O
any_answers = record {
  gives_input = λ _ _ _ _. ⊤;
  gives_standard_input = λ _ _ _. ⊤;
  gives_output = λ _ _ _ _. ⊤;
  takes_back = λ _ _ _ _. ⊤;
}
