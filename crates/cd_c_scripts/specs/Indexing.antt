-- Plumbing of `index_script`: the effect of reading one line.
use Rattle.std.specs.Prelude.{◌≡◌, ℕ, ◌+◌, List, Some, Result, Ok, Err}
use Rattle.std.specs.List.{slice_set}
use Rattle.cd_script.specs.PatchForm.{Patch}
use Rattle.cd_script.specs.declared.by_line.LineContent.{LineContent}
use Rattle.cd_script.specs.declared.by_line.LineContent.TheVariants as content
use Rattle.cd_script.specs.declared.fault.ScriptFault.{ScriptFault}
use Rattle.cd_patch.specs.Blocks.{blocks_met}
use Rattle.cd_c_scripts.specs.declared.entries.Entry.{Entry}
use Rattle.cd_c_scripts.specs.declared.entries.Found.{Found}

-- a patch was counted, and its entry was written if there was room
pub record Makes (p : Patch) (found : Found) (number start size : ℕ) (old new : List Entry)
    (result : Result Found ScriptFault) : Type 0 where
  pub is : result ≡ Ok (record { version = found.version; count = found.count + 1 })
  pub entry : Entry
  pub new_is : new ≡ slice_set old found.count entry
  pub block : entry.block ≡ p.block
  pub number_is : entry.number ≡ number
  pub start_is : entry.start ≡ start
  pub size_is : entry.size ≡ size
  pub met : entry.blocks_met ≡ blocks_met p

-- the effect of a line, by its content
abbrev pub IndexesBy : Result LineContent ScriptFault → Found → ℕ → ℕ → ℕ → List Entry → List Entry
    → Result Found ScriptFault → Type 0
IndexesBy (Ok content.PassedOver) found number start size old new result =
    (result ≡ Ok found) × (new ≡ old)
IndexesBy (Ok (content.Head v)) found number start size old new result =
    (result ≡ Ok (record { version = Some v; count = found.count })) × (new ≡ old)
IndexesBy (Ok (content.Patch p)) found number start size old new result =
    Makes p found number start size old new result
IndexesBy (Err fault) found number start size old new result = result ≡ Err fault
