-- The script of a file in memory: its patches, or why there are none.
use Rattle.std.proofs.Common.{◌≡◌, ◌≢◌, ℕ, ◌+◌, ◌≤◌, ◌⊎◌, List, ◌++◌, length, Option, None, Some, Result, Ok, Err, inl, inr, refl, sym, ap, ◌∙◌, subst, arith, length-append}
use Rattle.std.specs.Io.KnownBytes.{IsAtEnd}
use Rattle.cd_script.specs.Limits.{text_limit}
use Rattle.cd_script.specs.Script.{script}
use Rattle.cd_script.specs.declared.fault.ScriptFault.{ScriptFault}
use Rattle.cd_script.specs.declared.fault.ScriptFault.TheVariants as script_fault
use Rattle.cd_script.specs.PatchForm.{Patch}
use Rattle.cd_stream.specs.Adapters.{slice_incoming}
use Rattle.cd_stream.specs.Stream.{Outgoing}
use Rattle.cd_stream.specs.Transfer.{Gives}
use Rattle.cd_stream.specs.declared.adapters.slice_source.SliceSource.{SliceSource}
use Rattle.cd_host.specs.Messages.{load_fault_line, no_script}
use Rattle.cd_program.specs.Messages.{open_fault_line}
use Rattle.cd_run.specs.Messages.{script_fault_line}
use Rattle.cd_program.specs.Program.{ComesOfFile, ReadsScript}
use Rattle.cd_read.specs.Printing.{PrintsAndFails, PrintsLine}
use Rattle.cd_host.specs.ScriptLines.{IsFaultOf, StopsLoading}
use Rattle.cd_host.specs.declared.host.OpenFault.{OpenFault}
use Rattle.cd_host.specs.declared.script.LoadFault.{LoadFault}
use Rattle.cd_host.specs.declared.script.LoadFault.TheVariants.{NoMemory, Read, TooLong}
use Rattle.cd_memory.specs.Files.{file_bytes}
use Rattle.cd_memory.specs.Memory.{Opens, memory_hosting}
use Rattle.cd_stream.specs.Fresh.{fresh_incoming}
use Rattle.cd_memory.specs.Whole.{Environment, HasPatches, NoPatches}
use Rattle.cd_stream.proofs.KnownLemmas.{Consumes-known}
use Rattle.cd_read.proofs.KnownLemmas.{read-whole}

memory-or-other : (fault : ScriptFault)
    → (fault ≡ script_fault.NoMemory) ⊎ (fault ≢ script_fault.NoMemory)
memory-or-other script_fault.NoMemory = inl refl
memory-or-other _ = inr (λ is. cc)

-- a text that was read to its end is the file's
text-whole : (bytes text : List ℕ) (file left : SliceSource)
    → slice_incoming file ≡ fresh_incoming bytes
    → Gives (slice_incoming file) (slice_incoming left) text
    → IsAtEnd (slice_incoming left).rest → bytes ≡ text
text-whole bytes text file left opens came at_end =
    read-whole bytes text left.rest.now
    (Consumes-known (slice_incoming file).rest (slice_incoming left).rest bytes left.rest.now text
    (ap (λ i. i.rest) opens) refl came.consumes)
    at_end

-- there are no patches: the line that was printed, and why
abbrev pub Lacks : Environment → List ℕ → Outgoing → Outgoing → ℕ → Type 0
Lacks before name log log' status =
    (line : List ℕ) × NoPatches before name line × PrintsAndFails line log log' status

module _ (before : Environment) (name : List ℕ) {log log' : Outgoing} where
  -- reading the file was stopped
  lacks-stopped : {status : ℕ} (bytes read : List ℕ) (file left : SliceSource) (fault : LoadFault)
      → file_bytes before.files name ≡ Some bytes → slice_incoming file ≡ fresh_incoming bytes
      → Gives (slice_incoming file) (slice_incoming left) read
      → StopsLoading fault read (slice_incoming file) (slice_incoming left)
      → PrintsAndFails (load_fault_line fault) log log' status → Lacks before name log log' status
  unfolding load_fault_line
  lacks-stopped bytes read file left Read is opens came stops fails =
      absurd (omega (arith, stops.0))
  lacks-stopped bytes read file left TooLong is opens came stops fails =
      let all : bytes ≡ read ++ left.rest.now =
      Consumes-known (slice_incoming file).rest (slice_incoming left).rest bytes left.rest.now read
      (ap (λ i. i.rest) opens) refl came.consumes in
      let long : length bytes ≡ length (read ++ left.rest.now) = ap length all in (
        load_fault_line TooLong,
        NoPatches.too_long bytes is
            (omega (arith, long, length-append read left.rest.now, stops.2)) refl,
        fails,
      )
  lacks-stopped bytes read file left NoMemory is opens came stops fails =
      (load_fault_line NoMemory, NoPatches.unread bytes is refl, fails)

  -- the text has an error, or memory was refused
  lacks-faulty : {status : ℕ} (bytes : List ℕ) (fault : ScriptFault)
      → file_bytes before.files name ≡ Some bytes → length bytes ≤ text_limit
      → IsFaultOf bytes fault → PrintsAndFails (script_fault_line fault) log log' status
      → Lacks before name log log' status
  lacks-faulty {status = status} bytes fault is within said fails =
      go (script bytes) refl (memory-or-other fault)
    where
      go : (read : Result (List Patch) ScriptFault) → script bytes ≡ read
          → ((fault ≡ script_fault.NoMemory) ⊎ (fault ≢ script_fault.NoMemory))
          → Lacks before name log log' status
      go (Err own) reads memory = (
        script_fault_line fault,
        NoPatches.faulty bytes fault is within (reads ∙ ap Err (sym (said.own own reads))) refl,
        fails,
      )
      go (Ok ps) reads (inl memory) = (
        script_fault_line fault,
        NoPatches.without_memory bytes ps is within reads (ap script_fault_line memory),
        fails,
      )
      go (Ok ps) reads (inr another) =
          let no : Ok ps ≡ Err fault = sym reads ∙ said.other another in cc

  lacks-read : {status : ℕ} (bytes : List ℕ) (file left : SliceSource)
      → file_bytes before.files name ≡ Some bytes → slice_incoming file ≡ fresh_incoming bytes
      → ReadsScript (slice_incoming file) (slice_incoming left) log log' (Err status)
      → Lacks before name log log' status
  lacks-read bytes file left is opens (inl h) =
      lacks-stopped bytes h.0 file left h.2.0 is opens h.1 h.2.1 h.2.2
  lacks-read bytes file left is opens (inr h) =
      let all : bytes ≡ h.0 = text-whole bytes h.0 file left opens h.1 h.2.at_end in
      lacks-faulty bytes h.3.0 is (subst (λ t. length t ≤ text_limit) (sym all) h.2.within)
      (subst (λ t. IsFaultOf t h.3.0) (sym all) h.3.1) h.3.2

  module _ {O : Type 0} (gone : O → Outgoing) where
    pub lacks-patches : {status : ℕ} (found : Option (List ℕ)) → file_bytes before.files name ≡ found
        → (answer : Result SliceSource OpenFault) → Opens found answer
        → ComesOfFile slice_incoming (memory_hosting gone) log log' (Err status) answer
        → Lacks before name log log' status
    unfolding open_fault_line
    lacks-patches None is (Ok file) opens comes = absurd opens
    lacks-patches None is (Err fault) opens comes = (
      no_script,
      NoPatches.absent is refl,
      (subst (λ f. PrintsLine (open_fault_line no_script f) log log') opens comes.1, cc),
    )
    lacks-patches (Some bytes) is (Err fault) opens comes = absurd opens
    lacks-patches (Some bytes) is (Ok file) opens comes =
        lacks-read bytes file comes.0 is opens comes.1

    -- there are patches, and nothing was printed
    pub has-patches : (patches : List Patch) (found : Option (List ℕ))
        → file_bytes before.files name ≡ found
        → (answer : Result SliceSource OpenFault) → Opens found answer
        → ComesOfFile slice_incoming (memory_hosting gone) log log' (Ok patches) answer
        → HasPatches before name patches × (log' ≡ log)
    has-patches patches None is (Ok file) opens comes = absurd opens
    has-patches patches None is (Err fault) opens comes = cc
    has-patches patches (Some bytes) is (Err fault) opens comes = absurd opens
    has-patches patches (Some bytes) is (Ok file) opens comes =
        let h = comes.1 in
        let all : bytes ≡ h.0 = text-whole bytes h.0 file comes.0 opens h.1 h.2.at_end in (
          record {
            text = bytes;
            there = is;
            within = subst (λ t. length t ≤ text_limit) (sym all) h.2.within;
            reads = (h.3.0, ap script all ∙ h.3.1, h.3.2);
          },
          h.4,
        )
