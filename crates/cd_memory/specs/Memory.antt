-- The answers of the host in memory for each file, and its state afterwards: everything is known.
use Rattle.std.specs.Prelude.{◌≡◌, ℕ, Bool, false, true, ◌||◌, List, [], ◌∷◌, ◌++◌, length, is_some}
use Rattle.std.specs.Prelude.{Option, None, Some, Result, Ok, Err}
use Rattle.cd_stream.specs.Stream.{Incoming, Outgoing}
use Rattle.cd_stream.specs.Adapters.{slice_incoming}
use Rattle.cd_stream.specs.Fresh.{fresh_incoming, fresh_outgoing}
use Rattle.cd_stream.specs.declared.adapters.slice_source.SliceSource.{SliceSource}
use Rattle.cd_host.specs.Hosting.{Hosting}
use Rattle.cd_host.specs.declared.host.OpenFault.{OpenFault}
use Rattle.cd_host.specs.declared.host.OpenFault.TheVariants.{NoMemory, Refused}
use Rattle.cd_memory.specs.Files.{NamedFile, file_bytes, named_file, with_bytes}
use Rattle.cd_memory.specs.declared.growing.Growing.{Growing}
use Rattle.cd_memory.specs.declared.memory.Memory.{Memory}

-- the existing files
abbrev pub files_of : Memory → List NamedFile
files_of h = h.files.now

-- the standard input
abbrev pub input_of : Memory → List ℕ
input_of h = h.input.now

-- the files that were made
abbrev pub made_of : Memory → List NamedFile
made_of h = h.made.items

-- whether there is a file of this name
abbrev pub is_there : Memory → List ℕ → Bool
is_there h name = is_some (file_bytes (files_of h) name) || is_some (file_bytes (made_of h) name)

-- the existing files and the standard input are unchanged
pub record Stays (h h' : Memory) : Type 0 where
  pub files : files_of h' ≡ files_of h
  pub input : input_of h' ≡ input_of h

-- memory that grows, as contracts see it: all bytes written to it are known, and its flush never
-- fails
abbrev pub growing_outgoing : Growing → Outgoing
growing_outgoing g = record {
  written = Some g.octets.items;
  taken = length g.octets.items;
  flushes = g.flushes;
  failures = g.failures;
  finished = g.finished;
  flush_may_fail = false;
  lent = None;
}

-- a source of the bytes, or a refusal if there are none
abbrev pub Opens : Option (List ℕ) → Result SliceSource OpenFault → Type 0
Opens (Some bytes) (Ok source) = slice_incoming source ≡ fresh_incoming bytes
Opens (Some bytes) (Err fault) = ⊥
Opens None (Ok source) = ⊥
Opens None (Err fault) = fault ≡ Refused

module _ {O : Type 0} (gone : O → Outgoing) where
  -- an empty file is made if no file has this name and there is memory for it
  abbrev pub Makes : Memory → List ℕ → Result O OpenFault → Memory → Type 0
  Makes h name (Ok file) h' =
      (is_there h name ≡ false) × (made_of h' ≡ made_of h ++ named_file name [] ∷ [])
      × (gone file ≡ fresh_outgoing)
  Makes h name (Err Refused) h' = (is_there h name ≡ true) × (made_of h' ≡ made_of h)
  Makes h name (Err NoMemory) h' = (is_there h name ≡ false) × (made_of h' ≡ made_of h)

  -- the file that is taken back has the bytes that were written to it
  pub record TakesBack (h : Memory) (name : List ℕ) (file : O) (h' : Memory) : Type 0 where
    pub stays : Stays h h'
    pub bytes : List ℕ
    pub written : (gone file).written ≡ Some bytes
    pub made : made_of h' ≡ with_bytes (made_of h) name bytes

  -- this host, as contracts see it: exactly which bytes each answer has
  abbrev pub memory_hosting : Hosting Memory SliceSource O
  memory_hosting = record {
    gives_input = λ h name answer h'. (h' ≡ h) × Opens (file_bytes (files_of h) name) answer;
    gives_standard_input = λ h answer h'. (h' ≡ h) × Opens (Some (input_of h)) answer;
    gives_output = λ h name answer h'. Stays h h' × Makes h name answer h';
    takes_back = TakesBack;
  }
