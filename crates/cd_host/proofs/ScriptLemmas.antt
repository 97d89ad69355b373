-- The bytes read of a script's file before an error.
use Rattle.std.proofs.Common.{◌≡◌, ℕ, ◌+◌, ◌≤◌, List, ◌++◌, length, take, Result, Ok, Err, inl, inr, ap, sym, subst, arith, length-append}
use Rattle.std.proofs.lemmas.List.{length-take-le}
use Rattle.std.specs.Result.{IsErrAnd}
use Rattle.cd_stream.specs.Stream.{Incoming, Outgoing}
use Rattle.cd_stream.specs.Transfer.{Gives}
use Rattle.cd_stream.proofs.TransferLemmas.{Gives-trans}
use Rattle.cd_host.specs.Messages.{load_fault_line}
use Rattle.cd_read.specs.Printing.{PrintsLine}
use Rattle.cd_host.specs.ScriptLines.{Gathers, PrintsFailedReads, StopsLoading}
use Rattle.cd_host.specs.declared.script.LoadFault.{LoadFault}
use Rattle.cd_host.specs.declared.script.LoadFault.TheVariants.{NoMemory, Read, TooLong}

-- the bytes that were read before, and those of the last read
pub length-with_last : (earlier into : List ℕ) (n : ℕ) → n ≤ length into
    → length (earlier ++ take n into) ≡ length earlier + n
length-with_last earlier into n h =
    omega (arith, length-append earlier (take n into), length-take-le n into h)

-- an error after a read
pub Gathers-stopped : {T : Type 0} (bytes_of : T → List ℕ) (file middle file' : Incoming)
    (fault : LoadFault) (earlier came : List ℕ)
    → Gives file middle earlier → Gives middle file' came → StopsLoading fault (earlier ++ came) file file'
    → Gathers bytes_of file file' (Err fault)
Gathers-stopped bytes_of file middle file' fault earlier came first last stops = record {
  read = earlier ++ came;
  gives = Gives-trans _ _ _ earlier came first last;
  answers = stops;
}

-- the error was a lack of memory
pub Gathers-refused : {T : Type 0} (bytes_of : T → List ℕ) (file middle file' : Incoming)
    (result : Result T LoadFault) (earlier came : List ℕ)
    → IsErrAnd result (λ fault. fault ≡ NoMemory)
    → Gives file middle earlier → Gives middle file' came
    → StopsLoading NoMemory (earlier ++ came) file file' → Gathers bytes_of file file' result
Gathers-refused bytes_of file middle file' (Ok text) earlier came refused first last stops =
    absurd refused
Gathers-refused bytes_of file middle file' (Err fault) earlier came refused first last stops =
    Gathers-stopped bytes_of file middle file' fault earlier came first last
    (subst (λ f. StopsLoading f (earlier ++ came) file file') (sym refused) stops)

-- an error and its line say whether a read failed
pub Stops-read_failed : {T : Type 0} (fault : LoadFault) (read : List ℕ) (file file' : Incoming)
    (log log' : Outgoing) (status : ℕ)
    → status ≡ 2 → StopsLoading fault read file file' → PrintsLine (load_fault_line fault) log log'
    → PrintsFailedReads {T = T} file file' log log' (Err status)
Stops-read_failed Read read file file' log log' status is stops says =
    record {
      failed = λ rose. (ap Err is, says);
      others = λ same. absurd (omega (arith, stops.0, same));
    }
Stops-read_failed TooLong read file file' log log' status is stops says =
    record { failed = λ rose. absurd (rose stops.0); others = λ same. inl (ap Err is, says) }
Stops-read_failed NoMemory read file file' log log' status is stops says =
    record { failed = λ rose. absurd (rose stops.0); others = λ same. inr (ap Err is, says) }
