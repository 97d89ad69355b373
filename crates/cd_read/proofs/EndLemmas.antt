-- The end of a call that reads an image.
use Rattle.std.proofs.Common.{◌≡◌, ◌↔◌, ℕ, ◌+◌, false, true, List, [], ◌∷◌, ◌++◌, Option, None, Some, Result, Ok, Err, OnOk, refl, sym, ap, ◌∙◌, arith, append-nil, length, ◌<◌, ◌≤◌, take_all}
use Rattle.std.specs.Io.KnownBytes.{Consumes, IsAtEnd}
use Rattle.std.proofs.lemmas.Bool.{true≢false}
use Rattle.cd_read.specs.Ends.{AnswersByEnd, AnswersByLength, AnswersTooLong, MayBeImage, MayBeImageAtEnd}
use Rattle.cd_sector.specs.Image.{image_limit}
use Rattle.cd_read.specs.declared.fault.Fault.{Fault}
use Rattle.cd_read.specs.declared.fault.Fault.TheVariants.{Log, Read, TooLong, Write}
use Rattle.cd_stream.specs.Stream.{Incoming, IsBeginning}
use Rattle.cd_read.proofs.general.KnownBytes.{consumed_all, consumed_length, consumed_within}

-- an image that may be the one being read begins with the bytes read
pub Fits-begins : (read whole : List ℕ) → length read ≤ image_limit → MayBeImage read whole
    → IsBeginning read whole
Fits-begins read whole within fits =
    (fits.begins.0, fits.begins.1 ∙ ap (λ l. l ++ fits.begins.0) (take_all image_limit read within))

pub MayBeImageAtEnd-begins : (left : Option (List ℕ)) (read whole : List ℕ) → length read ≤ image_limit
    → MayBeImageAtEnd left read whole → IsBeginning read whole
MayBeImageAtEnd-begins None read whole within fits = ([], fits ∙ sym (append-nil read))
MayBeImageAtEnd-begins (Some []) read whole within fits = ([], fits ∙ sym (append-nil read))
MayBeImageAtEnd-begins (Some (x ∷ xs)) read whole within fits = Fits-begins read whole within fits

pub MayBeImageAtEnd-end : (left : Option (List ℕ)) (read whole : List ℕ) → IsAtEnd left
    → MayBeImageAtEnd left read whole → whole ≡ read
MayBeImageAtEnd-end None read whole end fits = fits
MayBeImageAtEnd-end (Some []) read whole end fits = fits
MayBeImageAtEnd-end (Some (x ∷ xs)) read whole end fits = cc

-- ---- the plain clauses of all four calls

-- the numbers of reads, of writes, and of writes to the log that have failed between the two states
pub record Failed (image image' out out' log log' reads writes logs : ℕ) : Type 0 where
  pub reads_failed : image' ≡ image + reads
  pub writes_failed : out' ≡ out + writes
  pub logs_failed : log' ≡ log + logs

-- by the result: which calls have failed, how much was read, and whether the source has ended
abbrev pub EndsBy : {T : Type 0} → List ℕ → Incoming → Incoming → (out out' log log' : ℕ)
    → Result T Fault → Type 0
EndsBy read image image' out out' log log' (Ok x) =
    Failed image.failures image'.failures out out' log log' 0 0 0 × (length read ≤ image_limit)
    × IsAtEnd image'.rest × (image'.ended ≡ true)
EndsBy read image image' out out' log log' (Err Read) =
    Failed image.failures image'.failures out out' log log' 1 0 0 × (length read ≤ image_limit)
EndsBy read image image' out out' log log' (Err Write) =
    Failed image.failures image'.failures out out' log log' 0 1 0 × (length read ≤ image_limit)
EndsBy read image image' out out' log log' (Err Log) =
    Failed image.failures image'.failures out out' log log' 0 0 1 × (length read ≤ image_limit)
EndsBy read image image' out out' log log' (Err TooLong) =
    Failed image.failures image'.failures out out' log log' 0 0 0 × (image_limit < length read)
    × (image'.ended ≡ false)

-- the end of a call that has read some of an image, with the failures that its output and its log
-- have counted
pub record Ending {T : Type 0} (image image' : Incoming) (out out' log log' : ℕ)
    (result : Result T Fault) : Type 0 where
  pub read : List ℕ
  pub consumes : Consumes image.rest image'.rest read
  pub by : EndsBy read image image' out out' log log' result

-- no byte after the millionth sector was read
not_beyond : {T : Type 0} (image image' : Incoming) (result : Result T Fault) (read : List ℕ)
    → Consumes image.rest image'.rest read → length read ≤ image_limit
    → (result ≡ Err TooLong → ⊥) → AnswersTooLong image image' result
not_beyond image image' result read consumed within other = λ bytes left gives leaves.
    let all = consumed_length image.rest image'.rest read bytes left consumed gives leaves in
    (λ is. absurd (other is), λ more. absurd (omega arith))

module _ {T : Type 0} {image image' : Incoming} {out out' log log' : ℕ} where
  pub read_failed : (result : Result T Fault) → Ending image image' out out' log log' result
      → (result ≡ Err Read) ↔ (image'.failures ≡ image.failures + 1)
  read_failed (Ok x) e = (λ is. cc, λ rose. absurd (omega (arith, e.by.0)))
  read_failed (Err Read) e = (λ is. e.by.0.reads_failed, λ rose. refl)
  read_failed (Err Write) e = (λ is. cc, λ rose. absurd (omega (arith, e.by.0)))
  read_failed (Err Log) e = (λ is. cc, λ rose. absurd (omega (arith, e.by.0)))
  read_failed (Err TooLong) e = (λ is. cc, λ rose. absurd (omega (arith, e.by.0)))

  pub write_failed : (result : Result T Fault) → Ending image image' out out' log log' result
      → (result ≡ Err Write) ↔ (out' ≡ out + 1)
  write_failed (Ok x) e = (λ is. cc, λ rose. absurd (omega (arith, e.by.0)))
  write_failed (Err Read) e = (λ is. cc, λ rose. absurd (omega (arith, e.by.0)))
  write_failed (Err Write) e = (λ is. e.by.0.writes_failed, λ rose. refl)
  write_failed (Err Log) e = (λ is. cc, λ rose. absurd (omega (arith, e.by.0)))
  write_failed (Err TooLong) e = (λ is. cc, λ rose. absurd (omega (arith, e.by.0)))

  pub log_failed : (result : Result T Fault) → Ending image image' out out' log log' result
      → (result ≡ Err Log) ↔ (log' ≡ log + 1)
  log_failed (Ok x) e = (λ is. cc, λ rose. absurd (omega (arith, e.by.0)))
  log_failed (Err Read) e = (λ is. cc, λ rose. absurd (omega (arith, e.by.0)))
  log_failed (Err Write) e = (λ is. cc, λ rose. absurd (omega (arith, e.by.0)))
  log_failed (Err Log) e = (λ is. e.by.0.logs_failed, λ rose. refl)
  log_failed (Err TooLong) e = (λ is. cc, λ rose. absurd (omega (arith, e.by.0)))

  pub too_long : (result : Result T Fault) → Ending image image' out out' log log' result
      → AnswersTooLong image image' result
  too_long (Ok x) e = not_beyond image image' _ e.read e.consumes e.by.1 (λ is. cc)
  too_long (Err Read) e = not_beyond image image' _ e.read e.consumes e.by.1 (λ is. cc)
  too_long (Err Write) e = not_beyond image image' _ e.read e.consumes e.by.1 (λ is. cc)
  too_long (Err Log) e = not_beyond image image' _ e.read e.consumes e.by.1 (λ is. cc)
  too_long (Err TooLong) e = λ bytes left gives leaves.
      let all = consumed_length image.rest image'.rest e.read bytes left e.consumes gives leaves in
      (λ is. omega (arith, e.by.1), λ more. refl)

  pub ended : (result : Result T Fault) → Ending image image' out out' log log' result
      → OnOk result (image'.ended ≡ true)
  ended (Ok x) e = e.by.3
  ended (Err fault) e = tt

  module _ (no_read : image'.failures ≡ image.failures) (no_write : out' ≡ out)
      (no_log : log' ≡ log) where
    pub by_length : (result : Result T Fault) → Ending image image' out out' log log' result
        → AnswersByLength image result
    by_length (Ok x) e = λ bytes gives.
        let size =
        ap length (consumed_all image.rest image'.rest e.read bytes e.consumes e.by.2 gives).1 in
        (λ few. refl, λ many. absurd (omega (arith, e.by.1)))
    by_length (Err Read) e = absurd (omega (arith, e.by.0))
    by_length (Err Write) e = absurd (omega (arith, e.by.0))
    by_length (Err Log) e = absurd (omega (arith, e.by.0))
    by_length (Err TooLong) e = λ bytes gives.
        let size = consumed_within image.rest image'.rest e.read bytes e.consumes gives in
        (λ few. absurd (omega (arith, e.by.1)), λ many. refl)

    pub by_end : (result : Result T Fault) → Ending image image' out out' log log' result
        → AnswersByEnd image' result
    by_end (Ok x) e = (λ is. refl, λ is. absurd (true≢false (sym e.by.3 ∙ is)))
    by_end (Err Read) e = absurd (omega (arith, e.by.0))
    by_end (Err Write) e = absurd (omega (arith, e.by.0))
    by_end (Err Log) e = absurd (omega (arith, e.by.0))
    by_end (Err TooLong) e = (λ is. absurd (true≢false (sym is ∙ e.by.2)), λ is. refl)
