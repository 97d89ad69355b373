-- How a call that reads an image ends: which images may be the one that was read, and what the
-- result of the call says about it.
use Rattle.std.specs.Prelude.{◌≡◌, ◌↔◌, ℕ, ◌+◌, ◌<◌, ◌≤◌, IsOk, false, true, List, [], ◌∷◌, length}
use Rattle.std.specs.Prelude.{take, Option, None, Some, Result, Err}
use Rattle.cd_sector.specs.Image.{image_limit}
use Rattle.cd_read.specs.declared.fault.Fault.{Fault}
use Rattle.cd_read.specs.declared.fault.Fault.TheVariants.{TooLong}
use Rattle.cd_stream.specs.Stream.{Incoming, IsBeginning, Outgoing}

-- `image` may be the image that is read: it has at most 2,352,000,000 bytes, and begins with the
-- bytes read
pub record MayBeImage (read image : List ℕ) : Type 0 where
  pub within : length image ≤ image_limit
  pub begins : IsBeginning (take image_limit read) image

-- after a failed write: `MayBeImage`, if the source is known to have more bytes; otherwise the
-- image is exactly the bytes read
abbrev pub MayBeImageAtEnd : Option (List ℕ) → List ℕ → List ℕ → Type 0
MayBeImageAtEnd None read image = image ≡ read
MayBeImageAtEnd (Some []) read image = image ≡ read
MayBeImageAtEnd (Some (x ∷ xs)) read image = MayBeImage read image

-- if the source's bytes are known: the call returns `TooLong` exactly if a byte was read after the
-- millionth sector
abbrev pub AnswersTooLong : {T : Type 0} → Incoming → Incoming → Result T Fault → Type 0
AnswersTooLong image image' result =
    (bytes left : List ℕ) → image.rest ≡ Some bytes → image'.rest ≡ Some left
    → (result ≡ Err TooLong) ↔ (image_limit + length left < length bytes)

-- if the source's bytes are known: the call returns Ok for an image of at most 2,352,000,000 bytes,
-- and `TooLong` for a longer one. The clause `by_length` of all four calls states this if no
-- failure was counted
abbrev pub AnswersByLength : {T : Type 0} → Incoming → Result T Fault → Type 0
AnswersByLength image result =
    (bytes : List ℕ) → image.rest ≡ Some bytes → (length bytes ≤ image_limit → IsOk result)
    × (image_limit < length bytes → result ≡ Err TooLong)

-- the call returns Ok if the source's last read returned 0 bytes, and else `TooLong`. The clause
-- `by_end` of all four calls states this if no failure was counted. It holds for sources of any
-- kind: one that never ends gives `TooLong`
abbrev pub AnswersByEnd : {T : Type 0} → Incoming → Result T Fault → Type 0
AnswersByEnd image' result =
    (image'.ended ≡ true → IsOk result) × (image'.ended ≡ false → result ≡ Err TooLong)

-- no failure was counted, and the sink is finished
pub record EndsWell (image image' : Incoming) (out out' : Outgoing) : Type 0 where
  pub reads : image'.failures ≡ image.failures
  pub writes : out'.failures ≡ out.failures
  pub finished : out'.finished ≡ true

-- the image has not ended, and if its bytes are known, a byte was read after the millionth sector
pub record IsTooLong (image image' : Incoming) : Type 0 where
  pub unended : image'.ended ≡ false
  pub beyond : (bytes left : List ℕ) → image.rest ≡ Some bytes → image'.rest ≡ Some left
      → image_limit + length left < length bytes
