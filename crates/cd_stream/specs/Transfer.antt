-- The effect of one read of a source, of one write and one flush of a sink, and of reading and
-- writing all bytes.
use Rattle.std.specs.Prelude.{◌≡◌, ℕ, ◌+◌, ◌<◌, ◌≤◌, Bool, false, true, nat_eq, List, length, take}
use Rattle.std.specs.Prelude.{Result, Ok, Err, is_ok, OnErr}
use Rattle.std.specs.Io.KnownBytes.{Appends, Consumes, IsAtEnd, Keeps}
use Rattle.cd_stream.specs.Stream.{Incoming, Outgoing}

-- Ok leaves the count unchanged, and Err adds 1
abbrev pub Counts : {X E : Type 0} → ℕ → ℕ → Result X E → Type 0
Counts old new (Ok x) = new ≡ old
Counts old new (Err e) = new ≡ old + 1

-- the number in an Ok; 0 for an Err
abbrev pub moved : {E : Type 0} → Result ℕ E → ℕ
moved (Ok n) = n
moved (Err e) = 0

-- one flush was made; at Err, at most one
abbrev pub CountsFlush : {X E : Type 0} → ℕ → ℕ → Result X E → Type 0
CountsFlush old new (Ok x) = new ≡ old + 1
CountsFlush old new (Err e) = (old ≤ new) × (new ≤ old + 1)

-- these bytes were read from the source, which has counted them
pub record Gives (old new : Incoming) (bytes : List ℕ) : Type 0 where
  pub consumes : Consumes old.rest new.rest bytes
  pub counted : new.given ≡ old.given + length bytes

-- these bytes were written to the sink, which has counted them. Whether its flush may fail, and the
-- slice that was lent to it, are as before
pub record Takes (old new : Outgoing) (bytes : List ℕ) : Type 0 where
  pub appends : Appends old.written new.written bytes
  pub counted : new.taken ≡ old.taken + length bytes
  pub flush_may_fail : new.flush_may_fail ≡ old.flush_may_fail
  pub lent : new.lent ≡ old.lent

-- at Ok(n) the first n bytes of the buffer were read, and n is 0 only at the end; at Err no byte
-- was read
abbrev pub GotSome : {E : Type 0} → Incoming → Incoming → List ℕ → Result ℕ E → Type 0
GotSome old new buffer (Ok n) =
    (n ≤ length buffer) × Consumes old.rest new.rest (take n buffer) × (n ≡ 0 → IsAtEnd new.rest)
GotSome old new buffer (Err e) = Keeps old.rest new.rest

-- whether a read returned 0 bytes
abbrev pub is_end : {E : Type 0} → Result ℕ E → Bool
is_end (Ok n) = nat_eq n 0
is_end (Err e) = false

-- at Ok(n) the first n bytes, at least one, were written; at Err no byte was written
abbrev pub PutSome : {E : Type 0} → Outgoing → Outgoing → List ℕ → Result ℕ E → Type 0
PutSome old new bytes (Ok n) =
    (0 < n) × (n ≤ length bytes) × Appends old.written new.written (take n bytes)
PutSome old new bytes (Err e) = Keeps old.written new.written

-- one read
pub record Reads {E : Type 0} (old new : Incoming) (buffer : List ℕ)
    (result : Result ℕ E) : Type 0 where
  pub bytes : GotSome old new buffer result
  pub given : new.given ≡ old.given + moved result
  pub count : Counts old.failures new.failures result
  pub ended : new.ended ≡ is_end result

-- one write
pub record Writes {E : Type 0} (old new : Outgoing) (given : List ℕ)
    (result : Result ℕ E) : Type 0 where
  pub bytes : PutSome old new given result
  pub taken : new.taken ≡ old.taken + moved result
  pub flushes : new.flushes ≡ old.flushes
  pub count : Counts old.failures new.failures result
  pub unfinished : new.finished ≡ false
  pub flush_may_fail : new.flush_may_fail ≡ old.flush_may_fail
  pub lent : new.lent ≡ old.lent

-- one flush: it moves no byte, and the sink is finished if it succeeds. At Err, a write that had to
-- come first may have failed, and then no flush was made. Only a sink whose flush may fail returns
-- Err
pub record Flushes {E : Type 0} (old new : Outgoing) (result : Result (Unit {0}) E) : Type 0 where
  pub bytes : Keeps old.written new.written
  pub taken : new.taken ≡ old.taken
  pub flushes : CountsFlush old.flushes new.flushes result
  pub count : Counts old.failures new.failures result
  pub finished : new.finished ≡ is_ok result
  pub flush_may_fail : new.flush_may_fail ≡ old.flush_may_fail
  pub lent : new.lent ≡ old.lent
  pub fails : OnErr result (old.flush_may_fail ≡ true)

-- at Ok(n) the first n bytes of the buffer were read, fewer than its length only at the end; at Err
-- the bytes of some front were read
abbrev pub GotAll : {E : Type 0} → Incoming → Incoming → List ℕ → Result ℕ E → Type 0
GotAll old new buffer (Ok n) =
    (n ≤ length buffer) × Consumes old.rest new.rest (take n buffer)
    × (n < length buffer → IsAtEnd new.rest)
GotAll old new buffer (Err e) =
    (n : ℕ) × (n < length buffer) × Consumes old.rest new.rest (take n buffer)

-- the bytes read are counted
abbrev pub CountsGiven : {E : Type 0} → Incoming → Incoming → List ℕ → Result ℕ E → Type 0
CountsGiven old new buffer (Ok n) = Gives old new (take n buffer)
CountsGiven old new buffer (Err e) = (n : ℕ) × (n < length buffer) × Gives old new (take n buffer)

-- if the buffer is not full, the last read returned 0 bytes; if it is full, or a read failed, the
-- last read did not
abbrev pub EndFlag : {E : Type 0} → Incoming → List ℕ → Result ℕ E → Type 0
EndFlag new buffer (Ok n) =
    (n < length buffer → new.ended ≡ true) × (0 < n → n ≡ length buffer → new.ended ≡ false)
EndFlag new buffer (Err e) = new.ended ≡ false

-- at Ok all bytes were written; at Err a front of them, without the last byte
abbrev pub PutAll : {X E : Type 0} → Outgoing → Outgoing → List ℕ → Result X E → Type 0
PutAll old new bytes (Ok x) = Appends old.written new.written bytes
PutAll old new bytes (Err e) =
    (n : ℕ) × (n < length bytes) × Appends old.written new.written (take n bytes)

-- the bytes written are counted
abbrev pub CountsTaken : {X E : Type 0} → Outgoing → Outgoing → List ℕ → Result X E → Type 0
CountsTaken old new bytes (Ok x) = Takes old new bytes
CountsTaken old new bytes (Err e) = (n : ℕ) × (n < length bytes) × Takes old new (take n bytes)

-- reads until the buffer is full or the source ends
pub record Fills {E : Type 0} (old new : Incoming) (buffer : List ℕ)
    (result : Result ℕ E) : Type 0 where
  pub bytes : GotAll old new buffer result
  pub given : CountsGiven old new buffer result
  pub count : Counts old.failures new.failures result
  pub ended : EndFlag new buffer result

-- writes all the bytes, without a flush
pub record Sends {X E : Type 0} (old new : Outgoing) (given : List ℕ)
    (result : Result X E) : Type 0 where
  pub bytes : PutAll old new given result
  pub taken : CountsTaken old new given result
  pub flushes : new.flushes ≡ old.flushes
  pub count : Counts old.failures new.failures result
  pub unfinished : 0 < length given → new.finished ≡ false
