-- The state of a sink that holds bytes back, beyond the properties of all sinks.
use Rattle.std.specs.Prelude.{◌≡◌, ℕ, ◌+◌, ◌-◌, Bool, ◌&&◌, true, List, [], ◌++◌, drop, if◌then◌else◌}
use Rattle.std.specs.Prelude.{length, nat_eq, nat_le, take, Result, Ok, IsOk}
use Rattle.std.specs.Io.KnownBytes.{Keeps, append_known}
use Rattle.cd_stream.specs.Stream.{Outgoing}
use Rattle.cd_stream.specs.Transfer.{Counts}
use Rattle.cd_stream.specs.declared.adapters.buffered.Buffered.{Buffered}

-- the inner sink
abbrev pub buffered_inner : {S : Type 0} → Buffered S → S
buffered_inner b = b.inner

-- the held bytes: written to it, and not yet passed on
abbrev pub held_bytes : {S : Type 0} → Buffered S → List ℕ
held_bytes b = take (b.end - b.start) (drop b.start b.space.items)

-- the number of held bytes
abbrev pub held_count : {S : Type 0} → Buffered S → ℕ
held_count b = b.end - b.start

-- the largest number of bytes that it can hold
abbrev pub space_of : {S : Type 0} → Buffered S → ℕ
space_of b = length b.space.items

-- the number of bytes for which there is room after the held bytes
abbrev pub room_after : {S : Type 0} → Buffered S → ℕ
room_after b = length b.space.items - b.end

-- whether the last call of its own `write` or `finish` was a `finish` that succeeded
abbrev pub is_finished : {S : Type 0} → Buffered S → Bool
is_finished b = b.finished

-- its state in contracts. Its bytes are those written to the inner sink, then the held bytes. The
-- flushes and failures are those of the inner sink. It is finished only if the inner sink is
-- finished too, and no byte is held. Its flush may fail, since it passes on the held bytes
abbrev pub buffered_outgoing : {S : Type 0} → (S → Outgoing) → Buffered S → Outgoing
buffered_outgoing seen b = record {
  written = append_known (seen b.inner).written (held_bytes b);
  taken = (seen b.inner).taken + held_count b;
  flushes = (seen b.inner).flushes;
  failures = (seen b.inner).failures;
  finished = b.finished && (seen b.inner).finished && nat_eq b.start b.end;
  flush_may_fail = true;
  lent = (seen b.inner).lent;
}

-- all bytes written to it have reached the inner sink, which is finished
pub record HasDrained {S : Type 0} (seen : S → Outgoing) (b : Buffered S) : Type 0 where
  pub empty : held_bytes b ≡ []
  pub reached : (seen b.inner).written ≡ (buffered_outgoing seen b).written
  pub below : (seen b.inner).finished ≡ true

-- the held bytes after a write that found no room: the bytes of the write, or none if they are more
-- than the space
abbrev pub held_only : {S : Type 0} → Buffered S → List ℕ → List ℕ
held_only b bytes = if nat_le (length bytes) (space_of b) then bytes else []

-- the held bytes after a write that succeeds
abbrev pub held_after : {S : Type 0} → Buffered S → List ℕ → List ℕ
held_after b bytes =
    if nat_le (length bytes) (room_after b) then held_bytes b ++ bytes else held_only b bytes

-- a write for which there is room: all of it is held, and nothing reaches the inner sink
pub record HoldsBack {S E : Type 0} (old new : Buffered S) (given : List ℕ)
    (result : Result ℕ E) : Type 0 where
  pub takes_all : result ≡ Ok (length given)
  pub below : buffered_inner new ≡ buffered_inner old
  pub held : held_bytes new ≡ held_bytes old ++ given

-- passing on all held bytes, without a flush; at Err a front of them was passed on, and the rest is
-- still held
pub record Drains {S E : Type 0} (seen : S → Outgoing) (old new : Buffered S)
    (result : Result (Unit {0}) E) : Type 0 where
  pub bytes : Keeps (buffered_outgoing seen old).written (buffered_outgoing seen new).written
  pub taken : (buffered_outgoing seen new).taken ≡ (buffered_outgoing seen old).taken
  pub flushes : (seen new.inner).flushes ≡ (seen old.inner).flushes
  pub count : Counts (seen old.inner).failures (seen new.inner).failures result
  pub finished : new.finished ≡ old.finished
  pub lent : (seen new.inner).lent ≡ (seen old.inner).lent
  pub space : space_of new ≡ space_of old
  pub empty : IsOk result → (new.start ≡ 0) × (new.end ≡ 0)
