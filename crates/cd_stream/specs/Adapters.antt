-- The state of the adapters in contracts, beyond the properties of all sources and sinks.
use Rattle.std.specs.Prelude.{ℕ, ◌+◌, ◌-◌, Bool, ◌&&◌, false, true, Some, length, min, nat_eq, replicate, take}
use Rattle.std.specs.Prelude.{List, drop}
use Rattle.std.specs.Borrow.{GName, MutBor}
use Rattle.std.specs.Mem.{manually_drop_value}
use Rattle.cd_stream.specs.Stream.{Incoming, Outgoing}
use Rattle.cd_stream.specs.declared.adapters.fail_after.FailAfter.{FailAfter}
use Rattle.cd_stream.specs.declared.adapters.short.Short.{Short}
use Rattle.cd_stream.specs.declared.adapters.slice_sink.SliceSink.{SliceSink}
use Rattle.cd_stream.specs.declared.adapters.slice_source.SliceSource.{SliceSource}
use Rattle.cd_stream.specs.declared.adapters.zero_source.ZeroSource.{ZeroSource}

-- ---- a slice as a source, and zeros

-- a slice as a source in contracts: its bytes from the next one on, and no failure
abbrev pub slice_incoming : SliceSource → Incoming
slice_incoming s = record {
  rest = Some s.rest.now;
  given = s.given;
  failures = 0;
  ended = s.ended;
}

-- zeros as a source in contracts: as many as are left, and no failure
abbrev pub zeros_incoming : ZeroSource → Incoming
zeros_incoming s = record {
  rest = Some (replicate s.left 0);
  given = s.given;
  failures = 0;
  ended = s.ended;
}

-- ---- a slice as a sink

-- the slice as it was lent
abbrev pub lent_to : SliceSink → MutBor (List ℕ)
lent_to s = (manually_drop_value s.lent).value.slice

-- a slice as a sink in contracts: the bytes at its front; its flush never fails
abbrev pub slice_outgoing : SliceSink → Outgoing
slice_outgoing s = record {
  written = Some (take s.used s.space.now);
  taken = s.used;
  flushes = s.flushes;
  failures = s.failures;
  finished = s.finished;
  flush_may_fail = false;
  lent = Some (lent_to s);
}

-- the bytes written, at the front of the slice
abbrev pub slice_written : SliceSink → List ℕ
slice_written s = take s.used s.space.now

-- the rest of the slice
abbrev pub rest_of_slice : SliceSink → List ℕ
rest_of_slice s = drop s.used s.space.now

-- the ghost name of the slice: plumbing, by which a caller knows that it is the same slice
abbrev pub slice_ghost_name : SliceSink → GName
slice_ghost_name s = s.space.ghost_name

-- the number of bytes for which there is room
abbrev pub room_of : SliceSink → ℕ
room_of s = length s.space.now - s.used

-- ---- few bytes per call

-- the source or sink inside
abbrev pub short_inner : {S : Type 0} → Short S → S
short_inner s = s.inner

-- the largest number of bytes that it passes per call
abbrev pub passes_at_most : {S : Type 0} → Short S → ℕ
passes_at_most s = s.most

-- whether the last call of its own `write` or `finish` was a `finish` that succeeded
abbrev pub short_finished : {S : Type 0} → Short S → Bool
short_finished s = s.finished

-- its state in contracts: that of the sink inside, but finished or not by its own calls
abbrev pub short_outgoing : {S : Type 0} → (S → Outgoing) → Short S → Outgoing
short_outgoing seen s = record (seen s.inner) { finished = s.finished }

-- ---- failing after a number of bytes

-- the source or sink inside
abbrev pub fail_after_inner : {S : Type 0} → FailAfter S → S
fail_after_inner f = f.inner

-- the number of bytes that it still passes
abbrev pub still_passes : {S : Type 0} → FailAfter S → ℕ
still_passes f = f.left

-- the failures after the limit
abbrev pub own_failures : {S : Type 0} → FailAfter S → ℕ
own_failures f = f.own

-- whether the last call of its own `write` or `finish` was a `finish` that succeeded
abbrev pub fail_after_finished : {S : Type 0} → FailAfter S → Bool
fail_after_finished f = f.finished

-- the sum of the failures inside and its own, as far as they can be counted
abbrev pub failures_with : {S : Type 0} → ℕ → FailAfter S → ℕ
failures_with within f = min (within + f.own) 4294967295

-- its state as a source in contracts: that of the source inside, with its own failures added; once
-- it has failed itself, it has not ended
abbrev pub failing_incoming : {S : Type 0} → (S → Incoming) → FailAfter S → Incoming
failing_incoming seen f = record (seen f.inner) {
  failures = failures_with (seen f.inner).failures f;
  ended = (seen f.inner).ended && nat_eq f.own 0;
}

-- its state as a sink in contracts: that of the sink inside, with its own failures added, including
-- those of a flush
abbrev pub failing_outgoing : {S : Type 0} → (S → Outgoing) → FailAfter S → Outgoing
failing_outgoing seen f = record {
  written = (seen f.inner).written;
  taken = (seen f.inner).taken;
  flushes = (seen f.inner).flushes;
  failures = failures_with (seen f.inner).failures f;
  finished = f.finished;
  flush_may_fail = true;
  lent = (seen f.inner).lent;
}
