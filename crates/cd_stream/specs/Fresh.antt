-- Streams over memory, before their first use.
use Rattle.std.specs.Prelude.{ℕ, List, [], None, Some, false}
use Rattle.cd_stream.specs.Stream.{Incoming, Outgoing}

-- a source of these bytes, before its first read
abbrev pub fresh_incoming : List ℕ → Incoming
fresh_incoming bytes = record { rest = Some bytes; given = 0; failures = 0; ended = false }

-- a sink in memory to which nothing was written yet; its flush never fails, and no slice was lent
-- to it
abbrev pub fresh_outgoing : Outgoing
fresh_outgoing = record {
  written = Some [];
  taken = 0;
  flushes = 0;
  failures = 0;
  finished = false;
  flush_may_fail = false;
  lent = None;
}
