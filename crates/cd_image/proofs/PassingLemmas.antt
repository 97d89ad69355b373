-- One step of a run over a source and two sinks.
use Rattle.std.proofs.Common.{◌≡◌, ℕ, Bool, true, false, List, [], ◌∷◌, ◌++◌, take, Option, None, Some, Ok, refl, arith, append-nil}
use Rattle.std.proofs.KnownBytes.{Consumes-nil}
use Rattle.cd_script.specs.PatchForm.{Patch}
use Rattle.cd_patch.specs.declared.outcome.Outcome.{Outcome}
use Rattle.cd_patch.proofs.SequenceLemmas.{PatchSequence-lengths}
use Rattle.cd_image.specs.Applying.{Streams}
use Rattle.cd_read.specs.Reading.{EndComes, SectorComes}
use Rattle.cd_sector.specs.Image.{bytes_of}
use Rattle.cd_image.specs.Passing.{PassInvariant}
use Rattle.cd_run.specs.PatchLog.{log_line}
use Rattle.cd_run.specs.Running.{Reached, sent_bytes, tail_bytes}
use Rattle.cd_stream.specs.Stream.{Incoming, Outgoing}
use Rattle.cd_stream.specs.Transfer.{Gives, Sends, Takes}
use Rattle.cd_stream.proofs.TransferLemmas.{Gives-trans, Takes-nil, Takes-trans}
use Rattle.cd_run.proofs.PatchLogLemmas.{log_lines-append}
use Rattle.cd_run.proofs.BytesLemmas.{bytes_of-more}
use Rattle.cd_run.proofs.RunningLemmas.{Reached-start, never_some}

-- before the first step
pub Going-start : (carry : Bool) (left : List Patch) (base : ℕ) (start : Streams)
    → PassInvariant carry [] left base start start [] base 0 0 None false
Going-start carry left base start = record {
  seen = [];
  done = [];
  outcomes = [];
  gives = record { consumes = Consumes-nil start.image.rest; counted = omega arith };
  sends = Takes-nil start.out;
  logs = Takes-nil start.log;
  ended = λ never. cc;
  unfailed = omega arith;
  unflushed = omega arith;
  state = Reached-start carry left base;
}

came_more : {start now image : Incoming} (seen : List (List ℕ)) {tail : Option (List ℕ)}
    → tail ≡ None → Gives start now (bytes_of seen ++ tail_bytes tail)
    → (more : List ℕ) → Gives now image more → Gives start image (bytes_of seen ++ more)
came_more seen none before more gives =
    rw append-nil at (Gives-trans _ _ _ _ _ (rw none at before) gives)

-- the output is unchanged, before the tail is sent
sent_same : {start now : Outgoing} (done : List (List ℕ)) (tail : Option (List ℕ))
    {closed : Bool} (tail' : Option (List ℕ)) (closed' : Bool) → closed ≡ false → closed' ≡ false
    → Takes start now (sent_bytes done tail closed) → Takes start now (sent_bytes done tail' closed')
sent_same done tail tail' closed' unclosed unclosed' sends = rw unclosed' (rw unclosed at sends)

module _ {carry : Bool} {taken left : List Patch} {base : ℕ} {start now : Streams}
    {window window' : List (List ℕ)} {block block' sectors sectors' applied applied' : ℕ}
    {tail tail' : Option (List ℕ)} {closed closed' : Bool} {image : Incoming}
    (g : PassInvariant carry taken left base start now window block sectors applied tail closed)
    (none : tail ≡ None) (unclosed : closed ≡ false) (unclosed' : closed' ≡ false) where
  -- a sector was read
  pub Going-sector : {came : List ℕ} → tail' ≡ None
      → Reached carry taken left base (g.seen ++ came ∷ []) g.done window' g.outcomes block'
      sectors' applied' tail' closed'
      → SectorComes sectors came now.image image
      → PassInvariant carry taken left base start (record now { image = image }) window' block'
      sectors' applied' tail' closed'
  Going-sector {came} none' state comes = record {
    seen = g.seen ++ came ∷ [];
    done = g.done;
    outcomes = g.outcomes;
    gives =
        rw (none', bytes_of-more, append-nil)
        (came_more g.seen none g.gives came (record { consumes = comes.consumes; counted = omega arith }));
    sends = sent_same g.done tail tail' closed' unclosed unclosed' g.sends;
    logs = g.logs;
    ended = λ some. never_some tail' none' some;
    unfailed = omega arith;
    unflushed = omega arith;
    state = state;
  }

  -- less than a sector was read, and nothing is left
  pub Going-end : {count : ℕ} {bytes : List ℕ} → tail' ≡ Some (take count bytes)
      → Reached carry taken left base g.seen g.done window' g.outcomes block' sectors' applied'
      tail' closed'
      → EndComes sectors count bytes now.image image
      → PassInvariant carry taken left base start (record now { image = image }) window' block'
      sectors' applied' tail' closed'
  Going-end {count} {bytes} is state comes = record {
    seen = g.seen;
    done = g.done;
    outcomes = g.outcomes;
    gives =
        rw is
        (came_more g.seen none g.gives (take count bytes) (record { consumes = comes.consumes; counted = omega arith }));
    sends = sent_same g.done tail tail' closed' unclosed unclosed' g.sends;
    logs = g.logs;
    ended = λ some. (comes.at_end, comes.ended);
    unfailed = omega arith;
    unflushed = omega arith;
    state = state;
  }

module _ {X E : Type 0} {x : X} {carry : Bool} {taken left : List Patch} {base : ℕ}
    {start now : Streams} {window window' : List (List ℕ)}
    {block block' sectors sectors' applied applied' : ℕ} {tail tail' : Option (List ℕ)}
    {closed closed' : Bool} {out : Outgoing}
    (g : PassInvariant carry taken left base start now window block sectors applied tail closed)
    (same : tail' ≡ tail) (unclosed : closed ≡ false) where
  -- a sector was sent
  pub Going-send : {sector : List ℕ} → closed' ≡ false
      → Reached carry taken left base g.seen (g.done ++ sector ∷ []) window' g.outcomes block'
      sectors' applied' tail' closed'
      → Sends {X = X} {E = E} now.out out sector (Ok x)
      → PassInvariant carry taken left base start (record now { out = out }) window' block' sectors'
      applied' tail' closed'
  Going-send {sector} unclosed' state sent = record {
    seen = g.seen;
    done = g.done ++ sector ∷ [];
    outcomes = g.outcomes;
    gives = rw same g.gives;
    sends =
        rw (unclosed', bytes_of-more)
        (Takes-trans _ _ _ _ _ (rw unclosed at g.sends) sent.taken);
    logs = g.logs;
    ended = rw same g.ended;
    unfailed = omega arith;
    unflushed = omega arith;
    state = state;
  }

  -- the tail was sent
  pub Going-close : {bytes : List ℕ} → tail ≡ Some bytes → closed' ≡ true
      → Reached carry taken left base g.seen g.done window' g.outcomes block' sectors' applied'
      tail' closed'
      → Sends {X = X} {E = E} now.out out bytes (Ok x)
      → PassInvariant carry taken left base start (record now { out = out }) window' block' sectors'
      applied' tail' closed'
  Going-close is shut state sent = record {
    seen = g.seen;
    done = g.done;
    outcomes = g.outcomes;
    gives = rw same g.gives;
    sends = rw (shut, same, is) (Takes-trans _ _ _ _ _ (rw unclosed at g.sends) sent.taken);
    logs = g.logs;
    ended = rw same g.ended;
    unfailed = omega arith;
    unflushed = omega arith;
    state = state;
  }

-- a patch was decided, and its line written
pub Going-take : {X E : Type 0} {x : X} {carry : Bool} {taken left : List Patch} {p : Patch}
    (o : Outcome) {base : ℕ} {start now : Streams} {window window' : List (List ℕ)}
    {block block' sectors sectors' applied applied' : ℕ} {tail tail' : Option (List ℕ)}
    {closed closed' : Bool} {log : Outgoing}
    (g : PassInvariant carry taken (p ∷ left) base start now window block sectors applied tail
    closed)
    → tail' ≡ tail → closed' ≡ closed
    → Reached carry (taken ++ p ∷ []) left base g.seen g.done window' (g.outcomes ++ o ∷ []) block'
    sectors' applied' tail' closed'
    → Sends {X = X} {E = E} now.log log (log_line p o) (Ok x)
    → PassInvariant carry (taken ++ p ∷ []) left base start (record now { log = log }) window'
    block' sectors' applied' tail' closed'
Going-take {taken = taken} {p = p} o g same_tail same_closed state logged = record {
  seen = g.seen;
  done = g.done;
  outcomes = g.outcomes ++ o ∷ [];
  gives = rw same_tail g.gives;
  sends = rw (same_tail, same_closed) g.sends;
  logs =
      let lengths = PatchSequence-lengths _ _ _ _ _ _ (g.state.run [] (λ some. refl)) in
      rw (log_lines-append taken (p ∷ []) g.outcomes (o ∷ []) lengths, append-nil)
      (Takes-trans _ _ _ _ _ g.logs logged.taken);
  ended = rw same_tail g.ended;
  unfailed = omega arith;
  unflushed = omega arith;
  state = state;
}
