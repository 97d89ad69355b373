-- The steps of a run in terms of bytes, for callers that read and write the bytes themselves.
use Rattle.std.proofs.Common.{◌≡◌, ℕ, Bool, false, List, [], ◌∷◌, ◌++◌, take, drop, Option, None, Some, refl, sym, ap, ◌∙◌, arith, append-nil}
use Rattle.cd_script.specs.PatchForm.{Patch}
use Rattle.cd_sector.specs.Image.{bytes_of}
use Rattle.cd_run.specs.Running.{HasReached, IsRun, closed_at, sent_bytes, tail_bytes, tail_of}
use Rattle.cd_run.specs.Underway.{Underway}
use Rattle.cd_run.specs.declared.run.PatchRun.{PatchRun}
use Rattle.cd_run.proofs.BytesLemmas.{bytes_of-append, bytes_of-more}

-- the bytes sent, before the tail was sent
pub sent_open : (done : List (List ℕ)) (tail : Option (List ℕ)) (closed : Bool) → closed ≡ false
    → sent_bytes done tail closed ≡ bytes_of done
sent_open done tail closed unclosed = rw unclosed refl

-- the bytes read, before the end of the image
read_open : {read : List ℕ} (seen : List (List ℕ)) (tail : Option (List ℕ))
    → read ≡ bytes_of seen ++ tail_bytes tail → tail ≡ None → read ≡ bytes_of seen
read_open seen tail is none =
    is ∙ ap (λ t. bytes_of seen ++ tail_bytes t) none ∙ append-nil (bytes_of seen)

read_shut : {read : List ℕ} (seen : List (List ℕ)) (tail : Option (List ℕ))
    → read ≡ bytes_of seen → tail ≡ None → read ≡ bytes_of seen ++ tail_bytes tail
read_shut seen tail is none =
    is ∙ sym (append-nil (bytes_of seen)) ∙ ap (λ t. bytes_of seen ++ tail_bytes t) (sym none)

module _ {carry : Bool} {patches : List Patch} {base : ℕ} {read sent log_bytes : List ℕ}
    {old : PatchRun} {hand : List (List ℕ)}
    (h : Underway carry patches base read sent log_bytes old hand) (new : PatchRun)
    (hand' : List (List ℕ))
    (sound : IsRun new) (decided : new.decided ≡ old.decided) where
  -- a sector was read
  pub Underway-sector : (came : List ℕ) → tail_of old hand ≡ None → tail_of new hand' ≡ None
      → closed_at old.stage ≡ false → closed_at new.stage ≡ false
      → HasReached carry (take old.decided patches) (drop old.decided patches) base
      (h.seen ++ came ∷ []) h.done h.outcomes new hand'
      → Underway carry patches base (read ++ came) sent log_bytes new hand'
  Underway-sector came none none' unclosed unclosed' state = record {
    seen = h.seen ++ came ∷ [];
    done = h.done;
    outcomes = h.outcomes;
    sound = sound;
    known = omega (arith, decided, h.known);
    state = rw decided state;
    came =
        read_shut (h.seen ++ came ∷ []) (tail_of new hand')
        (ap (λ l. l ++ came) (read_open h.seen (tail_of old hand) h.came none)
        ∙ sym (bytes_of-more h.seen came)) none';
    went =
        h.went ∙ sent_open h.done (tail_of old hand) (closed_at old.stage) unclosed
        ∙ sym (sent_open h.done (tail_of new hand') (closed_at new.stage) unclosed');
    logged = rw decided h.logged;
  }

  -- the image has ended
  pub Underway-end : (came : List ℕ) → tail_of old hand ≡ None → tail_of new hand' ≡ Some came
      → closed_at old.stage ≡ false → closed_at new.stage ≡ false
      → HasReached carry (take old.decided patches) (drop old.decided patches) base
      h.seen h.done h.outcomes new hand'
      → Underway carry patches base (read ++ came) sent log_bytes new hand'
  Underway-end came none is unclosed unclosed' state = record {
    seen = h.seen;
    done = h.done;
    outcomes = h.outcomes;
    sound = sound;
    known = omega (arith, decided, h.known);
    state = rw decided state;
    came =
        ap (λ l. l ++ came) (read_open h.seen (tail_of old hand) h.came none)
        ∙ ap (λ t. bytes_of h.seen ++ tail_bytes t) (sym is);
    went =
        h.went ∙ sent_open h.done (tail_of old hand) (closed_at old.stage) unclosed
        ∙ sym (sent_open h.done (tail_of new hand') (closed_at new.stage) unclosed');
    logged = rw decided h.logged;
  }

  -- sectors were read and sent
  pub Underway-copied : (more : List (List ℕ)) → tail_of old hand ≡ None → tail_of new hand' ≡ None
      → closed_at old.stage ≡ false → closed_at new.stage ≡ false
      → HasReached carry (take old.decided patches) (drop old.decided patches) base
      (h.seen ++ more) (h.done ++ more) h.outcomes new hand'
      → Underway carry patches base (read ++ bytes_of more) (sent ++ bytes_of more) log_bytes new hand'
  Underway-copied more none none' unclosed unclosed' state = record {
    seen = h.seen ++ more;
    done = h.done ++ more;
    outcomes = h.outcomes;
    sound = sound;
    known = omega (arith, decided, h.known);
    state = rw decided state;
    came =
        read_shut (h.seen ++ more) (tail_of new hand')
        (ap (λ l. l ++ bytes_of more) (read_open h.seen (tail_of old hand) h.came none)
        ∙ sym (bytes_of-append h.seen more)) none';
    went =
        ap (λ l. l ++ bytes_of more)
        (h.went ∙ sent_open h.done (tail_of old hand) (closed_at old.stage) unclosed)
        ∙ sym (bytes_of-append h.done more)
        ∙ sym (sent_open (h.done ++ more) (tail_of new hand') (closed_at new.stage) unclosed');
    logged = rw decided h.logged;
  }

  -- a sector was sent
  pub Underway-sent : (sector : List ℕ) → tail_of new hand' ≡ tail_of old hand
      → closed_at old.stage ≡ false → closed_at new.stage ≡ false
      → HasReached carry (take old.decided patches) (drop old.decided patches) base
      h.seen (h.done ++ sector ∷ []) h.outcomes new hand'
      → Underway carry patches base read (sent ++ sector) log_bytes new hand'
  Underway-sent sector same unclosed unclosed' state = record {
    seen = h.seen;
    done = h.done ++ sector ∷ [];
    outcomes = h.outcomes;
    sound = sound;
    known = omega (arith, decided, h.known);
    state = rw decided state;
    came = rw same h.came;
    went =
        ap (λ l. l ++ sector)
        (h.went ∙ sent_open h.done (tail_of old hand) (closed_at old.stage) unclosed)
        ∙ sym (bytes_of-more h.done sector)
        ∙ sym (sent_open (h.done ++ sector ∷ []) (tail_of new hand') (closed_at new.stage) unclosed');
    logged = rw decided h.logged;
  }
