-- Bytes that are read or written in several calls, and their counts.
use Rattle.std.proofs.Common.{◌≡◌, ℕ, ◌+◌, ◌-◌, ◌≤◌, List, ◌++◌, [], length, length-append, take, drop, Option, Result, refl, sym, ap, ◌∙◌, subst, arith}
use Rattle.std.proofs.Math.ListN.{length-take}
use Rattle.std.proofs.Math.Seq.{take-add, take-append-add}
use Rattle.std.proofs.lemmas.List.{length-take-le, take-append-le, take-take}
use Rattle.std.specs.Io.KnownBytes.{Appends, Consumes}
use Rattle.std.proofs.KnownBytes.{Appends-kept, Appends-nil, Appends-trans, Consumes-trans}
use Rattle.cd_stream.specs.Stream.{Incoming, Outgoing}
use Rattle.cd_stream.specs.Transfer.{Flushes, Gives, Takes}

-- the front of a buffer, counted by its length
pub Gives-front : (old new : Incoming) (n : ℕ) (buffer : List ℕ) → n ≤ length buffer
    → Consumes old.rest new.rest (take n buffer) → new.given ≡ old.given + n
    → Gives old new (take n buffer)
Gives-front old new n buffer few came count =
    record {
      consumes = came;
      counted =
          count ∙ ap (λ k. old.given + k) (sym (length-take-le n buffer few));
    }

pub Takes-front : (old new : Outgoing) (n : ℕ) (bytes : List ℕ) → n ≤ length bytes
    → Appends old.written new.written (take n bytes) → new.taken ≡ old.taken + n
    → new.flush_may_fail ≡ old.flush_may_fail → new.lent ≡ old.lent → Takes old new (take n bytes)
Takes-front old new n bytes few went count same lent =
    record {
      appends = went;
      counted =
          count ∙ ap (λ k. old.taken + k) (sym (length-take-le n bytes few));
      flush_may_fail = same;
      lent = lent;
    }

-- no bytes
pub Takes-nil : (a : Outgoing) → Takes a a []
Takes-nil a = record {
  appends = Appends-nil a.written;
  counted = omega arith;
  flush_may_fail = refl;
  lent = refl;
}

-- bytes of two reads, one after the other
pub Gives-trans : (a b c : Incoming) (bs cs : List ℕ) → Gives a b bs → Gives b c cs
    → Gives a c (bs ++ cs)
Gives-trans a b c bs cs p q = record {
  consumes = Consumes-trans a.rest b.rest c.rest bs cs p.consumes q.consumes;
  counted = omega (arith, p.counted, q.counted, length-append bs cs);
}

pub Takes-trans : (a b c : Outgoing) (bs cs : List ℕ) → Takes a b bs → Takes b c cs
    → Takes a c (bs ++ cs)
Takes-trans a b c bs cs p q = record {
  appends = Appends-trans a.written b.written c.written bs cs p.appends q.appends;
  counted = omega (arith, p.counted, q.counted, length-append bs cs);
  flush_may_fail = q.flush_may_fail ∙ p.flush_may_fail;
  lent = q.lent ∙ p.lent;
}

-- a flush moves no byte
pub Takes-flushed : {E : Type 0} (a b c : Outgoing) (bs : List ℕ) (result : Result (Unit {0}) E)
    → Takes a b bs → Flushes b c result → Takes a c bs
Takes-flushed a b c bs result went flush = record {
  appends = Appends-kept a.written b.written c.written bs went.appends flush.bytes;
  counted = flush.taken ∙ went.counted;
  flush_may_fail = flush.flush_may_fail ∙ went.flush_may_fail;
  lent = flush.lent ∙ went.lent;
}

-- the front of a buffer, after n more bytes were read into the part after it
take-refilled : (have n : ℕ) (xs ys post : List ℕ) → have ≤ length xs → n ≤ length ys
    → take (have + n) (take have xs ++ (ys ++ post)) ≡ take have xs ++ take n ys
take-refilled have n xs ys post h m =
    let front : length (take have xs) ≡ have = length-take-le have xs h in
    ap (λ k. take (k + n) (take have xs ++ (ys ++ post))) (sym front)
    ∙ take-append-add (take have xs) (ys ++ post) n
    ∙ ap (λ l. take have xs ++ l) (take-append-le n ys post m)

pub Consumes-filled : (a b c : Option (List ℕ)) (have n : ℕ) (xs ys post : List ℕ)
    → have ≤ length xs → n ≤ length ys
    → Consumes a b (take have xs) → Consumes b c (take n ys)
    → Consumes a c (take (have + n) (take have xs ++ (ys ++ post)))
Consumes-filled a b c have n xs ys post h m p q =
    subst (λ l. Consumes a c l) (sym (take-refilled have n xs ys post h m))
    (Consumes-trans a b c _ _ p q)

-- the same if nothing more was read
pub Consumes-ended : (a b c : Option (List ℕ)) (have n : ℕ) (xs ys post : List ℕ)
    → have ≤ length xs → n ≡ 0
    → Consumes a b (take have xs) → Consumes b c (take n ys)
    → Consumes a c (take have (take have xs ++ (ys ++ post)))
Consumes-ended a b c have n xs ys post h e p q =
    let none : have + n ≡ have = omega (arith, e) in
    subst (λ k. Consumes a c (take k (take have xs ++ (ys ++ post)))) none
    (Consumes-filled a b c have n xs ys post h (omega (arith, e)) p q)

-- the part after a place is at least as long as a slice from there to the end
pub length-after : (at : ℕ) (bytes : List ℕ)
    → length (take (length bytes - at) (drop at bytes)) ≤ length bytes - at
length-after at bytes = omega (arith, length-take (length bytes - at) (drop at bytes))

pub Appends-sent : (a b c : Option (List ℕ)) (sent n : ℕ) (bytes : List ℕ) → n ≤ length bytes - sent
    → Appends a b (take sent bytes)
    → Appends b c (take n (take (length bytes - sent) (drop sent bytes)))
    → Appends a c (take (sent + n) bytes)
Appends-sent a b c sent n bytes h p q =
    let went = rw (take-take n (length bytes - sent) (drop sent bytes) h) at q in
    subst (λ l. Appends a c l) (sym (take-add sent n bytes)) (Appends-trans a b c _ _ p went)
