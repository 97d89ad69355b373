-- The bytes that a buffer holds between two places.
use Rattle.std.proofs.Common.{◌≡◌, ℕ, ◌+◌, ◌-◌, ◌≤◌, List, ◌++◌, length, take, drop, Option, [], Result, Ok, Err, append-nil, refl, sym, subst, ap, ◌∙◌, arith, append_assoc}
use Rattle.std.proofs.Math.ListN.{length-drop}
use Rattle.std.proofs.Math.Seq.{take-append-add}
use Rattle.std.proofs.lemmas.List.{drop-drop, drop-take, length-take-le, take-append-drop, take-append-le, take_all}
use lib.Seq.{drop-append-le}
use Rattle.std.specs.Io.KnownBytes.{Appends, Keeps, append_known}
use Rattle.std.proofs.KnownBytes.{append_known-kept, append_known-moved, append_known-passed, Keeps-trans}
use Rattle.std.proofs.lemmas.Bool.{lt-leb}
use Rattle.std.specs.Prelude.{◌<◌, if◌then◌else◌, nat_le, IfOk}
use Rattle.cd_stream.specs.Stream.{Outgoing}
use Rattle.cd_stream.specs.Transfer.{PutSome}

-- the bytes held from one place to another
abbrev pub between : ℕ → ℕ → List ℕ → List ℕ
between start end space = take (end - start) (drop start space)

-- bytes written after the held bytes are held too
pub held-longer : (start end : ℕ) (space bytes : List ℕ) → start ≤ end
    → end + length bytes ≤ length space
    → between start (end + length bytes)
    (take end space ++ (bytes ++ drop (end + length bytes) space))
    ≡ between start end space ++ bytes
held-longer start end space bytes ordered room =
    let rest = bytes ++ drop (end + length bytes) space in
    let front : length (take end space) ≡ end = length-take-le end space (omega arith) in
    let cut : drop start (take end space) ≡ between start end space =
    ap (λ k. drop start (take k space)) (omega arith) ∙ drop-take start (end - start) space in
    let size : length (between start end space) ≡ end - start =
    length-take-le (end - start) (drop start space) (omega (arith, length-drop start space)) in
    ap (take (end + length bytes - start))
    (drop-append-le start (take end space) rest (omega (arith, front)) ∙ ap (λ l. l ++ rest) cut)
    ∙ ap (λ k. take k (between start end space ++ rest)) (omega (arith, size))
    ∙ take-append-add (between start end space) rest (length bytes)
    ∙ ap (λ l. between start end space ++ l)
    (take-append-le (length bytes) bytes (drop (end + length bytes) space) (omega arith)
    ∙ take_all (length bytes) bytes (omega arith))

-- the same for the buffer after a write through a slice of it
pub held-put : (start end : ℕ) (space lent new items bytes : List ℕ) → start ≤ end
    → end + length bytes ≤ length space → lent ≡ space
    → new ≡ take end lent ++ bytes ++ drop (end + length bytes) lent → items ≡ new
    → between start (end + length bytes) items ≡ between start end space ++ bytes
held-put start end space lent new items bytes ordered room whole put same =
    let written : items ≡ take end space ++ (bytes ++ drop (end + length bytes) space) =
    same ∙ put ∙ ap (λ l. take end l ++ bytes ++ drop (end + length bytes) l) whole
    ∙ append_assoc (take end space) bytes (drop (end + length bytes) space) in
    ap (between start (end + length bytes)) written ∙ held-longer start end space bytes ordered room

-- the held bytes are the first n of them, and then those held from n places on
held-cut : (start end n : ℕ) (space : List ℕ) → n ≤ end - start
    → between start end space ≡ take n (between start end space) ++ between (start + n) end space
held-cut start end n space few =
    let rest : drop n (between start end space) ≡ between (start + n) end space =
    ap (λ k. drop n (take k (drop start space))) (omega arith)
    ∙ drop-take n (end - (start + n)) (drop start space)
    ∙ ap (take (end - (start + n))) (drop-drop n start space) in
    sym (take-append-drop n (between start end space))
    ∙ ap (λ l. take n (between start end space) ++ l) rest

-- bytes that the inner sink accepted are no longer held
pub Keeps-passed : (before got got' : Option (List ℕ)) (start end n : ℕ) (space lent : List ℕ)
    → n ≤ end - start → lent ≡ between start end space
    → Keeps before (append_known got (between start end space)) → Appends got got' (take n lent)
    → Keeps before (append_known got' (between (start + n) end space))
Keeps-passed before got got' start end n space lent few same kept went =
    let passed = append_known-moved got got' (take n lent) (between (start + n) end space)
    (between start end space) went
    (held-cut start end n space few
    ∙ ap (λ l. take n l ++ between (start + n) end space) (sym same)) in
    Keeps-trans before _ _ kept passed

-- a buffer whose two places are its front holds nothing
pub between-none : (start end : ℕ) (space : List ℕ) → start ≡ 0 → end ≡ 0
    → between start end space ≡ []
between-none start end space s e =
    let none : end - start ≡ 0 = omega (arith, s, e) in
    ap (λ k. take k (drop start space)) none

-- a write past a buffer that holds nothing is a write of the inner sink
pub PutSome-past : {E : Type 0} (before after old new : Outgoing) (held given : List ℕ)
    (result : Result ℕ E) → held ≡ []
    → after.written ≡ append_known new.written held
    → Keeps before.written (append_known old.written held) → PutSome old new given result
    → PutSome before after given result
PutSome-past before after old new held given (Ok n) none same kept went =
    let passed = append_known-passed before.written old.written new.written held held (take n given)
    [] kept none went.2 (sym (append-nil held)) in (
      went.0,
      went.1,
      subst (λ w. Appends before.written w (take n given)) (sym same)
          (subst (Appends before.written (append_known new.written held))
          (append-nil (take n given)) passed),
    )
PutSome-past before after old new held given (Err e) none same kept went =
    subst (Keeps before.written) (sym same)
    (Keeps-trans before.written _ _ kept (append_known-kept old.written new.written held went))

-- bytes that are more than the space are not held
pub held_only-past : (space : ℕ) (bytes : List ℕ) → space < length bytes
    → (if nat_le (length bytes) space then bytes else []) ≡ []
held_only-past space bytes more = rw (lt-leb (length bytes) space more) refl

-- a fact that is true in any case is true at Ok
pub IfOk-any : {X E : Type 0} (r : Result X E) (P : Type 0) → P → IfOk r (λ _. P)
IfOk-any (Ok x) P p = p
IfOk-any (Err e) P p = tt
