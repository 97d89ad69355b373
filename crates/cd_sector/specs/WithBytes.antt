-- Plumbing of `with_bytes_mut`, and nothing about CDs: a closure is called with mutable references
-- to a context and to the bytes of a sector.
use Rattle.std.specs.Prelude.{◌≡◌, List, ℕ}
use Rattle.std.specs.Borrow.{MutBor}
use Rattle.std.specs.Fn.{Once}

-- the arguments of such a closure, and its result with both references after the call
abbrev pub BytesCall : Type 0 → Type 0 → Type 0 → Type 1
BytesCall F C R =
    Once F (MutBor C × (MutBor (List ℕ) × Unit {0})) (R × (MutBor C × (MutBor (List ℕ) × Unit {0})))

-- the closure may be called with this context and these bytes
abbrev pub CanCall : {F C R : Type 0} → BytesCall F C R → F → C → List ℕ → Type 0
CanCall {F} {C} call f context bytes =
    (given : MutBor C) (loan : MutBor (List ℕ)) → given.now ≡ context → loan.now ≡ bytes
    → call.pre f (given, (loan, tt))

-- called with this context and these bytes, the closure may return `result`, and leave the context
-- as `context'` and the bytes as `bytes'`
pub record Calls {F C R : Type 0} (call : BytesCall F C R) (f : F) (context : C) (bytes : List ℕ)
    (result : R) (context' : C) (bytes' : List ℕ) : Type 0 where
  pub given : MutBor C
  pub given_is : given.now ≡ context
  pub loan : MutBor (List ℕ)
  pub loan_is : loan.now ≡ bytes
  pub given_left : MutBor C
  pub loan_left : MutBor (List ℕ)
  pub met : call.post f (given, (loan, tt)) (result, (given_left, (loan_left, tt)))
  pub context_left : given_left.now ≡ context'
  pub bytes_left : loan_left.now ≡ bytes'
