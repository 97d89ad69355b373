-- The imports of both walks, and the cell of a local that is read as a different type with the same
-- fields.
pub use Rattle.std.proofs.Common.{[], ◌∷◌, refl}
pub use Rattle.std.proofs.raw_atomic.Walks.{proved}
pub use base.Fml.{ftrue}
pub use contract.Running.{tables}
pub use types.Kit.{‵, raw, at_ret, ◌$◌, ◌∵◌, !, qed, done, drop, join, suffices}
pub use types.Run.{enter, of_opd, addr, from, load, look_raw, stop, first, blocks, exec, returns}
pub use types.ByLocal.{alloc_all, pass_all, free_all, look_at, get, through, sets, sets_last}
pub use types.ByLocal.{take_at, give_at, env}
pub use denote.Exit.{yes}
pub use denote.Signature.{plain}
pub use denote.Steps.{nothing, owned}
pub use denote.Struct.Laws.{makes}
pub use denote.Triple.Entry.{on_entry}
pub use denote.Triple.Walked.{Stays, walk_of, says, stay_dropped, Goes-dropped, ends_at}
use seplogic.Ra.Ura.{Ura}
use base.Fraction.{full_share}
use base.Fml.{fat}
use mir.Raw.{raw as raw_type}
use mir.Syntax.{Ty}
use mir.Val.{Val}
use types.Logic.{Logic}
use types.Kit.{Item, Goal, Step, use1}
use Prim.Native.Nat.{ℕ}
use mathlib.Core.List.{List}

module _ {M : Type 1} {𝓤 : Ura M} (𝓛 : Logic 𝓤) {K : Type 0} where
  module _ {Γ : List (Item 𝓤)} {G : Goal 𝓤 𝓛.H} (τ : Ty) (b : ℕ) (v : Val) where
    -- the cell of a local, without the names of its types
    pub unnamed : Step K 𝓛 (‵ (fat full_share (raw_type τ) b 0 v) ∷ Γ) G
        (‵ (fat full_share τ b 0 v) ∷ Γ) G
    unnamed = use1 𝓛 (‵ (fat full_share (raw_type τ) b 0 v)) (𝓛.laws.at_raw full_share τ b 0 v)

    -- the same, with these names again
    pub named_again : Step K 𝓛 (‵ (fat full_share τ b 0 v) ∷ Γ) G
        (‵ (fat full_share (raw_type τ) b 0 v) ∷ Γ) G
    named_again = use1 𝓛 (‵ (fat full_share τ b 0 v)) (𝓛.laws.raw_at full_share τ b 0 v)
