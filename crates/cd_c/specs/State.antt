-- The state of a digest, and the bytes that were added to it.
use Rattle.std.specs.Prelude.{ℕ, List}
use Rattle.sha1.specs.declared.Sha1.{Sha1}
use Rattle.sha1.specs.Sha1.{Holds}
use Rattle.cd_c.specs.declared.state.DigestState.{DigestState}

-- the hasher with this state
abbrev pub hasher_of : DigestState → Sha1
hasher_of state = record { h = state.hash; buffer = state.block; total = state.count }

-- these bytes were added to the state, in their order
abbrev pub HasHashed : DigestState → List ℕ → Type 0
HasHashed state bytes = Holds (hasher_of state) bytes
