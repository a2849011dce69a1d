-- A room, where an image is put piece by piece: what contracts see of it, and what its calls do to that.
use Rattle.std.specs.Prelude.{◌≡◌, ℕ, ◌+◌, ◌≤◌, ◌<◌, ◌^◌, List, [], ◌++◌, length, Option, Some}
use Rattle.std.specs.Option.{option_map}

-- What contracts see of a room.
pub record Held : Type 0 where
  -- how many bytes it has place for
  pub space : ℕ
  -- how many were put since the last restart
  pub used : ℕ
  -- those bytes, where the room tells them
  pub bytes : Option (List ℕ)
  -- how often a call has failed
  pub faults : ℕ

-- what every room keeps
pub record IsSound (room : Held) : Type 0 where
  pub word : room.space < 2 ^ 64
  pub within : room.used ≤ room.space
  pub counted : (bytes : List ℕ) → room.bytes ≡ Some bytes → length bytes ≡ room.used

-- it holds nothing; whether it tells its bytes never changes
pub record IsRestarted (old new : Held) : Type 0 where
  pub space : new.space ≡ old.space
  pub used : new.used ≡ 0
  pub bytes : new.bytes ≡ option_map (λ held. []) old.bytes
  pub faults : new.faults ≡ old.faults

-- these bytes were put behind what it held
pub record HasPut (given : List ℕ) (old new : Held) : Type 0 where
  pub space : new.space ≡ old.space
  pub used : new.used ≡ old.used + length given
  pub bytes : new.bytes ≡ option_map (λ held. held ++ given) old.bytes

-- it holds what it held
pub record HoldsSame (old new : Held) : Type 0 where
  pub space : new.space ≡ old.space
  pub used : new.used ≡ old.used
  pub bytes : new.bytes ≡ old.bytes
