-- Targets as texts: a host, a colon and a port.
use Rattle.std.specs.Prelude.{◌≡◌, ℕ, ◌≤◌, List, ◌∷◌, ◌++◌}
use Rattle.std.specs.Fmt.{decimal}
use Rattle.sz_base.specs.Host.{IsHost}
use Rattle.sz_base.specs.Number.{IsDecimal}
use Rattle.sz_base.specs.declared.target.Target.{Target}

-- the text is the port in decimal, from 1 to 65535
pub record IsPort (text : List ℕ) (port : ℕ) : Type 0 where
  pub decimal : IsDecimal text port
  pub low : 1 ≤ port
  pub high : port ≤ 65535

-- The text is the target: the host before the last colon, and the port after it. It is the last one,
-- since a port has digits alone.
pub record IsTarget (target : Target) (text : List ℕ) : Type 0 where
  pub digits : List ℕ
  pub split : text ≡ target.host ++ 58 ∷ digits
  pub host : IsHost target.host
  pub port : IsPort digits target.port

-- the one text of a target
abbrev pub target_text : Target → List ℕ
target_text target = target.host ++ 58 ∷ decimal target.port
