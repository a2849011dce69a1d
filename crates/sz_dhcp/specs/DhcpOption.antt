-- An option of a DHCP message.
use Rattle.std.specs.Prelude.{ℕ, List}

-- its code and its value
pub record DhcpOption : Type 0 where
  pub code : ℕ
  pub value : List ℕ
