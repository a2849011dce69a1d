-- One exchange with a server: what a device asks, what it hears, and how the exchange ends.
use Rattle.std.specs.Prelude.{◌≡◌, ℕ, ◌≤◌, Bool, true, false, List, [], ◌∷◌, ◌++◌, length, None, Some}
use Rattle.sz_base.specs.declared.target.Target.{Target}
use Rattle.sz_io.specs.Added.{Adds}
use Rattle.sz_io.specs.Net.{exchange_of, left_behind, Standing, Traffic}
use Rattle.sz_io.specs.declared.exchange.Exchange.{Exchange}
use Rattle.sz_io.specs.declared.exchange.ExchangeEnd.{ExchangeEnd}
use Rattle.sz_io.specs.declared.exchange.ExchangeEnd.TheVariants.{Closed, Left, Lost}

-- ---- one exchange

-- the end of an exchange that is not lost: the server closed it, or the device left it
abbrev pub end_of : Bool → ExchangeEnd
end_of true = Closed
end_of false = Left

-- the exchange is lost, and some front of the request was sent
pub record Loses (target : Target) (request : List ℕ) (exchange : Exchange) : Type 0 where
  pub target_is : exchange.target ≡ target
  pub sent : (left : List ℕ) × (request ≡ exchange.sent ++ left)
  pub lost : exchange.end ≡ Lost

-- the whole request was sent, and what was received, behind which the server closed or not, tells this
pub record Hears (target : Target) (request : List ℕ) (Tells : List ℕ → Bool → Type 0) (exchange : Exchange)
    : Type 0 where
  pub target_is : exchange.target ≡ target
  pub sent : exchange.sent ≡ request
  pub closed : Bool
  pub end_is : exchange.end ≡ end_of closed
  pub tells : Tells exchange.received closed

-- ---- what it adds to the traffic

-- this exchange was added, and no connection stands
pub record Adds1 (before now : Traffic) (exchange : Exchange) : Type 0 where
  pub adds : Adds before now (exchange ∷ [])
  pub idle : now.standing ≡ None

-- one exchange was added, and it is so
abbrev pub AddsOne : (Exchange → Type 0) → Traffic → Traffic → Type 0
AddsOne Is before now = (exchange : Exchange) × Adds1 before now exchange × Is exchange

-- at most one exchange was added
abbrev pub MayAdd : Traffic → Traffic → Type 0
MayAdd before now = (more : List Exchange) × Adds before now more × (length more ≤ 1)

-- ---- on the way

-- a connection to the target stands, its exchange was added, and so much was sent and received
pub record IsAsking (target : Target) (sent received : List ℕ) (end : ExchangeEnd) (before now : Traffic)
    : Type 0 where
  pub standing : Standing
  pub stands : now.standing ≡ Some standing
  pub past : now.past ≡ left_behind before
  pub adds : Adds before now (exchange_of standing ∷ [])
  pub target_is : standing.target ≡ target
  pub sent_is : standing.connection.sent ≡ sent
  pub received_is : standing.connection.received ≡ received
  pub end_is : standing.end ≡ end
