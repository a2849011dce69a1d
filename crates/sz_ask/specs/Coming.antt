-- A reply on the way: what has come of it by its bytes so far.
use Rattle.std.specs.Prelude.{◌≡◌, Bool, true, false, ℕ, List, [], ◌++◌, length}
use Rattle.sz_http.specs.Parts.{Parts}
use Rattle.sz_http.specs.declared.side.Side.TheVariants as side
use Rattle.sz_http.specs.Reading.{Takes}
use Rattle.sz_http.specs.Verdict.{done_with, Verdict}
use Rattle.sz_ask.specs.Limits.{most_reply_bytes}
use Rattle.sz_ask.specs.declared.incoming.Incoming.{Incoming}

-- the reading has taken these bytes, which aren't the whole reply, and what there is of the body was kept
abbrev pub IsComing : Incoming → List ℕ → Type 0
IsComing incoming bytes = Takes incoming.reading side.Reply most_reply_bytes bytes false incoming.body

-- a front of the bytes is the whole reply, and its body was kept
pub record HasCome (incoming : Incoming) (bytes : List ℕ) (closed : Bool) : Type 0 where
  pub reply : List ℕ
  pub more : List ℕ
  pub bytes_are : bytes ≡ reply ++ more
  pub taken : Takes incoming.reading side.Reply most_reply_bytes reply closed incoming.body
  pub head : Parts
  pub verdict : Verdict side.Reply most_reply_bytes reply closed (done_with head incoming.body (length reply))
  pub all : closed ≡ true → more ≡ []

-- whether the reply is whole after these bytes
abbrev pub Comes : Bool → Incoming → List ℕ → Type 0
Comes true incoming bytes = HasCome incoming bytes false
Comes false incoming bytes = IsComing incoming bytes
