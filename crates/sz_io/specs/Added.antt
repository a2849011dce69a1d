-- The exchanges that a call, or a run of calls, added to those so far, and the answers that they took.
use Rattle.std.specs.Prelude.{◌≡◌, ◌≢◌, ◌⊎◌, ℕ, IsTrue, List, [], ◌∷◌, ◌++◌, length, drop, Option, Some, None}
use Rattle.sz_io.specs.declared.script.Script.{Script}
use Rattle.sz_io.specs.declared.exchange.Exchange.{Exchange}
use Rattle.sz_io.specs.declared.exchange.ExchangeEnd.TheVariants.{Open, Closed}
use Rattle.sz_io.specs.Connection.{IsAtClose}
use Rattle.sz_io.specs.Net.{Standing, Traffic, exchanges, refused_exchange}

-- The exchange in a later form: more bytes may have been sent and received, and an end that came stays.
pub record IsLater (before now : Exchange) : Type 0 where
  pub target : now.target ≡ before.target
  pub sent : (more : List ℕ) × (now.sent ≡ before.sent ++ more)
  pub received : (more : List ℕ) × (now.received ≡ before.received ++ more)
  pub end : before.end ≢ Open → now.end ≡ before.end

-- each of these exchanges in a later form, in order
abbrev pub AreLater : List Exchange → List Exchange → Type 0
AreLater [] now = now ≡ []
AreLater (exchange ∷ before) [] = ⊥
AreLater (exchange ∷ before) (later ∷ now) = IsLater exchange later × AreLater before now

-- What the exchange received is a front of this answer's bytes; where it ended as closed, it is all of them,
-- and the other side closes that answer.
pub record ReceivedFrom (answer : Script) (exchange : Exchange) : Type 0 where
  pub front : (rest : List ℕ) × (answer.bytes ≡ exchange.received ++ rest)
  pub whole : exchange.end ≡ Closed → exchange.received ≡ answer.bytes
  pub closed : exchange.end ≡ Closed → IsTrue answer.closed

-- The exchange took the first of these answers and left the others, or its connect failed and it took none.
abbrev pub TakesFirst : Exchange → List Script → List Script → Type 0
TakesFirst exchange answers others =
    ((answer : Script) × (answers ≡ answer ∷ others) × ReceivedFrom answer exchange)
    ⊎ ((answers ≡ others) × (exchange ≡ refused_exchange exchange.target))

-- each of these exchanges took the next of these answers, or its connect failed; no other answer was taken
abbrev pub CameOf : List Exchange → List Script → Type 0
CameOf [] answers = answers ≡ []
CameOf (exchange ∷ more) answers =
    (others : List Script) × TakesFirst exchange answers others × CameOf more others

-- all that comes on the connection that stands: what was received, and what is still to come
abbrev pub answer_of : Standing → Script
answer_of standing = record {
  bytes = standing.connection.received ++ standing.connection.rest.bytes;
  closed = standing.connection.rest.closed;
}

-- the answers that the connection that stands took: its own, or none where none stands
abbrev pub StandsOn : Option Standing → List Script → Type 0
StandsOn None answers = answers ≡ []
StandsOn (Some standing) answers =
    (answers ≡ answer_of standing ∷ []) × (standing.end ≡ Closed → IsAtClose standing.connection)

-- These exchanges, whose connection stands no more, and then the one that stands took these answers.
pub record Took (gone : List Exchange) (standing : Option Standing) (answers : List Script) : Type 0 where
  pub past : List Script
  pub last : List Script
  pub all : answers ≡ past ++ last
  pub in_order : CameOf gone past
  pub stands : StandsOn standing last

-- Some front of the answers to come was taken. Where a connection stood before, its exchange, which is the
-- first of these, took the answer that it stood on.
pub record TakesAnswers (before now : Traffic) (gone : List Exchange) : Type 0 where
  pub front : List Script
  pub answers : before.to_come ≡ front ++ now.to_come
  pub took : (stood : List Script) → StandsOn before.standing stood → Took gone now.standing (stood ++ front)

-- The exchanges added: they stand behind those of before. Of those, all whose connection stood no more are
-- as they were; the one whose connection stood may have gone on.
pub record Adds (before now : Traffic) (more : List Exchange) : Type 0 where
  pub kept : List Exchange
  pub split : exchanges now ≡ kept ++ more
  pub later : AreLater (exchanges before) kept
  pub past : (gone : List Exchange) × (now.past ≡ before.past ++ gone)
  pub taken : TakesAnswers before now past.0

-- the exchanges behind those of before
abbrev pub added : Traffic → Traffic → List Exchange
added before now = drop (length (exchanges before)) (exchanges now)
