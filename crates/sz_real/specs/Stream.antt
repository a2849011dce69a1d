-- What goes over the stream of a connection that stands, where the stream tells it.
use Rattle.std.specs.Prelude.{◌≡◌, ℕ, ◌<◌, List, length, take, Option, IfSome, IsSomeAnd}
use Rattle.std.specs.Io.KnownBytes.{Appends, Consumes, IsAtEnd}
use Rattle.sz_real.specs.declared.connection.Connection.{Connection}
use Rattle.sz_real.specs.declared.net.RealNet.{RealNet}
use Rattle.sz_real.specs.declared.listener.RealListener.{RealListener}
use Rattle.sz_real.specs.Known.{GrowsByFront}

-- the connection that stands, if one does
abbrev pub net_connection : {R S L : Type 0} → RealNet R S L → Option (Connection S)
net_connection net = net.connection

abbrev pub listener_connection : {R S L : Type 0} → RealListener R S L → Option (Connection S)
listener_connection listener = listener.connection

-- a connection stood and still stands, and its stream took all these bytes
abbrev pub SentOver : {S : Type 0} → (S → Option (List ℕ)) → Option (Connection S) → Option (Connection S) → List ℕ
    → Type 0
SentOver contents before now bytes =
    IsSomeAnd before (λ old. IsSomeAnd now (λ new. Appends (contents old.stream) (contents new.stream) bytes))

-- a connection that stood still stands, and its stream took some front of these bytes
abbrev pub SentFrontOver : {S : Type 0} → (S → Option (List ℕ)) → Option (Connection S) → Option (Connection S)
    → List ℕ → Type 0
SentFrontOver contents before now bytes =
    IfSome before (λ old. IsSomeAnd now (λ new. GrowsByFront (contents old.stream) (contents new.stream) bytes))

-- A connection stood and still stands, and its stream gave so many bytes, which are in the front of the buffer:
-- none for some room only at its end.
pub record ReceivedFrom {S : Type 0} (remaining : S → Option (List ℕ)) (old new : Connection S) (into : List ℕ)
    (count : ℕ) : Type 0 where
  pub bytes : Consumes (remaining old.stream) (remaining new.stream) (take count into)
  pub end : count ≡ 0 → 0 < length into → IsAtEnd (remaining new.stream)

abbrev pub ReceivedOver : {S : Type 0} → (S → Option (List ℕ)) → Option (Connection S) → Option (Connection S)
    → List ℕ → ℕ → Type 0
ReceivedOver remaining before now into count =
    IsSomeAnd before (λ old. IsSomeAnd now (λ new. ReceivedFrom remaining old new into count))
