-- What was received on a connection is a front of all that comes on it.
use Rattle.std.proofs.Common.{◌≡◌, ℕ, List, ◌++◌, take, drop, ap, ◌∙◌, append_assoc}
use Rattle.std.proofs.lemmas.List.{take-append-drop}
use Rattle.sz_io.specs.Connection.{Connection, with_received}

-- all that comes on a connection: what was received, and what is still to come
abbrev pub all_bytes : Connection → List ℕ
all_bytes connection = connection.received ++ connection.rest.bytes

-- no receive changes it
pub all_bytes-with_received : (count : ℕ) (connection : Connection) → all_bytes (with_received count connection) ≡ all_bytes connection
all_bytes-with_received count connection =
    append_assoc connection.received (take count connection.rest.bytes) (drop count connection.rest.bytes)
    ∙ ap (λ rest. connection.received ++ rest) (take-append-drop count connection.rest.bytes)
