-- How much a reply may hold.
use Rattle.std.specs.Prelude.{ℕ}

-- of the body: 6 MiB
abbrev pub most_reply_bytes : ℕ
most_reply_bytes = 6291456
