-- How much a file of a source may hold.
use Rattle.std.specs.Prelude.{ℕ}

-- of a message of DHCP or DNS
abbrev pub most_message_bytes : ℕ
most_message_bytes = 65535
