-- The numbers of DHCPv6 messages.
use Rattle.std.specs.Prelude.{ℕ}

-- the option of bootstrap servers (RFC 8572 section 8.2)
abbrev pub redirect_code6 : ℕ
redirect_code6 = 136

-- the type of the message and its transaction, before the options (RFC 8415 section 8)
abbrev pub header_bytes : ℕ
header_bytes = 4
