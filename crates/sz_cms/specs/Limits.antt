-- How much a message may hold.
use Rattle.std.specs.Prelude.{ℕ}

abbrev pub most_certs : ℕ
most_certs = 16

abbrev pub most_crls : ℕ
most_crls = 8

abbrev pub most_signers : ℕ
most_signers = 4
