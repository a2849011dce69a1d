-- How many strings the bags hold: those of two messages, of 16 certificates and 8 revocation lists each.
use Rattle.std.specs.Prelude.{ℕ}

abbrev pub most_bag_certs : ℕ
most_bag_certs = 32

abbrev pub most_bag_crls : ℕ
most_bag_crls = 16
