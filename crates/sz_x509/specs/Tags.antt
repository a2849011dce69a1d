-- The tags of the parts of a certificate that need not be there (RFC 5280 section 4.1).
use Rattle.std.specs.Prelude.{ℕ}

-- `[1]`, primitive
abbrev pub issuer_unique_id_tag : ℕ
issuer_unique_id_tag = 129

-- `[2]`, primitive
abbrev pub subject_unique_id_tag : ℕ
subject_unique_id_tag = 130

-- `[3]`, constructed
abbrev pub extensions_tag : ℕ
extensions_tag = 163
