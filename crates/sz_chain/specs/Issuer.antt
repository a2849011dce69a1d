-- What issues certificates and revocation lists: a name and a key, and what the key may be used for (RFC 5280).
use Rattle.std.specs.Prelude.{◌≡◌, ℕ, ⊤, List, Option, Some, None}
use Rattle.std.specs.Int.{bit_at}
use Rattle.sz_x509.specs.Certificate.{Certificate}

-- the key may be used for what this bit of keyUsage says: the bit is set, or keyUsage isn't there (4.2.1.3)
abbrev pub MayUse : ℕ → Option ℕ → Type 0
MayUse bit None = ⊤
MayUse bit (Some usage) = bit_at usage bit ≡ 1

-- the bits of keyUsage that are asked here (4.2.1.3): digitalSignature for messages, keyCertSign for certificates, and
-- cRLSign for revocation lists
abbrev pub digital_signature : ℕ
digital_signature = 0

abbrev pub key_cert_sign : ℕ
key_cert_sign = 5

abbrev pub crl_sign : ℕ
crl_sign = 6

-- a name, a key, and what the key is restricted to
pub record Issuer : Type 0 where
  pub name : List ℕ
  pub key : List ℕ
  pub usage : Option ℕ

-- what a certificate says of its subject
abbrev pub issuer_of : Certificate → Issuer
issuer_of cert = record { name = cert.subject; key = cert.key; usage = cert.restrictions.usage }

-- a trust anchor gives a name and a key alone (6.1.1)
abbrev pub anchor_of : Certificate → Issuer
anchor_of cert = record { name = cert.subject; key = cert.key; usage = None }
