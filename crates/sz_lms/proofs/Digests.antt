-- The length of a digest.
use Rattle.std.proofs.Common.{◌≡◌, ℕ, List, length, refl}
use Rattle.sha2.specs.Sha256.{sha256, digest_bytes}

pub length-sha256 : (bytes : List ℕ) → length (sha256 bytes) ≡ 32
unfolding sha256 digest_bytes
length-sha256 bytes = refl
