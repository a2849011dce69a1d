-- HSS signatures of one to eight levels of trees (RFC 8554 section 6).
use Rattle.std.specs.Prelude.{◌≡◌, ℕ, zero, suc, ◌+◌, ◌-◌, ◌*◌, ◌<◌, List, ◌++◌}
use Rattle.std.specs.Int.{w32, to_be_bytes}
use Rattle.sz_lms.specs.Lms.{LmsOk, lms_public_length}

-- Below this key stand n more levels: the bytes are a signature of the next level's key, that key, and its
-- levels, down to a signature of the message.
unfoldable pub LevelsOk : ℕ → List ℕ → List ℕ → List ℕ → Type 0
LevelsOk zero key message bytes = LmsOk key message bytes
LevelsOk (suc n) key message bytes =
    (signature next rest : List ℕ) × (bytes ≡ signature ++ next ++ rest)
    × LmsOk key next signature × LevelsOk n next message rest

abbrev pub most_levels : ℕ
most_levels = 8

abbrev pub hss_public_length : ℕ
hss_public_length = 60

-- the most bytes that an LMS signature has: the leaf's number, a one-time signature of 265 chains, the tree's type and
-- a path of 25 nodes (sections 4.1 and 5.1)
abbrev pub longest_lms_signature : ℕ
longest_lms_signature = 4 + (4 + 32 + 32 * 265) + 4 + 32 * 25

-- the most bytes that a signature has: the number of levels, an LMS signature a level, and the keys between them
abbrev pub longest_signature : ℕ
longest_signature = 4 + most_levels * longest_lms_signature + (most_levels - 1) * lms_public_length

-- The signature is one of the message under the public key (section 6.3): the key is the number of levels and
-- the top level's key, and the signature is the number of levels below the top and those levels.
pub record HssOk (public message signature : List ℕ) : Type 0 where
  pub below : ℕ
  pub few : below < most_levels
  pub key : List ℕ
  pub levels : List ℕ
  pub public_is : public ≡ to_be_bytes w32 (suc below) ++ key
  pub signature_is : signature ≡ to_be_bytes w32 below ++ levels
  pub each : LevelsOk below key message levels
