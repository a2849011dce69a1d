-- A check of a signature that takes the message in pieces.
use Rattle.std.specs.Prelude.{◌≡◌, ℕ, List, ◌++◌}
use Rattle.sha2.specs.Hashers.{Holds256}
use Rattle.sz_lms.specs.Parts.{signed_head}
use Rattle.sz_lms.specs.Rules.{first_failing, hss_first, root_rules}
use Rattle.sz_lms.specs.declared.check.HssCheck.{HssCheck}

-- The check is one of this signature under this key, and was given this much of the message: whatever the
-- message is, the rule on the last level's root is all that is left, and the hasher holds the message so far
-- behind what is hashed before it.
pub record Checks (check : HssCheck) (public signature message : List ℕ) : Type 0 where
  pub left : (whole : List ℕ)
      → hss_first public whole signature ≡ first_failing (root_rules check.last.key.now whole check.last.bytes.now)
  pub holds : Holds256 check.hasher (signed_head check.last.key.now check.last.bytes.now ++ message)
