-- The root of a message is that of its digest.
use Rattle.std.proofs.Common.{◌≡◌, ℕ, zero, suc, ◌+◌, ◌*◌, List, [], ◌∷◌, take, drop, Some, refl, ◌∙◌, ap, arith}
use Rattle.std.specs.Str.{bytes_eq}
use Rattle.std.proofs.lemmas.List.{take-take, drop-take}
use Rattle.sz_lms.specs.Bits.{values_of}
use Rattle.sz_lms.specs.Rules.{TreeType, Root, first_failing, root_from, root_of_digest, root_rules, signed_digest, tree_type}
use Rattle.sz_lms.proofs.RuleLists.{known}

pub root-from_digest : (key : List ℕ) (type : TreeType) (message bytes : List ℕ) →
    root_from key type message bytes ≡ root_of_digest key type (signed_digest key bytes message) bytes
unfolding root_from
root-from_digest key type message bytes = refl

-- the rule on the root is a test of the digest
pub root-rule : (key : List ℕ) (type : TreeType) (message bytes digest : List ℕ) → tree_type key ≡ Some type →
    digest ≡ signed_digest key bytes message →
    first_failing (root_rules key message bytes)
    ≡ first_failing ((bytes_eq (root_of_digest key type digest bytes) (drop 24 key), Root) ∷ [])
root-rule key type message bytes digest e d =
    ap first_failing (known (tree_type key) type _ e) ∙ rw (root-from_digest key type message bytes, d) refl

-- n values are those of their own bytes
pub values-own : (n : ℕ) (bytes : List ℕ) → values_of n (take (32 * n) bytes) ≡ values_of n bytes
unfolding values_of
values-own zero bytes = refl
values-own (suc n) bytes =
    let more : 32 * suc n ≡ 32 + 32 * n = omega arith in
    rw (more, take-take 32 (32 + 32 * n) bytes (omega arith), drop-take 32 (32 * n) bytes)
    (ap (λ rest. take 32 bytes ∷ rest) (values-own n (drop 32 bytes)))
