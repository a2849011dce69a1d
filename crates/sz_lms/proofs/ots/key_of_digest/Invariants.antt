use Rattle.std.proofs.Common.{◌≡◌, ℕ, ◌-◌, ◌*◌, List, ◌++◌, drop}
use Rattle.std.specs.Int.{w16, w32, to_be_bytes}
use Rattle.std.specs.List.{concat}
use Rattle.sha2.specs.Hashers.{Holds256}
use Rattle.sz_lms.specs.Bits.{values_of}
use Rattle.sz_lms.specs.Ots.{D_PBLC, chain_ends}
use Rattle.sz_lms.specs.View.{facts_of}
use Rattle.sz_lms.proofs.ots.key_of_digest.Given as goal

-- the hasher holds the ends so far, and with those of the chains to come they are all ends
abbrev pub invariant-loop-i : goal.invariant-loop-i
invariant-loop-i l =
    let type = facts_of l.kind in
    (ends : List ℕ)
    × Holds256 l.hasher (l.id ++ to_be_bytes w32 l.q ++ to_be_bytes w16 D_PBLC ++ ends)
    × (ends ++ concat (chain_ends l.id l.q type.width l.signed l.i (values_of (type.chains - l.i) (drop (32 * l.i) l.values)))
    ≡ concat (chain_ends l.id l.q type.width l.signed 0 (values_of type.chains l.values)))
