use Rattle.std.proofs.Common.{[], ◌∷◌}
use Rattle.sz_record.specs.Spelling.{committed_bytes, evidence_bytes, handling_number, long_bytes, moment_bytes, new_version, optional_bytes}
use Rattle.sz_record.proofs.Totals.{total_is}
use Rattle.sz_record.proofs.sizes.committed_size.Goals as goal

pub returns : goal.returns
unfolding committed_bytes
returns c = λ handling.
    total_is _ (
    c.moment_size.result
    ∷ c.evidence_size.result
    ∷ 1
    ∷ c.optional_long_size.result
    ∷ c.optional_long_size-2.result
    ∷ c.optional_long_size-3.result
    ∷ []) (
    moment_bytes new_version c.args.when.now
    ∷ evidence_bytes c.args.evidence.now
    ∷ (handling_number handling ∷ [])
    ∷ optional_bytes long_bytes c.args.pre.now
    ∷ optional_bytes long_bytes c.args.configuration.now
    ∷ optional_bytes long_bytes c.args.post.now
    ∷ []) c.total.ensures (cc)
