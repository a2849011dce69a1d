use Rattle.std.proofs.Common.{[], ◌∷◌}
use Rattle.sz_record.specs.Spelling.{evidence_bytes, long_bytes, optional_bytes}
use Rattle.sz_record.proofs.Totals.{total_is}
use Rattle.sz_record.proofs.sizes.evidence_size.Goals as goal

pub returns : goal.returns
unfolding evidence_bytes
returns c =
    total_is _ (
    c.long_size.result
    ∷ c.optional_long_size.result
    ∷ c.optional_long_size-2.result
    ∷ []) (
    long_bytes c.args.evidence.now.ci
    ∷ optional_bytes long_bytes c.args.evidence.now.oc
    ∷ optional_bytes long_bytes c.args.evidence.now.ov
    ∷ []) c.total.ensures (cc)
