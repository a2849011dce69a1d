use Rattle.std.proofs.Common.{ap, ◌∙◌}
use Rattle.sz_der.specs.Spots.{content_at}
use Rattle.sz_der.specs.Tags.{sequence_tag}
use Rattle.sz_x509.specs.CertFault.{identifier_at}
use Rattle.sz_x509.specs.declared.fault.CertKind.TheVariants as kinds
use Rattle.sz_x509.proofs.Walking.{shorter_after}
use Rattle.sz_x509.proofs.extensions.take_identifier.Goals as goal

pub returns-clause-identifier : goal.returns-clause-identifier
unfolding identifier_at
returns-clause-identifier c = c.in_ok-identifier.ensures.item.content ∙ ap content_at c.in_ok-parts.ensures.inside

pub returns-clause-shorter : goal.returns-clause-shorter
returns-clause-shorter c =
    shorter_after kinds.Der sequence_tag c.args.reader.now c.open_part.new.reader c.in_ok-parts.ensures.ok c.in_ok-parts.ensures.next
