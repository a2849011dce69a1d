use Rattle.std.proofs.Common.{ap, ◌∙◌}
use Rattle.std.proofs.lemmas.Result.{MatchResult-weaker}
use Rattle.sz_der.specs.Spots.{content_at}
use Rattle.sz_der.specs.Tags.{sequence_tag}
use Rattle.sz_x509.specs.declared.fault.CertKind.TheVariants as kinds
use Rattle.sz_x509.proofs.Walking.{shorter_after}
use Rattle.sz_x509.proofs.entries.take_serial.Goals as goal

pub returns-clause-serial : goal.returns-clause-serial
returns-clause-serial c =
    MatchResult-weaker c.take_integer.result c.take_integer.ensures.octets (λ x h. h ∙ ap content_at c.in_ok-parts.ensures.inside) (λ x h. h)

pub returns-clause-next : goal.returns-clause-next
returns-clause-next c = MatchResult-weaker c.take_integer.result c.take_integer.ensures.ok (λ x h. c.in_ok-parts.ensures.next) (λ x h. h)

pub returns-clause-shorter : goal.returns-clause-shorter
returns-clause-shorter c =
    let less = shorter_after kinds.Der sequence_tag c.args.reader.now c.open_part.new.reader c.in_ok-parts.ensures.ok c.in_ok-parts.ensures.next in
    MatchResult-weaker c.take_integer.result c.take_integer.ensures.ok (λ x h. less) (λ x h. h)

pub returns-clause-err : goal.returns-clause-err
returns-clause-err c =
    MatchResult-weaker c.take_integer.result c.take_integer.ensures.fault (λ x h. h)
    (λ x fault begins. absurd (cc (fault, begins.number, c.in_ok-parts.ensures.inside)))
