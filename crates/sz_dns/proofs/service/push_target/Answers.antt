use Rattle.std.proofs.Common.{◌≡◌, ◌∙◌, sym, refl, true}
use Rattle.sz_base.specs.Host.{IsHost}
use Rattle.sz_dns.specs.Service.{dotted, is_host}
use Rattle.sz_dns.proofs.Hosts.{host_text_is}
use Rattle.sz_dns.proofs.service.push_target.Goals as goal

pub returns-in-Err-Form : goal.returns-in-Err-Form
returns-in-Err-Form c =
    let at = rw (c.as_slice.ensures, c.as_slice-else-service-eq0.ensures, c.in_ok-text.ensures) at c.is_host.ensures in
    let host : is_host c.args.service.target ≡ true = sym at ∙ c.if-not-is_host.false in
    let text : IsHost (dotted c.args.service.target) = host_text_is c.args.service.target host c.requires in
    let refused = rw c.in-Err-Form.field-0-is at c.in-Err-Form.ensures.reads.refused in
    absurd (refused.0 refl (rw (c.as_slice-2.ensures, c.in_ok-text.ensures) text))
