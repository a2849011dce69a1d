use Rattle.sz_base.proofs.HostForms.{bracketed_is_host, plain_is_host}
use Rattle.sz_base.proofs.host.is_host.Goals as goal

pub returns-in-Some : goal.returns-in-Some
returns-in-Some c =
    let same = bracketed_is_host c.args.text.now c.in-Some.inner.now c.in-Some.ensures.some in
    (λ t. same.0 (c.is_ipv6_text.ensures.0 t), λ h. c.is_ipv6_text.ensures.1 (same.1 h))

pub returns-in-None : goal.returns-in-None
returns-in-None c =
    let same = plain_is_host c.args.text.now c.in-None.ensures.none in
    (λ t. same.0 (c.is_name.ensures.0 t), λ h. c.is_name.ensures.1 (same.1 h))
