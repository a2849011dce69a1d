use Rattle.sz_dns.proofs.Hosts.{equal_is}
use Rattle.sz_dns.proofs.service.is_same_name.Goals as goal

pub returns : goal.returns
returns c = equal_is _ _ _ c.eq_ignore_ascii_case.ensures.test
