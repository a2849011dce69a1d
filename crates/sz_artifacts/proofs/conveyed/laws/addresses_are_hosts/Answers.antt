use Rattle.sz_artifacts.proofs.Addresses.{host_of-host, host_of-ipv6_text, IsAddress-host_of}
use Rattle.sz_artifacts.proofs.conveyed.laws.addresses_are_hosts.Goals as goal

pub returns-clause-host : goal.returns-clause-host
returns-clause-host c = host_of-host

pub returns-clause-ipv6 : goal.returns-clause-ipv6
returns-clause-ipv6 c = host_of-ipv6_text

pub returns-clause-no_other : goal.returns-clause-no_other
returns-clause-no_other c = IsAddress-host_of
