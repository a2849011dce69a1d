use Rattle.std.proofs.Common.{◌+◌, ◌-◌}
use Rattle.std.specs.Option.{option_copied}
use Rattle.sz_dns.specs.Limits.{most_name_bytes, most_pointers}
use Rattle.sz_dns.proofs.Ways.{IsOnWay}
use Rattle.sz_dns.proofs.name.read_name.Given as goal

abbrev pub invariant-parts : goal.invariant-parts
invariant-parts l = IsOnWay l.message l.bytes l.left l.labels l.size l.pointers (option_copied l.after)

abbrev pub decreases-parts : goal.decreases-parts
decreases-parts l = most_name_bytes - l.size + (most_pointers - l.pointers)
