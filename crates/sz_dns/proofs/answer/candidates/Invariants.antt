use Rattle.std.proofs.Common.{◌-◌, ◌≤◌, length}
use Rattle.sz_dns.specs.Answer.{AreRecords}
use Rattle.sz_dns.specs.Service.{service_name}
use Rattle.sz_dns.proofs.answer.candidates.Given as goal

abbrev pub invariant-records : goal.invariant-records
invariant-records l = record {
  counted : l.read ≤ l.count;
  records : AreRecords l.message (service_name l.fn.domain) l.read l.body l.candidates l.left;
  within : length l.left ≤ length l.message;
}

abbrev pub decreases-records : goal.decreases-records
decreases-records l = l.count - l.read
