use Rattle.std.proofs.Common.{◌≡◌, map}
use Rattle.sz_dns.specs.declared.service.Candidate.{Candidate}
use Rattle.sz_dns.proofs.service.targets_of.Given as goal

abbrev pub invariant-loop-candidate : goal.invariant-loop-candidate
invariant-loop-candidate l = l.targets ≡ map (λ (candidate : Candidate). candidate.target) l.yielded
