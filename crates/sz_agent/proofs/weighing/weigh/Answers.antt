use Rattle.std.proofs.Common.{None, Some, Ok, Err, refl}
use Rattle.sz_offer.specs.Trial.{looker_of, MakesOver, network_of}
use Rattle.sz_agent.specs.Choice.{Weighs}
use Rattle.sz_agent.specs.declared.choice.Choice.TheVariants as choice
use Rattle.sz_agent.proofs.Trying.{disk_adds, memory_adds, refused_lost}
use Rattle.sz_agent.proofs.Turning.{told_weaker}
use Rattle.sz_agent.proofs.weighing.weigh.Goals as goal

pub try_offer-trial-requires-clause-open : goal.try_offer-trial-requires-clause-open
try_offer-trial-requires-clause-open g c = record {
  found = c.requires.open.found;
  uncommitted = c.requires.open.uncommitted;
  short = c.authorised_names_are_short.ensures c.args.held.now.device.identity c.args.when c.args.offer.evidence
      c.args.offer.onboarding c.requires.authorised;
}

pub returns-in-Satisfied-clause-weighs : goal.returns-in-Satisfied-clause-weighs
returns-in-Satisfied-clause-weighs g c =
    let looker = looker_of (g.D.Disk.seen c.args.disk.now) c.args.held.now c.args.when in
    told_weaker (MakesOver looker c.args.offer.onboarding c.args.offer.evidence None)
    (Weighs looker c.args.offer (Ok (choice.Commits c.args.offer))) (λ x y makes. (refl, makes))
    (g.N.Net.traffic c.args.net.now) (g.N.Net.traffic c.try_offer-trial.new.net) (c.in-Satisfied.ensures.makes None refl)

pub returns-in-Staged-clause-weighs : goal.returns-in-Staged-clause-weighs
returns-in-Staged-clause-weighs g c =
    let looker = looker_of (g.D.Disk.seen c.args.disk.now) c.args.held.now c.args.when in
    told_weaker (MakesOver looker c.args.offer.onboarding c.args.offer.evidence None)
    (Weighs looker c.args.offer (Ok (choice.Installs c.in-Staged.staged c.args.offer))) (λ x y makes. (refl, makes))
    (g.N.Net.traffic c.args.net.now) (g.N.Net.traffic c.try_offer-trial.new.net) (c.in-Staged.ensures.makes None refl)

pub returns-in-Refused-clause-weighs : goal.returns-in-Refused-clause-weighs
returns-in-Refused-clause-weighs g c =
    let looker = looker_of (g.D.Disk.seen c.args.disk.now) c.args.held.now c.args.when in
    told_weaker (MakesOver looker c.args.offer.onboarding c.args.offer.evidence (Some c.in-Refused.reason))
    (Weighs looker c.args.offer (Err c.in-Refused.reason)) (λ x y makes. makes) (g.N.Net.traffic c.args.net.now)
    (g.N.Net.traffic c.try_offer-trial.new.net)
    (c.in-Refused.ensures.makes (Some c.in-Refused.reason) refl)

pub returns-in-Refused-clause-lost : goal.returns-in-Refused-clause-lost
returns-in-Refused-clause-lost g c =
    refused_lost (looker_of (g.D.Disk.seen c.args.disk.now) c.args.held.now c.args.when) c.args.offer.onboarding
    c.args.offer.evidence (network_of (g.N.Net.faults c.args.net.now) (g.N.Net.traffic c.args.net.now))
    (network_of (g.N.Net.faults c.try_offer-trial.new.net) (g.N.Net.traffic c.try_offer-trial.new.net))
    c.in-Refused.reason c.in-Refused.ensures.tried

pub returns-in-DiskFault-clause-weighs : goal.returns-in-DiskFault-clause-weighs
returns-in-DiskFault-clause-weighs g c =
    disk_adds (looker_of (g.D.Disk.seen c.args.disk.now) c.args.held.now c.args.when) c.args.offer.onboarding
    c.args.offer.evidence (network_of (g.N.Net.faults c.args.net.now) (g.N.Net.traffic c.args.net.now))
    (network_of (g.N.Net.faults c.try_offer-trial.new.net) (g.N.Net.traffic c.try_offer-trial.new.net))
    c.in-DiskFault.ensures.tried

pub returns-in-OutOfMemory-clause-weighs : goal.returns-in-OutOfMemory-clause-weighs
returns-in-OutOfMemory-clause-weighs g c =
    memory_adds (looker_of (g.D.Disk.seen c.args.disk.now) c.args.held.now c.args.when) c.args.offer.onboarding
    c.args.offer.evidence (network_of (g.N.Net.faults c.args.net.now) (g.N.Net.traffic c.args.net.now))
    (network_of (g.N.Net.faults c.try_offer-trial.new.net) (g.N.Net.traffic c.try_offer-trial.new.net))
    c.in-OutOfMemory.ensures.tried
