use Rattle.std.proofs.Common.{refl}
use Rattle.sz_evidence.specs.declared.reason.Reason.TheVariants as reason
use Rattle.sz_state.specs.Layout.{capacity_of, space_of}
use Rattle.sz_state.specs.Step.{IsSatisfied}
use Rattle.sz_offer.specs.Trial.{looker_of, network_of}
use Rattle.sz_offer.specs.declared.trial.Trial.TheVariants as trial
use Rattle.sz_offer.proofs.Fitting.{next_fits, next_too_large}
use Rattle.sz_offer.proofs.Making.{download_tried, tried_makes}
use Rattle.sz_offer.proofs.Taking.{can_take, not_satisfied, ready_by}
use Rattle.sz_offer.proofs.trying.try_offer.Goals as goal

-- ---- the record is too large

pub returns-in-Some-clause-tried : goal.returns-in-Some-clause-tried
returns-in-Some-clause-tried g c =
    let a = c.args in (
      next_too_large c.is_satisfied-satisfied.result a.held.now.ready.capacity (capacity_of (g.D.Disk.seen a.disk.now).size)
          a.held.now.device a.onboarding.now a.when.now a.evidence.now c.fits.result c.in-Some.size
          c.requires.open.found.capacity c.in-Some.is c.is_satisfied-satisfied.ensures c.fits.ensures.commits
          c.fits.ensures.installs,
      refl,
    )

pub returns-in-Some-clause-makes : goal.returns-in-Some-clause-makes
returns-in-Some-clause-makes g c =
    let a = c.args in
    let network = network_of (g.N.Net.faults a.net.now) (g.N.Net.traffic a.net.now) in
    tried_makes (looker_of (g.D.Disk.seen a.disk.now) a.held.now a.when.now) a.onboarding.now a.evidence.now network
    network (trial.Refused (reason.RecordTooLarge c.in-Some.size)) (returns-in-Some-clause-tried g c)

-- ---- what runs satisfies the information

pub returns-then-satisfied-clause-tried : goal.returns-then-satisfied-clause-tried
returns-then-satisfied-clause-tried g c =
    let a = c.args in (
      record {
        fits = next_fits a.held.now.ready.capacity (capacity_of (g.D.Disk.seen a.disk.now).size) a.held.now.device
            a.onboarding.now a.when.now a.evidence.now c.fits.result c.requires.open.found.capacity c.in_default.is
            c.fits.ensures.commits c.fits.ensures.installs;
        satisfied = c.is_satisfied-satisfied.ensures.0 c.if-satisfied.true;
      },
      refl,
    )

pub returns-then-satisfied-clause-makes : goal.returns-then-satisfied-clause-makes
returns-then-satisfied-clause-makes g c =
    let a = c.args in
    let network = network_of (g.N.Net.faults a.net.now) (g.N.Net.traffic a.net.now) in
    tried_makes (looker_of (g.D.Disk.seen a.disk.now) a.held.now a.when.now) a.onboarding.now a.evidence.now network
    network trial.Satisfied (returns-then-satisfied-clause-tried g c)

-- ---- no hash

pub returns-in_default-hash-clause-tried : goal.returns-in_default-hash-clause-tried
returns-in_default-hash-clause-tried g c =
    let a = c.args in (
      record {
        fits = next_fits a.held.now.ready.capacity (capacity_of (g.D.Disk.seen a.disk.now).size) a.held.now.device
            a.onboarding.now a.when.now a.evidence.now c.fits.result c.requires.open.found.capacity c.in_default.is
            c.fits.ensures.commits c.fits.ensures.installs;
        unsatisfied = not_satisfied c.is_satisfied-satisfied.result (IsSatisfied a.held.now.device a.onboarding.now)
            c.is_satisfied-satisfied.ensures c.if-satisfied.false;
        boot = c.in-Some-image.boot;
        named = c.in-Some-image.is;
        unhashed = c.in_default-hash.is;
      },
      refl,
    )

pub returns-in_default-hash-clause-makes : goal.returns-in_default-hash-clause-makes
returns-in_default-hash-clause-makes g c =
    let a = c.args in
    let network = network_of (g.N.Net.faults a.net.now) (g.N.Net.traffic a.net.now) in
    tried_makes (looker_of (g.D.Disk.seen a.disk.now) a.held.now a.when.now) a.onboarding.now a.evidence.now network
    network (trial.Refused reason.NoImageHash) (returns-in_default-hash-clause-tried g c)

-- ---- a download

pub returns-clause-tried : goal.returns-clause-tried
returns-clause-tried g c =
    let a = c.args in
    let looker = looker_of (g.D.Disk.seen a.disk.now) a.held.now a.when.now in
    let fits = next_fits a.held.now.ready.capacity (capacity_of (g.D.Disk.seen a.disk.now).size) a.held.now.device
    a.onboarding.now a.when.now a.evidence.now c.fits.result c.requires.open.found.capacity c.in_default.is
    c.fits.ensures.commits c.fits.ensures.installs in
    let unsatisfied = not_satisfied c.is_satisfied-satisfied.result (IsSatisfied a.held.now.device a.onboarding.now)
    c.is_satisfied-satisfied.ensures c.if-satisfied.false in
    download_tried looker a.onboarding.now a.evidence.now (network_of (g.N.Net.faults a.net.now) (g.N.Net.traffic a.net.now))
    (network_of (g.N.Net.faults c.stage_first.new.net) (g.N.Net.traffic c.stage_first.new.net)) c.stage_first.result
    (ready_by looker a.onboarding.now a.evidence.now c.in-Some-image.boot c.in-Some-hash.hash fits unsatisfied
    c.in-Some-image.is c.in-Some-hash.is) c.stage_first.ensures.download

pub returns-clause-makes : goal.returns-clause-makes
returns-clause-makes g c =
    let a = c.args in
    tried_makes (looker_of (g.D.Disk.seen a.disk.now) a.held.now a.when.now) a.onboarding.now a.evidence.now
    (network_of (g.N.Net.faults a.net.now) (g.N.Net.traffic a.net.now))
    (network_of (g.N.Net.faults c.stage_first.new.net) (g.N.Net.traffic c.stage_first.new.net)) c.stage_first.result
    (returns-clause-tried g c)

pub returns-clause-can : goal.returns-clause-can
returns-clause-can g c =
    let a = c.args in
    let old = g.D.Disk.seen a.disk.now in
    let fits = next_fits a.held.now.ready.capacity (capacity_of old.size) a.held.now.device a.onboarding.now a.when.now
    a.evidence.now c.fits.result c.requires.open.found.capacity c.in_default.is c.fits.ensures.commits
    c.fits.ensures.installs in
    let unsatisfied = not_satisfied c.is_satisfied-satisfied.result (IsSatisfied a.held.now.device a.onboarding.now)
    c.is_satisfied-satisfied.ensures c.if-satisfied.false in
    can_take old (g.D.Disk.seen c.stage_first.new.disk) a.held.now a.onboarding.now a.when.now a.evidence.now
    c.in-Some-hash.hash (space_of old.size) c.in-Some-image.boot.uris
    (network_of (g.N.Net.faults a.net.now) (g.N.Net.traffic a.net.now))
    (network_of (g.N.Net.faults c.stage_first.new.net) (g.N.Net.traffic c.stage_first.new.net)) c.stage_first.result
    (ready_by (looker_of old a.held.now a.when.now) a.onboarding.now a.evidence.now c.in-Some-image.boot
    c.in-Some-hash.hash fits unsatisfied c.in-Some-image.is c.in-Some-hash.is) c.stage_first.ensures.spare.torn.size
    c.requires.open.uncommitted c.requires.open.short c.stage_first.ensures.staged c.stage_first.ensures.download
