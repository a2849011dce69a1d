use Rattle.std.proofs.Common.{◌≡◌, ◌≢◌, subst}
use Rattle.sz_evidence.specs.Authorised.{Authorised}
use Rattle.sz_step.specs.Lawful.{Names}
use Rattle.sz_audit.specs.Audit.{IsStored}
use Rattle.sz_audit.proofs.Pieces.{has_image, has_other}
use Rattle.sz_audit.proofs.image.audit_image.Goals as goal

pub returns-then-not-names-clause-found : goal.returns-then-not-names-clause-found
returns-then-not-names-clause-found g c =
    let identity = c.args.identity.now in
    let image = c.args.image.now in
    let is : Authorised identity image.when image.evidence c.in-Ok-Authorises.onboarding =
    subst (λ s. IsStored identity image.when image.evidence s) c.in-Ok-Authorises.field-0-is c.in-Ok-Authorises.ensures in (
      c.in-Ok-Authorises.onboarding,
      is,
      λ names. let yes = c.names.ensures.1 names in let no = c.if-not-names.true in absurd (cc),
    )

pub returns-then-not-are_same-clause-found : goal.returns-then-not-are_same-clause-found
returns-then-not-are_same-clause-found g c =
    let identity = c.args.identity.now in
    let image = c.args.image.now in
    let is : Authorised identity image.when image.evidence c.in-Ok-Authorises.onboarding =
    subst (λ s. IsStored identity image.when image.evidence s) c.in-Ok-Authorises.field-0-is c.in-Ok-Authorises.ensures in
    let names : Names c.in-Ok-Authorises.onboarding image.hash = c.names.ensures.0 c.if-not-names.false in
    let other : c.in_ok-digest.digest ≢ image.hash =
    λ e. let yes = c.are_same.ensures.1 e in let no = c.if-not-are_same.true in absurd (cc) in (
      record { onboarding = c.in-Ok-Authorises.onboarding; authorised = is; names = names },
      has_other (g.D.Disk.seen c.hash_area.new.disk).reads image c.in_ok-digest.digest other c.in_ok-digest.ensures.ok,
    )

pub returns-clause-found : goal.returns-clause-found
returns-clause-found g c =
    let identity = c.args.identity.now in
    let image = c.args.image.now in
    let is : Authorised identity image.when image.evidence c.in-Ok-Authorises.onboarding =
    subst (λ s. IsStored identity image.when image.evidence s) c.in-Ok-Authorises.field-0-is c.in-Ok-Authorises.ensures in
    let names : Names c.in-Ok-Authorises.onboarding image.hash = c.names.ensures.0 c.if-not-names.false in
    let same : c.in_ok-digest.digest ≡ image.hash = c.are_same.ensures.0 c.if-not-are_same.false in (
      record { onboarding = c.in-Ok-Authorises.onboarding; authorised = is; names = names },
      has_image (g.D.Disk.seen c.hash_area.new.disk).reads image c.in_ok-digest.digest same c.in_ok-digest.ensures.ok,
    )
