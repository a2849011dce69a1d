-- What an audit finds of a lawful device.
use Rattle.std.proofs.Common.{◌≡◌, ℕ, List, Option, Some, None, IfSome, Ok, Err, inl, inr, refl, subst}
use Rattle.sz_base.specs.declared.evidence.Evidence.{Evidence}
use Rattle.sz_base.specs.declared.identity.Identity.{Identity}
use Rattle.sz_base.specs.declared.moment.Moment.{Moment}
use Rattle.sz_artifacts.specs.declared.conveyed.Conveyed.TheVariants as conveyed
use Rattle.sz_artifacts.specs.declared.conveyed.onboarding.Onboarding.{Onboarding}
use Rattle.sz_evidence.specs.Authorised.{Authorised}
use Rattle.sz_evidence.specs.declared.judgement.Judged.TheVariants as judged
use Rattle.sz_evidence.specs.declared.reason.Reason.{Reason}
use Rattle.sz_evidence.proofs.OneJudgement.{one_information, one_judgement}
use Rattle.sz_record.specs.declared.device.Committed.{Committed}
use Rattle.sz_record.specs.declared.device.Device.{Device}
use Rattle.sz_record.specs.declared.device.Image.{Image}
use Rattle.sz_state.specs.Stands.{HasImage, Stands}
use Rattle.sz_step.specs.Lawful.{IsLawfulCommitment, IsLawfulImage, Lawful, Names}
use Rattle.sz_audit.specs.Audit.{AllAuthorised, Audits, FindsCommitment, FindsImage, FindsWhere, HasFields, IsAuthorised, IsUnauthorised}
use Rattle.sz_audit.specs.declared.found.Audit.{Audit}
use Rattle.sz_audit.specs.declared.found.Found.{Found}
use Rattle.sz_audit.specs.declared.found.Found.TheVariants as found

-- nothing is held against evidence that authorises something
authorised_only : (identity : Identity) (when : Moment) (evidence : Evidence) (onboarding : Onboarding) (why : Reason)
    → Authorised identity when evidence onboarding → IsUnauthorised identity when evidence why → ⊥
authorised_only identity when evidence onboarding why is (inl refused) =
    cc (one_judgement identity when evidence (Ok (judged.Onboarding onboarding)) (Err why) is refused)
authorised_only identity when evidence onboarding why is (inr ((targets, inl redirect), gives)) =
    cc (one_judgement identity when evidence (Ok (judged.Onboarding onboarding)) (Ok (judged.Redirect targets)) is redirect)
authorised_only identity when evidence onboarding why is (inr ((targets, inr redirect), gives)) =
    cc (one_judgement identity when evidence (Ok (judged.Onboarding onboarding)) (Ok (judged.Unsigned targets)) is redirect)

-- evidence authorises one piece of information
one_authorised : (identity : Identity) (when : Moment) (evidence : Evidence) (onboarding other : Onboarding)
    → Authorised identity when evidence onboarding → Authorised identity when evidence other → onboarding ≡ other
one_authorised identity when evidence onboarding other is same =
    let e : conveyed.Onboarding onboarding ≡ conveyed.Onboarding other =
    one_information identity when evidence (conveyed.Onboarding onboarding) (conveyed.Onboarding other) is same in
    cc

image_is : (bytes : List ℕ) (identity : Identity) (image : Image) (is : Found) → IsLawfulImage identity image
    → HasImage bytes image → FindsImage (Some bytes) identity image is → is ≡ found.Authorised
image_is bytes identity image found.Authorised lawful has finds = refl
image_is bytes identity image (found.Refused why) lawful has finds =
    absurd (authorised_only identity image.when image.evidence lawful.onboarding why lawful.authorised finds)
image_is bytes identity image found.OtherFields lawful has (onboarding, authorised, other) =
    let e : lawful.onboarding ≡ onboarding =
    one_authorised identity image.when image.evidence lawful.onboarding onboarding lawful.authorised authorised in
    absurd (other (subst (λ o. Names o image.hash) e lawful.names))
image_is bytes identity image found.OtherBytes lawful has (named, other) = absurd (other has)

commitment_is : (device : Device) (committed : Committed) (is : Found) → IsLawfulCommitment device committed
    → FindsCommitment device.identity committed is → is ≡ found.Authorised
commitment_is device committed found.Authorised lawful finds = refl
commitment_is device committed (found.Refused why) lawful finds =
    absurd (authorised_only device.identity committed.when committed.evidence lawful.onboarding why lawful.authorised finds)
commitment_is device committed found.OtherFields lawful (onboarding, commits, other) =
    let e : lawful.onboarding ≡ onboarding =
    one_authorised device.identity committed.when committed.evidence lawful.onboarding onboarding lawful.authorised commits in
    absurd (other (subst (λ o. HasFields committed o) e lawful.fields))
commitment_is device committed found.OtherBytes lawful finds = absurd finds

-- what is found of what is lawful, where it is there
authorised_where : {T : Type 0} → (IsLawful Is : T → Type 0) (Finds : T → Found → Type 0) (kept : Option T)
    (is : Option Found) → ((it : T) (f : Found) → IsLawful it → Is it → Finds it f → f ≡ found.Authorised)
    → IfSome kept IsLawful → IfSome kept Is → FindsWhere Finds kept is → IsAuthorised is
authorised_where IsLawful Is Finds None None step lawful there finds = tt
authorised_where IsLawful Is Finds (Some it) (Some f) step lawful there finds = step it f lawful there finds
authorised_where IsLawful Is Finds None (Some f) step lawful there finds = absurd finds
authorised_where IsLawful Is Finds (Some it) None step lawful there finds = absurd finds

pub all_authorised : (bytes : List ℕ) (device : Device) (audit : Audit) → Lawful device → Stands bytes device
    → Audits (Some bytes) device audit → AllAuthorised audit
all_authorised bytes device audit lawful stands audits = record {
  image = authorised_where (IsLawfulImage device.identity) (HasImage bytes) (FindsImage (Some bytes) device.identity)
      device.image audit.image (λ image f is has finds. image_is bytes device.identity image f is has finds) lawful.image
      stands.in_area audits.image;
  configuration = authorised_where (IsLawfulCommitment device) (IsLawfulCommitment device)
      (FindsCommitment device.identity) device.onboarded audit.configuration
      (λ committed f is same finds. commitment_is device committed f is finds) lawful.onboarded lawful.onboarded
      audits.configuration;
}
