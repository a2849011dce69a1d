-- What an audit finds of what a device keeps: by its evidence, judged again at its stored moment, and by the bytes that
-- the disk reads.
use Rattle.std.specs.Prelude.{◌≡◌, ◌⊎◌, ℕ, List, Option, Some, None, Ok, Err}
use Rattle.sz_base.specs.declared.evidence.Evidence.{Evidence}
use Rattle.sz_base.specs.declared.identity.Identity.{Identity}
use Rattle.sz_base.specs.declared.moment.Moment.{Moment}
use Rattle.sz_base.specs.declared.target.Target.{Target}
use Rattle.sz_artifacts.specs.declared.conveyed.onboarding.Onboarding.{Onboarding}
use Rattle.sz_evidence.specs.Authorised.{Authorised}
use Rattle.sz_evidence.specs.Judgement.{Judgement}
use Rattle.sz_evidence.specs.declared.judgement.Judged.TheVariants as judged
use Rattle.sz_evidence.specs.declared.reason.Reason.{Reason}
use Rattle.sz_evidence.specs.declared.reason.Reason.TheVariants as reason
use Rattle.sz_record.specs.declared.device.Committed.{Committed}
use Rattle.sz_record.specs.declared.device.Device.{Device}
use Rattle.sz_record.specs.declared.device.Image.{Image}
use Rattle.sz_state.specs.Held.{ReadHas}
use Rattle.sz_state.specs.Stands.{HasImage}
use Rattle.sz_state.specs.Step.{commitment}
use Rattle.sz_step.specs.Lawful.{IsLawfulImage, Names}
use Rattle.sz_audit.specs.declared.judging.Stored.{Stored}
use Rattle.sz_audit.specs.declared.judging.Stored.TheVariants as stored
use Rattle.sz_audit.specs.declared.found.Audit.{Audit}
use Rattle.sz_audit.specs.declared.found.Found.{Found}
use Rattle.sz_audit.specs.declared.found.Found.TheVariants as found

-- ---- the evidence

-- it holds a redirect, signed or not
abbrev pub Redirects : Identity → Moment → Evidence → Type 0
Redirects identity when evidence = (targets : List Target)
    × (Judgement identity when evidence (Ok (judged.Redirect targets))
    ⊎ Judgement identity when evidence (Ok (judged.Unsigned targets)))

-- why it authorises nothing at this moment: the judgement's reason; a redirect is no signed onboarding information
abbrev pub IsUnauthorised : Identity → Moment → Evidence → Reason → Type 0
IsUnauthorised identity when evidence why =
    Judgement identity when evidence (Err why) ⊎ (Redirects identity when evidence × (why ≡ reason.Unsigned))

-- what it is judged as again: it authorises this information, or nothing, for this reason
abbrev pub IsStored : Identity → Moment → Evidence → Stored → Type 0
IsStored identity when evidence (stored.Authorises onboarding) = Authorised identity when evidence onboarding
IsStored identity when evidence (stored.Refused why) = IsUnauthorised identity when evidence why

-- ---- the image

-- its evidence authorises at its moment information that names another image, or none
abbrev pub NamesOther : Identity → Image → Type 0
NamesOther identity image = (onboarding : Onboarding)
    × Authorised identity image.when image.evidence onboarding × ¬ (Names onboarding image.hash)

abbrev pub FindsImage : Option (List ℕ) → Identity → Image → Found → Type 0
FindsImage reads identity image (found.Refused why) = IsUnauthorised identity image.when image.evidence why
FindsImage reads identity image found.OtherFields = NamesOther identity image
FindsImage reads identity image found.OtherBytes =
    IsLawfulImage identity image × ReadHas reads (λ bytes. ¬ (HasImage bytes image))
FindsImage reads identity image found.Authorised =
    IsLawfulImage identity image × ReadHas reads (λ bytes. HasImage bytes image)

-- ---- what the device was committed to

-- its evidence authorises at its moment this information
abbrev pub Commits : Identity → Committed → Onboarding → Type 0
Commits identity committed onboarding = Authorised identity committed.when committed.evidence onboarding

-- its fields are those that the information names
abbrev pub HasFields : Committed → Onboarding → Type 0
HasFields committed onboarding = committed ≡ commitment onboarding committed.when committed.evidence

abbrev pub FindsCommitment : Identity → Committed → Found → Type 0
FindsCommitment identity committed (found.Refused why) =
    IsUnauthorised identity committed.when committed.evidence why
FindsCommitment identity committed found.OtherFields =
    (onboarding : Onboarding) × Commits identity committed onboarding × ¬ (HasFields committed onboarding)
FindsCommitment identity committed found.OtherBytes = ⊥
FindsCommitment identity committed found.Authorised =
    (onboarding : Onboarding) × Commits identity committed onboarding × HasFields committed onboarding

-- ---- the device

-- something is found exactly where something is there
abbrev pub FindsWhere : {T : Type 0} → (T → Found → Type 0) → Option T → Option Found → Type 0
FindsWhere Finds None None = Unit {0}
FindsWhere Finds (Some kept) (Some is) = Finds kept is
FindsWhere Finds None (Some is) = ⊥
FindsWhere Finds (Some kept) None = ⊥

-- what is found of the device of a disk that reads so
pub record Audits (reads : Option (List ℕ)) (device : Device) (audit : Audit) : Type 0 where
  pub image : FindsWhere (FindsImage reads device.identity) device.image audit.image
  pub configuration : FindsWhere (FindsCommitment device.identity) device.onboarded audit.configuration

-- ---- the law

-- nothing is found but that it is authorised
abbrev pub IsAuthorised : Option Found → Type 0
IsAuthorised None = Unit {0}
IsAuthorised (Some is) = is ≡ found.Authorised

pub record AllAuthorised (audit : Audit) : Type 0 where
  pub image : IsAuthorised audit.image
  pub configuration : IsAuthorised audit.configuration
