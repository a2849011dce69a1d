-- What a device makes of an offer of onboarding information: the exchanges of its downloads, and the verdict.
use Rattle.std.specs.Prelude.{◌≡◌, ◌⊎◌, ℕ, List, [], Option, Some, None}
use Rattle.sz_base.specs.declared.evidence.Evidence.{Evidence}
use Rattle.sz_base.specs.declared.image.ImageFault.{ImageFault}
use Rattle.sz_base.specs.declared.moment.Moment.{Moment}
use Rattle.sz_artifacts.specs.declared.conveyed.onboarding.BootImage.{BootImage}
use Rattle.sz_artifacts.specs.declared.conveyed.onboarding.Onboarding.{Onboarding}
use Rattle.sz_evidence.specs.declared.reason.Reason.{Reason}
use Rattle.sz_evidence.specs.declared.reason.Reason.TheVariants as reason
use Rattle.sz_image.specs.Downloads.{Tries}
use Rattle.sz_io.specs.declared.exchange.Exchange.{Exchange}
use Rattle.sz_record.specs.declared.device.Device.{Device}
use Rattle.sz_state.specs.Change.{NamesImage}
use Rattle.sz_state.specs.Layout.{capacity_of, space_of}
use Rattle.sz_state.specs.Step.{IsSatisfied}
use Rattle.sz_offer.specs.Next.{NextFits, NextIsTooLarge}

-- who looks at an offer, and when: the device, and the size of its disk
pub record Looker : Type 0 where
  pub device : Device
  pub size : ℕ
  pub when : Moment

-- the record that the device would store next fits its cell
abbrev pub FitsIn : Looker → Onboarding → Evidence → Type 0
FitsIn looker onboarding evidence =
    NextFits (capacity_of looker.size) looker.device onboarding looker.when evidence

-- it has this many bytes, capped, which do not fit
abbrev pub IsTooLarge : Looker → Onboarding → Evidence → ℕ → Type 0
IsTooLarge looker onboarding evidence size =
    NextIsTooLarge (capacity_of looker.size) looker.device onboarding looker.when evidence size

-- the record fits, and what runs satisfies the information
pub record IsTaken (looker : Looker) (onboarding : Onboarding) (evidence : Evidence) : Type 0 where
  pub fits : FitsIn looker onboarding evidence
  pub satisfied : IsSatisfied looker.device onboarding

-- the record fits, and an image is needed, whose boot image has no SHA-256
pub record LacksHash (looker : Looker) (onboarding : Onboarding) (evidence : Evidence) : Type 0 where
  pub fits : FitsIn looker onboarding evidence
  pub unsatisfied : ¬ (IsSatisfied looker.device onboarding)
  pub boot : BootImage
  pub named : onboarding.image ≡ Some boot
  pub unhashed : boot.hash ≡ None

-- the record fits, and an image is needed and named with its SHA-256
pub record IsReady (looker : Looker) (onboarding : Onboarding) (evidence : Evidence) : Type 0 where
  pub fits : FitsIn looker onboarding evidence
  pub unsatisfied : ¬ (IsSatisfied looker.device onboarding)
  pub names : NamesImage onboarding

-- These exchanges are the downloads from the URIs of the named image, in their order: these faults, one for each URI
-- that gave none, and the bytes of the image, where one gave it. Where one did, those behind it were not asked.
abbrev pub Downloads : Looker → (onboarding : Onboarding) → NamesImage onboarding → List Exchange → List ImageFault
    → Option (List ℕ) → Type 0
Downloads looker onboarding names own faults image =
    Tries names.hash (space_of looker.size) names.boot.uris own faults image

-- a URI gave the image, which has the named SHA-256 and fits an area of the disk
pub record GotImage (looker : Looker) (onboarding : Onboarding) (evidence : Evidence) (own : List Exchange)
    : Type 0 where
  pub ready : IsReady looker onboarding evidence
  pub faults : List ImageFault
  pub body : List ℕ
  pub downloads : Downloads looker onboarding ready.names own faults (Some body)

-- no URI gave the image, for these faults
pub record GotNoImage (looker : Looker) (onboarding : Onboarding) (evidence : Evidence) (own : List Exchange)
    (faults : List ImageFault) : Type 0 where
  pub ready : IsReady looker onboarding evidence
  pub downloads : Downloads looker onboarding ready.names own faults None

-- The device makes these exchanges of the offer, and takes it, or turns it down for this reason. The reasons are
-- tried in this order: the record is too large; an image is needed and has no hash; no URI gives it.
abbrev pub Makes : Looker → Onboarding → Evidence → List Exchange → Option Reason → Type 0
Makes looker onboarding evidence own None =
    (IsTaken looker onboarding evidence × (own ≡ [])) ⊎ GotImage looker onboarding evidence own
Makes looker onboarding evidence own (Some (reason.RecordTooLarge size)) =
    IsTooLarge looker onboarding evidence size × (own ≡ [])
Makes looker onboarding evidence own (Some reason.NoImageHash) = LacksHash looker onboarding evidence × (own ≡ [])
Makes looker onboarding evidence own (Some (reason.NoImage faults)) = GotNoImage looker onboarding evidence own faults
Makes looker onboarding evidence own (Some _) = ⊥
