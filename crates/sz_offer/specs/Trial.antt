-- What the trial of an offer does: what it came to and over which exchanges, what it leaves of the disk, and whom it
-- blames.
use Rattle.std.specs.Prelude.{◌≡◌, ◌⊎◌, ℕ, ◌≤◌, Bool, true, false, List, length, Option, Some, None, IfSome}
use Rattle.sha2.specs.Sha256.{sha256}
use Rattle.sz_spec.specs.Told.{WhereTold}
use Rattle.sz_base.specs.declared.evidence.Evidence.{Evidence}
use Rattle.sz_base.specs.declared.image.ImageFault.{ImageFault}
use Rattle.sz_base.specs.declared.moment.Moment.{Moment}
use Rattle.sz_artifacts.specs.declared.conveyed.onboarding.Onboarding.{Onboarding}
use Rattle.sz_disk.specs.Disk.{Seen, IsSettled, TornIn}
use Rattle.sz_evidence.specs.declared.reason.Reason.{Reason}
use Rattle.sz_evidence.specs.declared.reason.Reason.TheVariants as reason
use Rattle.sz_image.specs.Downloads.{AddsOwn, AreFaultsBefore, CountsLost, RefusesAll, Stops, TriesOver}
use Rattle.sz_image.specs.declared.choice.NoImage.TheVariants as no
use Rattle.sz_io.specs.Net.{Traffic}
use Rattle.sz_io.specs.declared.exchange.Exchange.{Exchange}
use Rattle.sz_record.specs.declared.device.Device.{Device}
use Rattle.sz_state.specs.Change.{CanInstall, CanOnboard, HasShortNames, NowHasImage}
use Rattle.sz_state.specs.Held.{IsHeld}
use Rattle.sz_state.specs.Layout.{area_place, space_of}
use Rattle.sz_state.specs.Stands.{AreaHas}
use Rattle.sz_state.specs.Step.{once_installed, other_area}
use Rattle.sz_state.specs.declared.held.Held.{Held}
use Rattle.sz_state.specs.declared.staged.Staged.{Staged}
use Rattle.sz_offer.specs.Offer.{IsReady, IsTaken, IsTooLarge, LacksHash, Looker, Makes}
use Rattle.sz_offer.specs.declared.trial.Trial.{Trial}
use Rattle.sz_offer.specs.declared.trial.Trial.TheVariants as trial

-- ---- before

-- the device was found on the disk and is not committed, and the information has short names
pub record IsOpen (disk : Seen) (held : Held) (onboarding : Onboarding) : Type 0 where
  pub found : IsHeld disk held
  pub uncommitted : held.device.onboarded ≡ None
  pub short : IfSome onboarding.image HasShortNames

abbrev pub looker_of : Seen → Held → Moment → Looker
looker_of disk held when = record { device = held.device; size = disk.size; when = when }

-- ---- what the trial came to

-- what contracts see of a network: the count of its faults, and its traffic where it tells it
pub record Network : Type 0 where
  pub faults : ℕ
  pub traffic : Option Traffic

abbrev pub network_of : ℕ → Option Traffic → Network
network_of faults traffic = record { faults = faults; traffic = traffic }

-- A URI gave an image of this size. Those before it gave these faults, and the network's count rose for those of them
-- that were lost.
pub record Downloaded (hash : List ℕ) (space : ℕ) (uris : List (List ℕ)) (size : ℕ) (before now : Network)
    : Type 0 where
  pub body : List ℕ
  pub size_is : size ≡ length body
  pub hash_is : sha256 body ≡ hash
  pub faults : List ImageFault
  pub each : AreFaultsBefore uris faults
  pub lost : CountsLost faults before.faults now.faults
  pub tries : WhereTold (TriesOver hash space uris faults (Some body)) before.traffic now.traffic

-- What the download from these URIs came to. The disk failed while an image came, or once it was there.
abbrev pub DownloadCameTo : List ℕ → ℕ → List (List ℕ) → Network → Network → Trial → Type 0
DownloadCameTo hash space uris before now (trial.Staged staged) = Downloaded hash space uris staged.size before now
DownloadCameTo hash space uris before now (trial.Refused (reason.NoImage faults)) =
    RefusesAll hash space uris faults before.faults now.faults before.traffic now.traffic
DownloadCameTo hash space uris before now trial.DiskFault =
    Stops hash space uris no.DiskFault before.faults now.faults before.traffic now.traffic
    ⊎ ((size : ℕ) × Downloaded hash space uris size before now)
DownloadCameTo hash space uris before now trial.OutOfMemory =
    Stops hash space uris no.OutOfMemory before.faults now.faults before.traffic now.traffic
DownloadCameTo hash space uris before now _ = ⊥

-- an image was needed and named with its hash, and this came of its download
pub record CameTo (looker : Looker) (onboarding : Onboarding) (evidence : Evidence) (before now : Network)
    (tried : Trial) : Type 0 where
  pub ready : IsReady looker onboarding evidence
  pub download : DownloadCameTo ready.names.hash (space_of looker.size) ready.names.boot.uris before now tried

-- What the trial came to, and why. Where no image was needed or can be had the network is as it was; the disk fails,
-- and memory runs out, only in a download.
abbrev pub Tried : Looker → Onboarding → Evidence → Network → Network → Trial → Type 0
Tried looker onboarding evidence before now trial.Satisfied = IsTaken looker onboarding evidence × (now ≡ before)
Tried looker onboarding evidence before now (trial.Refused (reason.RecordTooLarge size)) =
    IsTooLarge looker onboarding evidence size × (now ≡ before)
Tried looker onboarding evidence before now (trial.Refused reason.NoImageHash) =
    LacksHash looker onboarding evidence × (now ≡ before)
Tried looker onboarding evidence before now tried = CameTo looker onboarding evidence before now tried

-- ---- the verdict

-- the trial is one that came to a verdict on the offer, and this is it
abbrev pub IsVerdict : Trial → Option Reason → Type 0
IsVerdict trial.Satisfied verdict = verdict ≡ None
IsVerdict (trial.Staged staged) verdict = verdict ≡ None
IsVerdict (trial.Refused found) verdict = verdict ≡ Some found
IsVerdict trial.DiskFault verdict = ⊥
IsVerdict trial.OutOfMemory verdict = ⊥

-- the exchanges that were added are those that the device makes of the offer, with this verdict
abbrev pub MakesOver : Looker → Onboarding → Evidence → Option Reason → Traffic → Traffic → Type 0
MakesOver looker onboarding evidence verdict before now =
    (own : List Exchange) × AddsOwn before now own × Makes looker onboarding evidence own verdict

-- ---- what can be done next

-- the device can be committed, or the staged image can be put in place
abbrev pub CanTake : ℕ → Device → Onboarding → Moment → Evidence → Trial → Type 0
CanTake size device onboarding when evidence trial.Satisfied = CanOnboard size device onboarding when evidence
CanTake size device onboarding when evidence (trial.Staged staged) =
    CanInstall size device staged onboarding when evidence
CanTake size device onboarding when evidence _ = Unit {0}

-- an image was staged, and this holds of it
abbrev pub IfStaged : Trial → (Staged → Type 0) → Type 0
IfStaged (trial.Staged staged) P = P staged
IfStaged _ P = Unit {0}

-- The staged image fits the area that the device's image does not use. Everything is synced, and in every image that a
-- crash now may leave its bytes are in that area and have this SHA-256.
pub record IsStagedFor (disk : Seen) (held : Held) (hash : List ℕ) (staged : Staged) : Type 0 where
  pub area : staged.area ≡ other_area held.device.image
  pub within : staged.size ≤ space_of disk.size
  pub digest : length hash ≡ 32
  pub settled : IsSettled disk
  pub in_area : (image : List ℕ) → disk.leaves image → AreaHas image staged.area staged.size hash

-- everything is synced, and every image that a crash now may leave has the device's image in its area
pub record IsInArea (disk : Seen) (after : Device) : Type 0 where
  pub settled : IsSettled disk
  pub in_area : NowHasImage disk after

-- the image that was staged, if one was, is in its area
abbrev pub IsPlaced : Seen → Device → Onboarding → Moment → Evidence → Trial → Type 0
IsPlaced disk device onboarding when evidence tried =
    IfStaged tried (λ staged. IsInArea disk (once_installed device onboarding staged when evidence))

-- ---- the disk

-- nothing was written but in the area that the device's image does not use, and the device is found as before
pub record WritesSpare (old new : Seen) (held : Held) : Type 0 where
  pub torn : TornIn (area_place old.size (other_area held.device.image)) (space_of old.size) old new
  pub found : IsHeld new held

abbrev pub blames_disk : Trial → Bool
blames_disk trial.DiskFault = true
blames_disk _ = false
