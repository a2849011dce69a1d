-- What a device that needs an image can do after a trial.
use Rattle.std.specs.Prelude.{◌≡◌, ◌↔◌, ℕ, Bool, true, false, IsTrue, List, length, Option, Some, None, IfSome}
use Rattle.std.proofs.Common.{refl, sym, subst, inr}
use Rattle.sz_base.specs.declared.evidence.Evidence.{Evidence}
use Rattle.sz_base.specs.declared.moment.Moment.{Moment}
use Rattle.sz_artifacts.specs.declared.conveyed.onboarding.BootImage.{BootImage}
use Rattle.sz_artifacts.specs.declared.conveyed.onboarding.Onboarding.{Onboarding}
use Rattle.sz_disk.specs.Disk.{Seen}
use Rattle.sz_record.specs.declared.device.Device.{Device}
use Rattle.sz_state.specs.Change.{CanInstall, HasShortNames, NamesImage}
use Rattle.sz_state.specs.Fitting.{Fits}
use Rattle.sz_state.specs.Layout.{capacity_of}
use Rattle.sz_state.specs.Step.{IsSatisfied, staged_image, with_image}
use Rattle.sz_state.specs.declared.held.Held.{Held}
use Rattle.sz_state.specs.declared.staged.Staged.{Staged}
use Rattle.sz_offer.specs.Next.{WithImage}
use Rattle.sz_offer.specs.Offer.{FitsIn, IsReady, Looker}
use Rattle.sz_offer.specs.Trial.{CanTake, DownloadCameTo, IfStaged, IsStagedFor, Network, looker_of}
use Rattle.sz_offer.specs.declared.trial.Trial.{Trial}
use Rattle.sz_offer.specs.declared.trial.Trial.TheVariants as trial

pub not_satisfied : (test : Bool) (P : Type 0) → IsTrue test ↔ P → test ≡ false → ¬ P
not_satisfied test P is false_is has = let true_is : test ≡ true = is.1 has in absurd (cc)

abbrev pub ready_by : (looker : Looker) (onboarding : Onboarding) (evidence : Evidence) (boot : BootImage) (hash : List ℕ)
    → FitsIn looker onboarding evidence → ¬ (IsSatisfied looker.device onboarding) → onboarding.image ≡ Some boot
    → boot.hash ≡ Some hash → IsReady looker onboarding evidence
ready_by looker onboarding evidence boot hash fits unsatisfied named hashed = record {
  fits = fits;
  unsatisfied = unsatisfied;
  names = record { boot = boot; named = named; hash = hash; hashed = hashed };
}

next_image : (device : Device) (onboarding : Onboarding) (when : Moment) (evidence : Evidence) (staged : Staged)
    (names : NamesImage onboarding) → ¬ (IsSatisfied device onboarding) → length names.hash ≡ 32
    → WithImage device onboarding when evidence (with_image device names.boot (staged_image staged names.hash when evidence))
next_image device onboarding when evidence staged names unsatisfied digest = record {
  unsatisfied = unsatisfied;
  boot = names.boot;
  named = names.named;
  image = staged_image staged names.hash when evidence;
  digest = digest;
  when_is = refl;
  evidence_is = refl;
  next_is = refl;
}

can_install : (old new : Seen) (held : Held) (onboarding : Onboarding) (when : Moment) (evidence : Evidence)
    (staged : Staged) (ready : IsReady (looker_of old held when) onboarding evidence) → new.size ≡ old.size
    → held.device.onboarded ≡ None → IfSome onboarding.image HasShortNames → IsStagedFor new held ready.names.hash staged
    → CanInstall new.size held.device staged onboarding when evidence
can_install old new held onboarding when evidence staged ready size uncommitted short is = record {
  uncommitted = uncommitted;
  unsatisfied = ready.unsatisfied;
  names = ready.names;
  short = subst (λ (image : Option BootImage). IfSome image HasShortNames) ready.names.named short;
  area = is.area;
  within = is.within;
  fits =
      let after = with_image held.device ready.names.boot (staged_image staged ready.names.hash when evidence) in
      subst (λ (n : ℕ). Fits (capacity_of n) after) (sym size)
      (ready.fits after (inr (next_image held.device onboarding when evidence staged ready.names ready.unsatisfied is.digest)));
}

-- where a download came to this
pub can_take : (old new : Seen) (held : Held) (onboarding : Onboarding) (when : Moment) (evidence : Evidence)
    (hash : List ℕ) (space : ℕ) (uris : List (List ℕ)) (before now : Network) (tried : Trial)
    → (ready : IsReady (looker_of old held when) onboarding evidence) → new.size ≡ old.size
    → held.device.onboarded ≡ None → IfSome onboarding.image HasShortNames
    → IfStaged tried (IsStagedFor new held ready.names.hash) → DownloadCameTo hash space uris before now tried
    → CanTake new.size held.device onboarding when evidence tried
can_take old new held onboarding when evidence hash space uris before now trial.Satisfied ready size uncommitted short is came = absurd came
can_take old new held onboarding when evidence hash space uris before now (trial.Staged staged) ready size uncommitted short is came =
    can_install old new held onboarding when evidence staged ready size uncommitted short is
can_take old new held onboarding when evidence hash space uris before now (trial.Refused found) ready size uncommitted short is came = tt
can_take old new held onboarding when evidence hash space uris before now trial.DiskFault ready size uncommitted short is came = tt
can_take old new held onboarding when evidence hash space uris before now trial.OutOfMemory ready size uncommitted short is came = tt
