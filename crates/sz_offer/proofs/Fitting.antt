-- Whether the next record fits, from what `fits` of `sz_state` says of the two records that may be next.
use Rattle.std.specs.Prelude.{◌≡◌, ◌↔◌, ℕ, Bool, true, false, IsTrue, length, replicate, Option, Some, None, IfSome}
use Rattle.std.proofs.Common.{refl, sym, subst, inl, inr}
use Rattle.std.proofs.lemmas.List.{length-replicate}
use Rattle.sz_base.specs.declared.evidence.Evidence.{Evidence}
use Rattle.sz_base.specs.declared.moment.Moment.{Moment}
use Rattle.sz_artifacts.specs.declared.conveyed.onboarding.BootImage.{BootImage}
use Rattle.sz_artifacts.specs.declared.conveyed.onboarding.Onboarding.{Onboarding}
use Rattle.sz_record.specs.declared.device.Device.{Device}
use Rattle.sz_record.specs.declared.device.Image.{Image}
use Rattle.sz_state.specs.Fitting.{Fits, FitsAs}
use Rattle.sz_state.specs.Step.{IsBooted, IsSatisfied, once_onboarded, with_image}
use Rattle.sz_offer.specs.Next.{AsCommitted, IsNext, NextFits, NextIsTooLarge, WithImage}

abbrev Commits : ℕ → Device → Onboarding → Moment → Evidence → Option ℕ → Type 0
Commits capacity device onboarding when evidence found = IsSatisfied device onboarding
    → FitsAs capacity (once_onboarded device onboarding when evidence) found

abbrev Installs : ℕ → Device → Onboarding → Moment → Evidence → Option ℕ → Type 0
Installs capacity device onboarding when evidence found = (boot : BootImage) (image : Image)
    → ¬ (IsSatisfied device onboarding) → onboarding.image ≡ Some boot → length image.hash ≡ 32 → image.when ≡ when
    → image.evidence ≡ evidence → FitsAs capacity (with_image device boot image) found

-- ---- it fits

fits_next : (capacity : ℕ) (device : Device) (onboarding : Onboarding) (when : Moment) (evidence : Evidence)
    → Commits capacity device onboarding when evidence None → Installs capacity device onboarding when evidence None
    → NextFits capacity device onboarding when evidence
fits_next capacity device onboarding when evidence commits installs next (inl is) =
    subst (λ (d : Device). Fits capacity d) (sym is.next_is) ((commits is.satisfied).none.0 refl)
fits_next capacity device onboarding when evidence commits installs next (inr is) =
    subst (λ (d : Device). Fits capacity d) (sym is.next_is)
    ((installs is.boot is.image is.unsatisfied is.named is.digest is.when_is is.evidence_is).none.0 refl)

pub next_fits : (ready capacity : ℕ) (device : Device) (onboarding : Onboarding) (when : Moment) (evidence : Evidence)
    (found : Option ℕ) → ready ≡ capacity → found ≡ None → Commits ready device onboarding when evidence found
    → Installs ready device onboarding when evidence found → NextFits capacity device onboarding when evidence
next_fits ready capacity device onboarding when evidence found same none commits installs =
    subst (λ (n : ℕ). NextFits n device onboarding when evidence) same
    (fits_next ready device onboarding when evidence
    (subst (λ (f : Option ℕ). Commits ready device onboarding when evidence f) none commits)
    (subst (λ (f : Option ℕ). Installs ready device onboarding when evidence f) none installs))

-- ---- it does not

too_large : (capacity : ℕ) (device : Device) (onboarding : Onboarding) (when : Moment) (evidence : Evidence) (size : ℕ)
    (next : Device) → IsNext device onboarding when evidence next → FitsAs capacity next (Some size)
    → NextIsTooLarge capacity device onboarding when evidence size
too_large capacity device onboarding when evidence size next is found = record {
  next = next;
  is_next = is;
  over = λ fits. let no : true ≡ false = found.none.1 fits in absurd (cc);
  size_is = found.some;
}

-- an image with some hash
some_image : Moment → Evidence → Image
some_image when evidence = record {
  area = 0;
  size = 0;
  hash = replicate 32 0;
  when = when;
  evidence = evidence;
}

needs_by : (device : Device) (image : Option BootImage) → ¬ (IfSome image (IsBooted device))
    → (boot : BootImage) × (image ≡ Some boot)
needs_by device None unsatisfied = absurd (unsatisfied tt)
needs_by device (Some boot) unsatisfied = (boot, refl)

-- information that is not satisfied names a boot image
pub needs_image : (device : Device) (onboarding : Onboarding) → ¬ (IsSatisfied device onboarding)
    → (boot : BootImage) × (onboarding.image ≡ Some boot)
needs_image device onboarding unsatisfied = needs_by device onboarding.image unsatisfied

install_too_large : (capacity : ℕ) (device : Device) (onboarding : Onboarding) (when : Moment) (evidence : Evidence)
    (size : ℕ) → ¬ (IsSatisfied device onboarding) → Installs capacity device onboarding when evidence (Some size)
    → NextIsTooLarge capacity device onboarding when evidence size
unfolding some_image
install_too_large capacity device onboarding when evidence size unsatisfied installs =
    let needs = needs_image device onboarding unsatisfied in
    let image = some_image when evidence in
    let digest : length image.hash ≡ 32 = length-replicate {A = ℕ} 32 0 in
    let is : WithImage device onboarding when evidence (with_image device needs.0 image) = record {
      unsatisfied = unsatisfied;
      boot = needs.0;
      named = needs.1;
      image = image;
      digest = digest;
      when_is = refl;
      evidence_is = refl;
      next_is = refl;
    } in
    too_large capacity device onboarding when evidence size (with_image device needs.0 image) (inr is)
    (installs needs.0 image unsatisfied needs.1 digest refl refl)

commit_too_large : (capacity : ℕ) (device : Device) (onboarding : Onboarding) (when : Moment) (evidence : Evidence)
    (size : ℕ) → IsSatisfied device onboarding → Commits capacity device onboarding when evidence (Some size)
    → NextIsTooLarge capacity device onboarding when evidence size
commit_too_large capacity device onboarding when evidence size satisfied commits =
    let is : AsCommitted device onboarding when evidence (once_onboarded device onboarding when evidence) =
    record { satisfied = satisfied; next_is = refl } in
    too_large capacity device onboarding when evidence size (once_onboarded device onboarding when evidence) (inl is)
    (commits satisfied)

by_test : (test : Bool) (capacity : ℕ) (device : Device) (onboarding : Onboarding) (when : Moment) (evidence : Evidence)
    (size : ℕ) → IsTrue test ↔ IsSatisfied device onboarding
    → Commits capacity device onboarding when evidence (Some size)
    → Installs capacity device onboarding when evidence (Some size)
    → NextIsTooLarge capacity device onboarding when evidence size
by_test true capacity device onboarding when evidence size is commits installs =
    commit_too_large capacity device onboarding when evidence size (is.0 refl) commits
by_test false capacity device onboarding when evidence size is commits installs =
    install_too_large capacity device onboarding when evidence size
    (λ satisfied. let no : false ≡ true = is.1 satisfied in absurd (cc)) installs

pub next_too_large : (test : Bool) (ready capacity : ℕ) (device : Device) (onboarding : Onboarding) (when : Moment)
    (evidence : Evidence) (found : Option ℕ) (size : ℕ) → ready ≡ capacity → found ≡ Some size
    → IsTrue test ↔ IsSatisfied device onboarding → Commits ready device onboarding when evidence found
    → Installs ready device onboarding when evidence found
    → NextIsTooLarge capacity device onboarding when evidence size
next_too_large test ready capacity device onboarding when evidence found size same some is commits installs =
    subst (λ (n : ℕ). NextIsTooLarge n device onboarding when evidence size) same
    (by_test test ready device onboarding when evidence size is
    (subst (λ (f : Option ℕ). Commits ready device onboarding when evidence f) some commits)
    (subst (λ (f : Option ℕ). Installs ready device onboarding when evidence f) some installs))
