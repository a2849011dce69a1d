use Rattle.std.proofs.Common.{◌≡◌, ℕ, List, length, Option, IfSome, IsNone, arith, refl, rules, subst}
use Rattle.sz_artifacts.specs.declared.conveyed.onboarding.BootImage.{BootImage}
use Rattle.sz_state.specs.Change.{HasShortNames}
use Rattle.sz_state.specs.Fitting.{Fits}
use Rattle.sz_state.specs.Step.{IsSatisfied, staged_image, with_image}
use Rattle.test_state.proofs.state.steps.put_in_place.Goals as goal

pub install-requires-clause-can : goal.install-requires-clause-can
install-requires-clause-can g c =
    let names = c.requires.names in
    let unsatisfied : ¬ (IsSatisfied c.args.held.device c.args.onboarding.now) = search rules in
    let none : IsNone c.fits.result = search rules in
    let long : length names.hash ≡ 32 =
    subst (λ (h : Option (List ℕ)). IfSome h (λ hash. length hash ≡ 32)) names.hashed
    (subst (λ (o : Option BootImage). IfSome o (λ boot. IfSome boot.hash (λ hash. length hash ≡ 32))) names.named c.requires.hash) in
    let image = staged_image c.args.staged names.hash c.moment-when.result c.in_ok-evidence.evidence in
    let fitting = c.fits.ensures.installs names.boot image unsatisfied names.named long refl refl in
    record {
      uncommitted = search rules;
      unsatisfied = unsatisfied;
      names = names;
      short = subst (λ (o : Option BootImage). IfSome o HasShortNames) names.named c.requires.short;
      area = c.requires.area;
      within = omega (arith, c.requires.size, c.requires.held.layout.least);
      fits = subst (λ (n : ℕ). Fits n (with_image c.args.held.device names.boot image)) c.requires.held.capacity (fitting.none.0 none);
    }
