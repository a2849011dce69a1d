-- What holds of every list of boots that follows on a device.
use Rattle.std.specs.Prelude.{◌≡◌, ◌≢◌, ℕ, ◌+◌, ◌≤◌, Bool, true, false, cond, not, ◌&&◌, List, [], ◌∷◌, None, Option, is_some, count_by}
use Rattle.std.proofs.Common.{refl, sym, subst, ap, ◌∙◌, arith}
use Rattle.std.proofs.lemmas.List.Sums.{sum_by-cons}
use mathlib.Core.Logic.{inl, inr}
use Rattle.sz_base.specs.declared.identity.Identity.{Identity}
use Rattle.sz_record.specs.declared.device.Device.{Device}
use Rattle.sz_step.specs.Boots.{Boot, EachLeaves, Follow, IsSafe, commits}
use Rattle.sz_step.specs.Lawful.{Lawful}
use Rattle.sz_step.proofs.Stepping.{no_step, step_identity, step_lawful}

-- ---- what each boot leaves

safe_lawful : (boot : Boot) → IsSafe boot → Lawful boot.before → Lawful boot.after
safe_lawful boot (inl same) lawful = subst (λ (device : Device). Lawful device) (sym same) lawful
safe_lawful boot (inr step) lawful = step_lawful boot.before boot.when boot.evidence boot.after lawful step

safe_identity : (boot : Boot) → IsSafe boot → boot.after.identity ≡ boot.before.identity
safe_identity boot (inl same) = ap (λ (device : Device). device.identity) same
safe_identity boot (inr step) = step_identity boot.before boot.when boot.evidence boot.after step

pub follow_lawful : (first : Device) (boots : List Boot) → Lawful first → Follow first boots → EachLeaves Lawful boots
follow_lawful first [] lawful follow = tt
follow_lawful first (boot ∷ boots) lawful follow =
    let before : Lawful boot.before = subst (λ (device : Device). Lawful device) (sym follow.0) lawful in
    let after : Lawful boot.after = safe_lawful boot follow.1 before in
    (after, follow_lawful boot.after boots after follow.2)

pub follow_identity : (identity : Identity) (first : Device) (boots : List Boot) → first.identity ≡ identity
    → Follow first boots → EachLeaves (λ device. device.identity ≡ identity) boots
follow_identity identity first [] same follow = tt
follow_identity identity first (boot ∷ boots) same follow =
    let before : boot.before.identity ≡ identity = ap (λ (device : Device). device.identity) follow.0 ∙ same in
    let after : boot.after.identity ≡ identity = safe_identity boot follow.1 ∙ before in
    (after, follow_identity identity boot.after boots after follow.2)

-- ---- how many boots commit

-- 1 where the device is committed
abbrev committed : Device → ℕ
committed device = cond (is_some device.onboarded) 1 0

is_none_of : {T : Type 0} (held : Option T) → is_some held ≡ true → held ≢ None
is_none_of held some none = let no : is_some held ≡ false = ap is_some none in absurd (cc (some, no))

-- a boot leaves a committed device committed
stays_committed : (boot : Boot) → IsSafe boot → is_some boot.before.onboarded ≡ true
    → is_some boot.after.onboarded ≡ true
stays_committed boot (inl same) some = ap (λ (device : Device). is_some device.onboarded) same ∙ some
stays_committed boot (inr step) some =
    absurd (no_step boot.before boot.when boot.evidence boot.after (is_none_of boot.before.onboarded some) step)

one_of : (before after : Bool) → (before ≡ true → after ≡ true)
    → cond (not before && after) 1 0 + cond before 1 0 ≤ cond after 1 0
one_of true after stays = rw (stays refl) (omega arith)
one_of false after stays = omega arith

boot_counts : (boot : Boot) → IsSafe boot
    → cond (commits boot) 1 0 + committed boot.before ≤ committed boot.after
boot_counts boot safe =
    one_of (is_some boot.before.onboarded) (is_some boot.after.onboarded) (stays_committed boot safe)

count_cons : (boot : Boot) (boots : List Boot)
    → count_by commits (boot ∷ boots) ≡ cond (commits boot) 1 0 + count_by commits boots
count_cons boot boots = sum_by-cons (λ (boot : Boot). cond (commits boot) 1 0) boot boots

at_most_one : (b : Bool) → cond b 1 0 ≤ 1
at_most_one true = omega arith
at_most_one false = omega arith

-- with the device as it is at first, there is at most one commitment
pub follow_once : (first : Device) (boots : List Boot) → Follow first boots
    → count_by commits boots + committed first ≤ 1
follow_once first [] follow = omega (arith, at_most_one (is_some first.onboarded))
follow_once first (boot ∷ boots) follow =
    let same : committed boot.before ≡ committed first = ap (λ (device : Device). committed device) follow.0 in
    omega (arith, count_cons boot boots, same, boot_counts boot follow.1, follow_once boot.after boots follow.2)
