-- The life of a device's disk: whatever boots and power cuts it lives through, it stands for what safe boots leave.
use Rattle.std.specs.Prelude.{◌≡◌, ◌⊎◌, ℕ, ◌≤◌, IsTrue, List, [], ◌∷◌, ◌++◌, Option, Some, None, is_some, count_by}
use Rattle.std.proofs.Common.{refl, sym, subst, ◌∙◌, inl, inr}
use Rattle.sz_base.specs.declared.identity.Identity.{Identity}
use Rattle.sz_disk.specs.Disk.{IsLawful, Seen}
use Rattle.sz_disk.proofs.Moments.{leaves-now}
use Rattle.sz_record.specs.declared.device.Device.{Device}
use Rattle.sz_state.specs.Stands.{Stands}
use Rattle.sz_state.specs.Step.{factory}
use Rattle.sz_step.specs.Boots.{Boot, commits, EachLeaves, Follow, IsSafe}
use Rattle.sz_step.specs.Lawful.{Lawful}
use Rattle.sz_agent.specs.Crash.{Changes, CrashOk, Outlasts, ReadsAs, StandsForEither, StandsForOne}
use Rattle.sz_agent.specs.Life.{ComesOfBoots, GoesOn, IsBoot, IsPoweredUp, left_by, Lives, Run}

-- ---- lists of boots

pub left-more : (first : Device) (boots : List Boot) (boot : Boot) → left_by first (boots ++ boot ∷ []) ≡ boot.after
left-more first [] boot = refl
left-more first (done ∷ boots) boot = left-more done.after boots boot

-- one safe boot more, which begins with what these left
pub follow-more : (first : Device) (boots : List Boot) (boot : Boot) → Follow first boots
    → boot.before ≡ left_by first boots → IsSafe boot → Follow first (boots ++ boot ∷ [])
follow-more first [] boot follow begins safe = (begins, safe, tt)
follow-more first (done ∷ boots) boot follow begins safe =
    (follow.0, follow.1, follow-more done.after boots boot follow.2 begins safe)

-- ---- what boots leave

-- safe boots from this first device leave that one
pub record IsLeft (first device : Device) : Type 0 where
  pub boots : List Boot
  pub follow : Follow first boots
  pub left : left_by first boots ≡ device

-- the disk tells its bytes, and each image stands for one of two devices that boots leave
pub record IsAlive (first : Device) (disk : Seen) : Type 0 where
  pub one : Device
  pub other : Device
  pub either : StandsForEither disk one other
  pub one_left : IsLeft first one
  pub other_left : IsLeft first other

left_after : (first : Device) (boot : Boot) → IsLeft first boot.before → IsSafe boot → IsLeft first boot.after
left_after first boot left safe = record {
  boots = left.boots ++ boot ∷ [];
  follow = follow-more first left.boots boot left.follow (sym left.left) safe;
  left = left-more first left.boots boot;
}

-- ---- as a boot begins

told_bytes : (reads : Option (List ℕ)) → IsTrue (is_some reads) → (bytes : List ℕ) × (reads ≡ Some bytes)
told_bytes None told = absurd (cc told)
told_bytes (Some bytes) told = (bytes, refl)

reads_by : (disk : Seen) (one other : Device) (bytes : List ℕ) → disk.reads ≡ Some bytes
    → StandsForOne one other bytes
    → ((sequence : ℕ) × ReadsAs disk one sequence) ⊎ ((sequence : ℕ) × ReadsAs disk other sequence)
reads_by disk one other bytes told (inl stands) = inl (
  stands.sequence,
  record { bytes = bytes; reads = told; record_is = stands.record_is },
)
reads_by disk one other bytes told (inr stands) = inr (
  stands.sequence,
  record { bytes = bytes; reads = told; record_is = stands.record_is },
)

-- a disk that tells its bytes and stands for one of two devices reads as one of them
reads_one : (disk : Seen) (one other : Device) → IsLawful disk → StandsForEither disk one other
    → ((sequence : ℕ) × ReadsAs disk one sequence) ⊎ ((sequence : ℕ) × ReadsAs disk other sequence)
reads_one disk one other lawful either =
    let told = told_bytes disk.reads either.tells in
    reads_by disk one other told.0 told.1
    (either.each told.0 (lawful.reads_as_left told.0 told.1))

swapped_one : (one other : Device) (image : List ℕ) → StandsForOne one other image → StandsForOne other one image
swapped_one one other image (inl stands) = inr stands
swapped_one one other image (inr stands) = inl stands

swapped : (disk : Seen) (one other : Device) → StandsForEither disk one other → StandsForEither disk other one
swapped disk one other either = record {
  tells = either.tells;
  each = λ image left. swapped_one one other image (either.each image left);
}

-- ---- what a boot leaves of the disk, cut off or not

stands_left : (first one other : Device) (image : List ℕ) → IsLeft first one → IsLeft first other
    → StandsForOne one other image → (device : Device) × IsLeft first device × Stands image device
stands_left first one other image left left_other (inl stands) = (one, left, stands)
stands_left first one other image left left_other (inr stands) = (other, left_other, stands)

module _ {D : Type 0} (seen : D → Seen) (lawful : (d : D) → IsLawful (seen d)) (first : Device) (run : Run D)
    (boot : Boot) (other : Device) (left_before : IsLeft first boot.before) (left_other : IsLeft first other)
    (left_boot : IsLeft first boot.after) where
  by_sync : (lasts : Outlasts seen run.old run.new boot other) (image : List ℕ)
      → (seen lasts.synced).since (seen run.old).moment image ⊎ StandsForOne boot.before boot.after image
      → (device : Device) × IsLeft first device × Stands image device
  by_sync lasts image (inl past) =
      stands_left first boot.before other image left_before left_other (lasts.until_sync.each image past)
  by_sync lasts image (inr stands) = stands_left first boot.before boot.after image left_before left_boot stands

  -- an image that was left at any moment since the boot began
  since_begun : CrashOk seen run.old run.new boot other → (image : List ℕ)
      → (seen run.new).since (seen run.old).moment image
      → (device : Device) × IsLeft first device × Stands image device
  since_begun (inr stays) image left =
      stands_left first boot.before other image left_before left_other (stays.still.each image left)
  since_begun (inl lasts) image left =
      by_sync lasts image (lasts.from_sync.before (seen run.old).moment image lasts.until_sync.later left)

  -- the disk as the boot left it
  as_left : CrashOk seen run.old run.new boot other → IsTrue (is_some (seen run.new).reads) → IsAlive first (seen run.new)
  as_left (inr stays) tells = record {
    one = boot.before;
    other = other;
    either = record {
      tells = tells;
      each = leaves-now (seen run.old) (seen run.new) (StandsForOne boot.before other) (lawful run.new) stays.still;
    };
    one_left = left_before;
    other_left = left_other;
  }
  as_left (inl lasts) tells = record {
    one = boot.before;
    other = boot.after;
    either = record {
      tells = tells;
      each = leaves-now (seen lasts.synced) (seen run.new) (StandsForOne boot.before boot.after) (lawful run.new)
          lasts.from_sync;
    };
    one_left = left_before;
    other_left = left_boot;
  }

  -- the disk with the one image that a cut left of it
  powered : CrashOk seen run.old run.new boot other → (next : Seen) → IsTrue (is_some next.reads)
      → IsPoweredUp (seen run.old) (seen run.new) next → IsAlive first next
  powered crash next tells up =
      let found = since_begun crash up.image up.left in
      record {
        one = found.0;
        other = found.0;
        either = record {
          tells = tells;
          each = λ image left.
              let same : up.image ≡ image = cc (sym up.reads ∙ up.settled image left) in
              inl (subst (λ (i : List ℕ). Stands i found.0) same found.2);
        };
        one_left = found.1;
        other_left = found.1;
      }

  pub alive_next : CrashOk seen run.old run.new boot other → (next : D) → IsTrue (is_some (seen next).reads)
      → GoesOn seen run next → IsAlive first (seen next)
  alive_next crash next tells (inl same) =
      subst (λ (d : D). IsAlive first (seen d)) (sym same)
      (as_left crash (subst (λ (d : D). IsTrue (is_some (seen d).reads)) same tells))
  alive_next crash next tells (inr up) = powered crash (seen next) tells up

-- ---- one boot after another

module _ {D : Type 0} (seen : D → Seen) (lawful : (d : D) → IsLawful (seen d)) (first : Device) where
  -- the disk reads as this device, and each image stands for it or for the other one
  booted : (run : Run D) (one other : Device) → StandsForEither (seen run.old) one other → IsLeft first one
      → IsLeft first other → Changes seen run.old run.new one → (next : D) → IsTrue (is_some (seen next).reads)
      → GoesOn seen run next → IsAlive first (seen next)
  booted run one other either left left_other changes next tells goes =
      let before : IsLeft first changes.boot.before = subst (λ (d : Device). IsLeft first d) (sym changes.begins) left in
      alive_next seen lawful first run changes.boot other before left_other
      (left_after first changes.boot before changes.safe) (changes.crash other either) next tells goes

  boot_on : (run : Run D) (alive : IsAlive first (seen run.old)) → IsBoot seen run
      → ((sequence : ℕ) × ReadsAs (seen run.old) alive.one sequence)
      ⊎ ((sequence : ℕ) × ReadsAs (seen run.old) alive.other sequence)
      → (next : D) → IsTrue (is_some (seen next).reads) → GoesOn seen run next → IsAlive first (seen next)
  boot_on run alive is (inl reads) next tells goes =
      booted run alive.one alive.other alive.either alive.one_left alive.other_left (is alive.one reads.0 reads.1) next
      tells goes
  boot_on run alive is (inr reads) next tells goes =
      booted run alive.other alive.one (swapped (seen run.old) alive.one alive.other alive.either) alive.other_left
      alive.one_left (is alive.other reads.0 reads.1) next tells goes

  alive_on : (runs : List (Run D)) (start last : D) → IsAlive first (seen start) → Lives seen start runs last
      → IsAlive first (seen last)
  alive_on [] start last alive lives = subst (λ (d : D). IsAlive first (seen d)) (sym lives) alive
  alive_on (run ∷ runs) start last alive lives =
      let begun : IsAlive first (seen run.old) = subst (λ (d : D). IsAlive first (seen d)) (sym lives.0) alive in
      let next = lives.2 in
      alive_on runs next.0 last
      (boot_on run begun lives.1 (reads_one (seen run.old) begun.one begun.other (lawful run.old) begun.either) next.0
      next.1 next.2)
      next.3

-- ---- the law

lawful_left : (first : Device) (boots : List Boot) → Lawful first → EachLeaves Lawful boots → Lawful (left_by first boots)
lawful_left first [] lawful each = lawful
lawful_left first (boot ∷ boots) lawful each = lawful_left boot.after boots each.0 each.1

-- from what the laws of sz_step promise of every list of boots
pub comes_of_boots : {D : Type 0} (seen : D → Seen) → ((d : D) → IsLawful (seen d)) → (identity : Identity)
    → Lawful (factory identity)
    → ((boots : List Boot) → Follow (factory identity) boots → EachLeaves Lawful boots)
    → ((boots : List Boot) → Follow (factory identity) boots → count_by commits boots ≤ 1) → (start last : D)
    → (runs : List (Run D)) (image : List ℕ) → StandsForEither (seen start) (factory identity) (factory identity)
    → Lives seen start runs last → (seen last).leaves image → ComesOfBoots identity image
comes_of_boots seen lawful identity made each once start last runs image either lives left =
    let first = factory identity in
    let unbooted : IsLeft first first = record { boots = []; follow = tt; left = refl } in
    let begun : IsAlive first (seen start) = record {
      one = first;
      other = first;
      either = either;
      one_left = unbooted;
      other_left = unbooted;
    } in
    let alive = alive_on seen lawful first runs start last begun lives in
    let found = stands_left first alive.one alive.other image alive.one_left alive.other_left (alive.either.each image left) in
    record {
      boots = found.1.boots;
      follow = found.1.follow;
      stands = subst (λ (d : Device). Stands image d) (sym found.1.left) found.2;
      lawful = lawful_left first found.1.boots made (each found.1.boots found.1.follow);
      once = once found.1.boots found.1.follow;
    }
