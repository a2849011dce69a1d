-- What comes between two runs on a disk, for other crates too: what it tells of the images that a crash may leave.
use Rattle.std.proofs.Common.{◌≡◌, ◌⊎◌, ℕ, ◌≤◌, List, [], Some, is_some, refl, sym, ap, subst, inl, inr, ⊎_elim}
use Rattle.std.proofs.lemmas.List.{ext_get_or}
use Rattle.sz_disk.specs.Between.{GoesOn, Killed, PoweredUp}
use Rattle.sz_disk.specs.Disk.{Seen, IsLawful, IsStill, LeavesOnly}
use Rattle.sz_disk.specs.Event.{Leaves, seen_after}
use Rattle.sz_disk.proofs.Moments.{counts_now, quiet-none}
use Rattle.sz_disk.specs.declared.event.Event.{Event}

-- nothing at all came between
pub still-none : (disk : Seen) → IsStill disk disk
still-none disk = (quiet-none disk).still

pub goes_on-none : (old last : Seen) → GoesOn old last last
goes_on-none old last = inl (still-none last)

-- a run that was broken off was so since each earlier moment
pub killed-earlier : (old middle last next : Seen) → IsLawful last → old.moment ≤ middle.moment → Killed middle last next
    → Killed old last next
killed-earlier old middle last next lawful le killed = record {
  size = killed.size;
  told = killed.told;
  left = λ image left. lawful.earlier old.moment middle.moment image le (killed.left image left);
}

pub powered_up-earlier : (old middle last next : Seen) → IsLawful last → old.moment ≤ middle.moment → PoweredUp middle last next
    → PoweredUp old last next
powered_up-earlier old middle last next lawful le up = record {
  killed = killed-earlier old middle last next lawful le up.killed;
  settled = up.settled;
}

pub goes_on-earlier : (old middle last next : Seen) → IsLawful last → old.moment ≤ middle.moment → GoesOn middle last next
    → GoesOn old last next
goes_on-earlier old middle last next lawful le goes =
    ⊎_elim
    (λ still. inl still)
    (λ off. inr (⊎_elim
    (λ up. inl (powered_up-earlier old middle last next lawful le up))
    (λ killed. inr (killed-earlier old middle last next lawful le killed))
    off))
    goes

-- each image that a crash may leave then is one that a crash since the run began might have left
pub goes_on-left : (old last next : Seen) → IsLawful last → old.moment ≤ last.moment → GoesOn old last next
    → (image : List ℕ) → next.leaves image → last.since old.moment image
goes_on-left old last next lawful later goes image left =
    ⊎_elim
    (λ still. counts_now last lawful old.moment image later (still.crash image left))
    (λ off. ⊎_elim (λ up. up.killed.left image left) (λ killed. killed.left image left) off)
    goes

-- so what holds at each moment of the run holds of each of them
pub goes_on-only : (old last next : Seen) (P : List ℕ → Type 0) → IsLawful last → LeavesOnly old last P → GoesOn old last next
    → (image : List ℕ) → next.leaves image → P image
goes_on-only old last next P lawful only goes image left =
    only.each image (goes_on-left old last next lawful only.later goes image left)

-- the size stays, and whether the disk tells its bytes
pub goes_on-size : (old last next : Seen) → GoesOn old last next → next.size ≡ last.size
goes_on-size old last next goes =
    ⊎_elim (λ still. still.size) (λ off. ⊎_elim (λ up. up.killed.size) (λ killed. killed.size) off) goes

pub goes_on-told : (old last next : Seen) → GoesOn old last next → is_some next.reads ≡ is_some last.reads
goes_on-told old last next goes =
    ⊎_elim (λ still. still.told) (λ off. ⊎_elim (λ up. up.killed.told) (λ killed. killed.told) off) goes

-- ---- a disk in memory

-- with an empty record a crash leaves what a read gives
alone : (bytes image : List ℕ) → Leaves bytes [] image → image ≡ bytes
alone bytes image left = ext_get_or 0 image bytes left.size (λ i lt. left.kept i refl)

-- a disk that has one of the images that a crash may leave, and an empty record, was powered up
pub powered_up-fresh : (bytes picked : List ℕ) (events : List Event) (faults faults' : ℕ) → IsLawful (seen_after bytes events faults)
    → Leaves bytes events picked → PoweredUp (seen_after bytes events faults) (seen_after bytes events faults) (seen_after picked [] faults')
powered_up-fresh bytes picked events faults faults' lawful left = record {
  killed = record {
    size = left.size;
    told = refl;
    left = λ image here. (lawful.now image).0 (subst (Leaves bytes events) (sym (alone picked image here)) left);
  };
  settled = λ image here. ap Some (sym (alone picked image here));
}
