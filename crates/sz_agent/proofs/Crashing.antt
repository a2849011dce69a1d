-- What a boot leaves of the disk, over every crash.
use Rattle.std.proofs.Common.{◌≡◌, true, sym, subst, inl, inr}
use Rattle.sz_disk.specs.Disk.{IsLawful, IsStill, LeavesOnly, Seen}
use Rattle.sz_disk.proofs.Moments.{leaves-both_runs, leaves-now, leaves-weaker, still-leaves}
use Rattle.sz_record.specs.declared.device.Device.{Device}
use Rattle.sz_state.specs.Held.{IsHeld}
use Rattle.sz_state.specs.Ran.{NowStands}
use Rattle.sz_state.specs.Stands.{Stands}
use Rattle.sz_state.specs.declared.held.Held.{Held}
use Rattle.sz_state.proofs.Elsewhere.{stands-elsewhere}
use Rattle.sz_step.specs.Boots.{Boot}
use Rattle.sz_offer.specs.Trial.{WritesSpare}
use Rattle.sz_agent.specs.Choice.{is_changed, StandsOn}
use Rattle.sz_agent.specs.Crash.{CrashOk, StandsForEither, StandsForOne}
use Rattle.sz_agent.specs.declared.report.Outcome.{Outcome}
use Rattle.sz_agent.proofs.Holding.{held-now_stands, OneReading}

-- calls that wrote nothing leave what stood for one of two devices
pub stays-one : (old new : Seen) (one other : Device) → IsLawful old → StandsForEither old one other → IsStill old new
    → LeavesOnly old new (StandsForOne one other)
stays-one old new one other lawful either still =
    leaves-weaker old new old.leaves (StandsForOne one other) either.each (still-leaves old new lawful still)

-- a boot that ended where nothing had been written, and changed nothing
pub stays-ok : {D : Type 0} (seen : D → Seen) → ((d : D) → IsLawful (seen d)) → (old new : D) (boot : Boot) (other : Device)
    → StandsForEither (seen old) boot.before other → IsStill (seen old) (seen new) → boot.after ≡ boot.before
    → CrashOk seen old new boot other
stays-ok seen lawful old new boot other either still same =
    inr (record { still = stays-one (seen old) (seen new) boot.before other (lawful old) either still; same = same })

-- every image of the disk stands for the device that was found, once the first sync returned
pub synced-stands : {D : Type 0} (seen : D → Seen) → ((d : D) → IsLawful (seen d)) → (old synced : D) (held : Held)
    (other : Device) → OneReading → IsStill (seen old) (seen synced) → IsHeld (seen synced) held
    → StandsForEither (seen old) held.device other → NowStands (seen synced) held.device
synced-stands seen lawful old synced held other reading still is either =
    held-now_stands reading (seen synced) held held.device other (lawful synced) is
    (λ image left. either.each image (still.crash image left))

-- from the first sync to the end of the walk
pub walked-stands : (synced walked : Seen) (held : Held) → IsLawful synced → NowStands synced held.device
    → WritesSpare synced walked held → LeavesOnly synced walked (λ image. Stands image held.device)
walked-stands synced walked held lawful stands spare =
    stands-elsewhere synced walked held.device lawful stands spare.torn

-- A boot that found its device: the disk was attached, then written in the spare area alone, then changed by the
-- choice.
pub outlasts-ok : {D : Type 0} (seen : D → Seen) → ((d : D) → IsLawful (seen d)) → (old synced walked new : D) (held : Held)
    (boot : Boot) (other : Device) (ended : Outcome) → OneReading → boot.before ≡ held.device
    → IsStill (seen old) (seen synced) → IsHeld (seen synced) held → WritesSpare (seen synced) (seen walked) held
    → (NowStands (seen walked) held.device → StandsOn (seen walked) (seen new) held.device boot.after ended)
    → StandsForEither (seen old) boot.before other → CrashOk seen old new boot other
outlasts-ok seen lawful old synced walked new held boot other ended reading begins still is spare change either =
    let held_either : StandsForEither (seen old) held.device other =
    subst (λ (d : Device). StandsForEither (seen old) d other) begins either in
    let stands = synced-stands seen lawful old synced held other reading still is held_either in
    let walk = walked-stands (seen synced) (seen walked) held (lawful synced) stands spare in
    let now = leaves-now (seen synced) (seen walked) (λ image. Stands image held.device) (lawful walked) walk in
    let one : LeavesOnly (seen synced) (seen walked) (StandsForOne held.device boot.after) =
    leaves-weaker (seen synced) (seen walked) (λ image. Stands image held.device) (StandsForOne held.device boot.after)
    (λ image stands. inl stands) walk in
    let all : LeavesOnly (seen synced) (seen new) (StandsForOne held.device boot.after) =
    leaves-both_runs (seen synced) (seen walked) (seen new) (StandsForOne held.device boot.after) one (change now).any_moment in
    inl (record {
      synced = synced;
      until_sync = stays-one (seen old) (seen synced) boot.before other (lawful old) either still;
      from_sync = subst (λ (d : Device). LeavesOnly (seen synced) (seen new) (StandsForOne d boot.after)) (sym begins) all;
    })

-- Every image stands for the device after, where the disk did not fail: the device was changed, or the disk was not called
-- and the boot changed nothing.
pub one-changed : (walked new : Seen) (held : Held) (next : Device) (ended : Outcome) → is_changed ended ≡ true
    → NowStands walked held.device → (NowStands walked held.device → StandsOn walked new held.device next ended)
    → NowStands new next
one-changed walked new held next ended changed stands change = (change stands).changed changed

pub one-untouched : {D : Type 0} (seen : D → Seen) (walked new : D) (held : Held) (after : Device) → new ≡ walked
    → after ≡ held.device → NowStands (seen walked) held.device → NowStands (seen new) after
one-untouched seen walked new held after same is stands =
    subst (λ (d : Device). NowStands (seen new) d) (sym is)
    (subst (λ d. NowStands (seen d) held.device) (sym same) stands)
