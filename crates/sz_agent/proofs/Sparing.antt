-- Writes in the area that a device does not use, one after another.
use Rattle.std.proofs.Common.{◌≡◌, ℕ, List, ap, subst, ◌∙◌}
use Rattle.sz_base.specs.declared.moment.Moment.{Moment}
use Rattle.sz_disk.specs.Disk.{Seen, TornIn}
use Rattle.sz_disk.proofs.Moments.{quiet-none, still-torn, torn-torn}
use Rattle.sz_state.specs.Held.{IsHeld}
use Rattle.sz_state.specs.Layout.{area_place, space_of}
use Rattle.sz_state.specs.Step.{other_area}
use Rattle.sz_state.specs.declared.held.Held.{Held}
use Rattle.sz_offer.specs.Offer.{Looker}
use Rattle.sz_offer.specs.Trial.{looker_of, WritesSpare}
use Rattle.sz_io.specs.Folder.{FileMap}
use Rattle.sz_source.specs.declared.source.Source.{Source}
use Rattle.sz_agent.specs.Quest.{quest_of}

-- no call at all
pub spare-none : (disk : Seen) (held : Held) → IsHeld disk held → WritesSpare disk disk held
spare-none disk held is = record {
  torn = still-torn (area_place disk.size (other_area held.device.image)) (space_of disk.size) disk disk
      (quiet-none disk).still;
  found = is;
}

pub spare-spare : (first middle last : Seen) (held : Held) → WritesSpare first middle held → WritesSpare middle last held
    → WritesSpare first last held
spare-spare first middle last held a b =
    let area = other_area held.device.image in
    let P : ℕ → Type 0 = λ s. TornIn (area_place s area) (space_of s) middle last in
    record {
      torn = torn-torn (area_place first.size area) (space_of first.size) first middle last a.torn
          (subst P a.torn.size b.torn);
      found = b.found;
    }

-- who looks stays the same
pub looker-same : (old new : Seen) (held : Held) (when : Moment) → WritesSpare old new held
    → looker_of new held when ≡ looker_of old held when
looker-same old new held when spare =
    let R : ℕ → Looker = λ s. record { device = held.device; size = s; when = when } in ap R spare.torn.size

-- and so do the sources that are walked over, so that the quest does
pub quest-same : (old new : Seen) (held : Held) (when : Moment) (from sources : List Source) (files : FileMap)
    → WritesSpare old new held → sources ≡ from
    → quest_of (looker_of new held when) sources files ≡ quest_of (looker_of old held when) from files
quest-same old new held when from sources files spare same =
    ap (λ (l : Looker). quest_of l sources files) (looker-same old new held when spare)
    ∙ ap (λ (s : List Source). quest_of (looker_of old held when) s files) same
