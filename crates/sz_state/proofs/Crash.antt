-- What a crash leaves of a device's disk.
use Rattle.std.proofs.Common.{◌≡◌, ℕ, ◌≤◌, List, length, Option, Some, None, IfSome, refl, sym, ap, subst, ◌∙◌, inl, inr}
use Rattle.sz_base.specs.declared.identity.Identity.{Identity}
use Rattle.sz_disk.specs.Disk.{Seen, IsLawful, IsQuiet, IsSynced, LeavesOnly}
use Rattle.sz_disk.proofs.Moments.{quiet-quiet, settled-quiet, leaves-both_facts, leaves-weaker}
use Rattle.sz_cell.specs.Cell.{IsReady, Kept, Means, WhereReadsTold}
use Rattle.sz_cell.specs.Meaning.{value, meaning}
use Rattle.sz_cell.specs.Transition.{MeansAsBeforeOr}
use Rattle.sz_cell.proofs.States.{untold}
use Rattle.sz_record.specs.Spelling.{new_version, record_bytes}
use Rattle.sz_record.specs.Stored.{HasWidths, IsStored, IsStorable}
use Rattle.sz_record.specs.declared.device.Device.{Device}
use Rattle.sz_state.specs.Layout.{HasLayout, capacity_of, cell_place, space_of}
use Rattle.sz_state.specs.Ran.{AsBeforeOrStands, NowStandsAnew}
use Rattle.sz_state.specs.Stands.{HasImage, HasRecord, Stands, StandsAnew}
use Rattle.sz_state.specs.Step.{factory}

-- images whose cell has this value
pub has_record_by : (size : ℕ) (image : List ℕ) (device : Device) (slot sequence : ℕ) (payload : List ℕ) → length image ≡ size
    → meaning cell_place (capacity_of size) image ≡ value slot sequence payload → IsStored (space_of size) payload device
    → HasRecord image device sequence
has_record_by size image device slot sequence payload sized means stored =
    let Q : ℕ → Type 0 = λ s. meaning cell_place (capacity_of s) image ≡ value slot sequence payload in
    let R : ℕ → Type 0 = λ s. IsStored (space_of s) payload device in
    record { slot = slot; payload = payload; means = subst Q (sym sized) means; stored = subst R (sym sized) stored }

-- and whose area has the image
pub stands_by : (size : ℕ) (image : List ℕ) (device : Device) (slot sequence : ℕ) (payload : List ℕ) → HasLayout size
    → length image ≡ size → meaning cell_place (capacity_of size) image ≡ value slot sequence payload
    → IsStored (space_of size) payload device → IfSome device.image (HasImage image) → Stands image device
stands_by size image device slot sequence payload has sized means stored in_area =
    let P : ℕ → Type 0 = λ s. HasLayout s in
    record {
      layout = subst P (sym sized) has;
      sequence = sequence;
      record_is = has_record_by size image device slot sequence payload sized means stored;
      in_area = in_area;
    }

-- and whose payload is the form of version 2
pub anew_by : (size : ℕ) (image : List ℕ) (device : Device) (slot sequence : ℕ) (payload : List ℕ) → HasLayout size
    → length image ≡ size → meaning cell_place (capacity_of size) image ≡ value slot sequence payload
    → IsStored (space_of size) payload device → IfSome device.image (HasImage image)
    → payload ≡ record_bytes new_version device → StandsAnew image device
anew_by size image device slot sequence payload has sized means stored in_area written =
    let P : ℕ → Type 0 = λ s. HasLayout s in
    let Q : ℕ → Type 0 = λ s. meaning cell_place (capacity_of s) image ≡ value slot sequence payload in
    let R : ℕ → Type 0 = λ s. IsStored (space_of s) payload device in
    record {
      stands = record {
        layout = subst P (sym sized) has;
        sequence = sequence;
        record_is = record {
          slot = slot;
          payload = payload;
          means = subst Q (sym sized) means;
          stored = subst R (sym sized) stored;
        };
        in_area = in_area;
      };
      written = written;
    }

-- each image that a crash might have left has the disk's size
pub leaves-sized : (old new : Seen) → IsLawful new → new.size ≡ old.size → old.moment ≤ new.moment
    → LeavesOnly old new (λ image. length image ≡ old.size)
leaves-sized old new lawful size later = record {
  later = later;
  each = λ image left. lawful.sized old.moment image left ∙ size;
  before = λ t image le left. inr (lawful.sized t image left ∙ size);
}

-- the first record is the stored form of the device as it is made
pub first_stored : (space : ℕ) (identity : Identity) (payload : List ℕ)
    → payload ≡ record_bytes new_version (factory identity) → IsStorable new_version (factory identity)
    → HasWidths (factory identity) → IsStored space payload (factory identity)
first_stored space identity payload first storable widths = record {
  version = new_version;
  known = inr refl;
  spelled = first;
  storable = storable;
  within = tt;
  widths = widths;
}

-- the region as the disk is made
pub initial-any_moment : (old new : Seen) (identity : Identity) (payload : List ℕ) → IsLawful new
    → new.size ≡ old.size → HasLayout old.size → IsStored (space_of old.size) payload (factory identity)
    → payload ≡ record_bytes new_version (factory identity)
    → LeavesOnly old new (MeansAsBeforeOr cell_place (capacity_of old.size) old.leaves (value 0 1 payload))
    → LeavesOnly old new (AsBeforeOrStands old (factory identity))
initial-any_moment old new identity payload lawful size has stored first leaves =
    leaves-weaker old new _ (AsBeforeOrStands old (factory identity))
    (λ image both. initial-image image both.0 both.1)
    (leaves-both_facts old new _ _ leaves (leaves-sized old new lawful size leaves.later))
  where
    initial-image : (image : List ℕ)
        → MeansAsBeforeOr cell_place (capacity_of old.size) old.leaves (value 0 1 payload) image
        → length image ≡ old.size → AsBeforeOrStands old (factory identity) image
    initial-image image (inl before) sized = inl before
    initial-image image (inr means) sized =
        inr (anew_by old.size image (factory identity) 0 1 payload has sized means stored tt first)

-- what an image means in the cell's place
ready-means : (size : ℕ) (kept : Kept) (payload image : List ℕ) → kept.at ≡ cell_place → kept.capacity ≡ capacity_of size
    → Means kept payload image → meaning cell_place (capacity_of size) image ≡ value kept.slot kept.sequence payload
ready-means size kept payload image at capacity means =
    ap (λ a. meaning a (capacity_of size) image) (sym at) ∙ ap (λ c. meaning kept.at c image) (sym capacity) ∙ means

-- a cell that is ready has its record in every image
pub ready-record : (disk : Seen) (size : ℕ) (device : Device) (kept : Kept) (payload : List ℕ) → IsLawful disk
    → disk.size ≡ size → kept.at ≡ cell_place → kept.capacity ≡ capacity_of size → IsReady disk kept payload
    → IsStored (space_of size) payload device → (image : List ℕ) → disk.leaves image → HasRecord image device kept.sequence
ready-record disk size device kept payload lawful same at capacity ready stored image left =
    let sized : length image ≡ size = lawful.sized disk.moment image ((lawful.now image).0 left) ∙ same in
    let means = ready-means size kept payload image at capacity (ready.means image left) in
    has_record_by size image device kept.slot kept.sequence payload sized means stored

-- a cell that is ready with a record that was written
pub ready-anew : (disk : Seen) (size : ℕ) (device : Device) (kept : Kept) (payload : List ℕ) → IsLawful disk
    → disk.size ≡ size → HasLayout size → kept.at ≡ cell_place → kept.capacity ≡ capacity_of size
    → IsReady disk kept payload → IsStored (space_of size) payload device → payload ≡ record_bytes new_version device
    → ((image : List ℕ) → disk.leaves image → IfSome device.image (HasImage image)) → NowStandsAnew disk device
ready-anew disk size device kept payload lawful same has at capacity ready stored written in_area image left =
    let sized : length image ≡ size = lawful.sized disk.moment image ((lawful.now image).0 left) ∙ same in
    let means = ready-means size kept payload image at capacity (ready.means image left) in
    anew_by size image device kept.slot kept.sequence payload has sized means stored (in_area image left) written

-- a disk that tells nothing is ready with anything of this length
pub ready_untold : (disk : Seen) (kept : Kept) (payload : List ℕ) → IsLawful disk → disk.reads ≡ None
    → length payload ≡ kept.size → IsReady disk kept payload
ready_untold disk kept payload lawful none size = record {
  same = λ image left. absurd (untold disk lawful none image left);
  means = λ image left. absurd (untold disk lawful none image left);
  size = size;
}

-- what was read of the payload is the payload, where it is told
pub ready_read : (disk : Seen) (reads : Option (List ℕ)) (kept : Kept) (payload read : List ℕ) → IsLawful disk
    → disk.reads ≡ reads → WhereReadsTold reads (read ≡ payload) → IsReady disk kept payload → length read ≡ kept.size
    → IsReady disk kept read
ready_read disk None kept payload read lawful is told ready size = ready_untold disk kept read lawful is size
ready_read disk (Some bytes) kept payload read lawful is told ready size =
    subst (λ p. IsReady disk kept p) (sym told) ready

-- a sync, and then reads
pub synced_on : (first middle last : Seen) → IsSynced first middle → IsQuiet middle last → IsSynced first last
synced_on first middle last sync quiet = record {
  quiet = quiet-quiet first middle last sync.quiet quiet;
  settled = settled-quiet middle last sync.settled quiet;
}
