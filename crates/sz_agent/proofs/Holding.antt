-- A device that was found on its disk, and the devices for which the disk's images stand.
use Rattle.std.proofs.Common.{◌≡◌, ℕ, List, length, sym, ap, subst, ◌∙◌, inl, inr}
use Rattle.sz_cell.specs.Meaning.{meaning, value}
use Rattle.sz_disk.specs.Disk.{IsLawful, Seen}
use Rattle.sz_disk.proofs.Moments.{length-left}
use Rattle.sz_record.specs.Stored.{IsStored}
use Rattle.sz_record.specs.declared.device.Device.{Device}
use Rattle.sz_state.specs.Held.{IsHeld}
use Rattle.sz_state.specs.Layout.{capacity_of, cell_place, space_of}
use Rattle.sz_state.specs.Ran.{NowStands}
use Rattle.sz_state.specs.Stands.{HasRecord, Stands}
use Rattle.sz_state.specs.declared.held.Held.{Held}
use Rattle.sz_agent.specs.Crash.{StandsForOne}

-- what `payloads_have_one_reading` of sz_record promises: a payload is the stored form of one device
abbrev pub OneReading : Type 0
OneReading = (space : ℕ) (payload : List ℕ) (device other : Device) → IsStored space payload device
    → IsStored space payload other → device ≡ other

-- an image has one record
pub record_once : OneReading → (image : List ℕ) (device other : Device) (sequence number : ℕ)
    → HasRecord image device sequence → HasRecord image other number → (device ≡ other) × (sequence ≡ number)
record_once one image device other sequence number a b =
    let same : value a.slot sequence a.payload ≡ value b.slot number b.payload = sym a.means ∙ b.means in
    let payload : a.payload ≡ b.payload = cc same in
    let numbers : sequence ≡ number = cc same in
    let stored : IsStored (space_of (length image)) b.payload device =
    subst (λ (p : List ℕ). IsStored (space_of (length image)) p device) payload a.stored in
    (one (space_of (length image)) b.payload device other stored b.stored, numbers)

-- each image that a crash now may leave has the record of the device that was found
pub held-record : (disk : Seen) (held : Held) (image : List ℕ) → IsLawful disk → IsHeld disk held → disk.leaves image
    → HasRecord image held.device held.ready.sequence
held-record disk held image lawful is left =
    let sized : length image ≡ disk.size = length-left disk lawful image left in
    let P : ℕ → Type 0 = λ s. IsStored (space_of s) is.payload held.device in
    record {
      slot = held.ready.slot;
      payload = is.payload;
      means = ap (λ s. meaning cell_place (capacity_of s) image) sized
          ∙ ap (λ a. meaning a (capacity_of disk.size) image) (sym is.at)
          ∙ ap (λ c. meaning held.ready.at c image) (sym is.capacity)
          ∙ is.ready.means image left;
      stored = subst P (sym sized) is.stored;
    }

-- where an image stands for one of two devices and has the record of a third, it stands for the third
pub stands_as : OneReading → (image : List ℕ) (device one other : Device) (sequence : ℕ) → HasRecord image device sequence
    → StandsForOne one other image → Stands image device
stands_as reading image device one other sequence has (inl stands) =
    subst (λ (d : Device). Stands image d)
    (record_once reading image one device stands.sequence sequence stands.record_is has).0 stands
stands_as reading image device one other sequence has (inr stands) =
    subst (λ (d : Device). Stands image d)
    (record_once reading image other device stands.sequence sequence stands.record_is has).0 stands

-- every image of a disk on which a device was found stands for it, where each stood for one of two devices
pub held-now_stands : OneReading → (disk : Seen) (held : Held) (one other : Device) → IsLawful disk → IsHeld disk held
    → ((image : List ℕ) → disk.leaves image → StandsForOne one other image) → NowStands disk held.device
held-now_stands reading disk held one other lawful is each image left =
    stands_as reading image held.device one other held.ready.sequence (held-record disk held image lawful is left)
    (each image left)
