-- What `show @DISK` comes to, over the disks before and after.
use Rattle.std.specs.Prelude.{◌≡◌, ℕ, List, Option, Result}
use Rattle.sz_commands.specs.Failure.{Failure}
use Rattle.sz_device.specs.Looked.{LooksUnder}
use Rattle.sz_device.specs.ShowText.{show_text}
use Rattle.sz_disk.specs.Disk.{Seen}
use Rattle.sz_record.specs.declared.device.Device.{Device}

-- The lines that show the device, or a failure.
abbrev pub Answer : Type 0
Answer = Result (List ℕ) Failure

-- the text is that of the device
abbrev pub Shows : Option (List ℕ) → Device → List ℕ → Type 0
Shows reads device text = text ≡ show_text device

abbrev pub ShowRan : {D : Type 0} → (D → Seen) → List ℕ → List (List ℕ × D) → List (List ℕ × D) → Answer → Type 0
ShowRan seen word before after answer = LooksUnder seen Shows word before after answer
