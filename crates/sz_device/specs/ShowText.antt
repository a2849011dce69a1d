-- The lines that show a device, each with its LF.
use Rattle.std.specs.Prelude.{ℕ, List, [], ◌∷◌, ◌++◌, codes, length, Option, Some, None, option_and_then}
use Rattle.std.specs.Fmt.{decimal}
use Rattle.hex.specs.Hex.{encode_lower}
use Rattle.sha2.specs.Sha256.{sha256}
use Rattle.sz_record.specs.Device.{stage_of}
use Rattle.sz_record.specs.declared.device.Committed.{Committed}
use Rattle.sz_record.specs.declared.device.Device.{Device}
use Rattle.sz_record.specs.declared.device.Image.{Image}
use Rattle.sz_record.specs.declared.device.Stage.{Stage}
use Rattle.sz_record.specs.declared.device.Stage.TheVariants.{Factory, Installed, Onboarded}

abbrev pub stage_word : Stage → List ℕ
stage_word Factory = codes "factory"
stage_word Installed = codes "installed"
stage_word Onboarded = codes "onboarded"

abbrev pub serial_line : Device → List ℕ
serial_line device = codes "serial " ++ device.identity.serial ++ 10 ∷ []

abbrev pub stage_line : Device → List ℕ
stage_line device = codes "stage " ++ stage_word (stage_of device) ++ 10 ∷ []

abbrev pub running_line : Device → List ℕ
running_line device =
    codes "running " ++ device.running_name ++ codes " " ++ device.running_version ++ 10 ∷ []

-- a SHA-256 in lower-case hexadecimal digits
abbrev pub hash_text : List ℕ → List ℕ
hash_text hash = encode_lower hash

-- the line of an image, where there is one
abbrev pub image_line : Option Image → List ℕ
image_line None = []
image_line (Some image) =
    codes "image " ++ decimal image.area ++ codes " " ++ decimal image.size ++ codes " " ++ hash_text image.hash
    ++ 10 ∷ []

-- the configuration to which a device was committed, if it was committed to one
abbrev pub configuration_of : Option Committed → Option (List ℕ)
configuration_of onboarded = option_and_then (λ committed. committed.configuration) onboarded

-- the line of a configuration, where there is one
abbrev pub configuration_line : Option (List ℕ) → List ℕ
configuration_line None = []
configuration_line (Some bytes) =
    codes "configuration " ++ decimal (length bytes) ++ codes " " ++ hash_text (sha256 bytes) ++ 10 ∷ []

abbrev pub show_text : Device → List ℕ
show_text device =
    serial_line device ++ stage_line device ++ running_line device ++ image_line device.image
    ++ configuration_line (configuration_of device.onboarded)
