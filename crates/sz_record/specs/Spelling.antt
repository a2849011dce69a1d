-- The stored form of a device, spelled.
use Rattle.std.specs.Prelude.{ℕ, ℤ, ◌==◌, if◌then◌else◌, List, [], ◌∷◌, ◌++◌, length, Option, Some, None}
use Rattle.std.specs.Int.{w16, w32, w64, to_be_bytes, cast_unsigned}
use Rattle.std.specs.List.{concat, flat_map}
use Rattle.sz_base.specs.declared.evidence.Evidence.{Evidence}
use Rattle.sz_base.specs.declared.identity.Identity.{Identity}
use Rattle.sz_base.specs.declared.moment.Moment.{Moment}
use Rattle.sz_artifacts.specs.declared.conveyed.onboarding.Handling.{Handling}
use Rattle.sz_artifacts.specs.declared.conveyed.onboarding.Handling.TheVariants.{Merge, Replace}
use Rattle.sz_record.specs.declared.device.Committed.{Committed}
use Rattle.sz_record.specs.declared.device.Device.{Device}
use Rattle.sz_record.specs.declared.device.Image.{Image}

-- the versions of the form; the older one has no nonces
abbrev pub old_version : ℕ
old_version = 1

abbrev pub new_version : ℕ
new_version = 2

-- bytes behind their number in two bytes, and in four
unfoldable pub text_bytes : List ℕ → List ℕ
text_bytes text = to_be_bytes w16 (length text) ++ text

unfoldable pub long_bytes : List ℕ → List ℕ
long_bytes long = to_be_bytes w32 (length long) ++ long

-- 0, or 1 and what is there
unfoldable pub optional_bytes : {T : Type 0} → (T → List ℕ) → Option T → List ℕ
optional_bytes spelled None = 0 ∷ []
optional_bytes spelled (Some value) = 1 ∷ spelled value

-- the number of certificates, and each of them
unfoldable pub anchors_bytes : List (List ℕ) → List ℕ
anchors_bytes anchors = length anchors ∷ flat_map long_bytes anchors

unfoldable pub identity_bytes : Identity → List ℕ
identity_bytes identity = concat (
    text_bytes identity.serial
    ∷ text_bytes identity.os_name
    ∷ text_bytes identity.os_version
    ∷ anchors_bytes identity.anchors
    ∷ [])

-- a time, as the two's complement of its seconds
unfoldable pub time_bytes : ℤ → List ℕ
time_bytes seconds = to_be_bytes w64 (cast_unsigned w64 seconds)

-- nothing in the older version
unfoldable pub nonce_bytes : ℕ → Option (List ℕ) → List ℕ
nonce_bytes version nonce = if version == old_version then [] else optional_bytes (λ drawn. drawn) nonce

unfoldable pub moment_bytes : ℕ → Moment → List ℕ
moment_bytes version moment = concat (time_bytes moment.time.0 ∷ nonce_bytes version moment.nonce ∷ [])

unfoldable pub evidence_bytes : Evidence → List ℕ
evidence_bytes evidence = concat (
    long_bytes evidence.ci
    ∷ optional_bytes long_bytes evidence.oc
    ∷ optional_bytes long_bytes evidence.ov
    ∷ [])

unfoldable pub image_bytes : ℕ → Image → List ℕ
image_bytes version image = concat (
    (image.area ∷ [])
    ∷ to_be_bytes w64 image.size
    ∷ image.hash
    ∷ moment_bytes version image.when
    ∷ evidence_bytes image.evidence
    ∷ [])

-- how the configuration is taken, as a number
abbrev pub handling_number : Handling → ℕ
handling_number Merge = 0
handling_number Replace = 1

unfoldable pub committed_bytes : ℕ → Committed → List ℕ
committed_bytes version committed = concat (
    moment_bytes version committed.when
    ∷ evidence_bytes committed.evidence
    ∷ (handling_number committed.handling ∷ [])
    ∷ optional_bytes long_bytes committed.pre
    ∷ optional_bytes long_bytes committed.configuration
    ∷ optional_bytes long_bytes committed.post
    ∷ [])

-- what follows the version
unfoldable pub device_bytes : ℕ → Device → List ℕ
device_bytes version device = concat (
    identity_bytes device.identity
    ∷ text_bytes device.running_name
    ∷ text_bytes device.running_version
    ∷ optional_bytes (image_bytes version) device.image
    ∷ optional_bytes (committed_bytes version) device.onboarded
    ∷ [])

-- the version, and the device
unfoldable pub record_bytes : ℕ → Device → List ℕ
record_bytes version device = version ∷ device_bytes version device
