-- The commands as data, and which command the words after the program's name are.
use Rattle.std.specs.Prelude.{◌≡◌, ◌≢◌, ◌⊎◌, ◌==◌, ◌&&◌, ℕ, Bool, true, List, [], ◌∷◌, Option, Some, None, if◌then◌else◌, codes, length, nat_le, slice_index, option_and_then, option_map}
use Rattle.std.specs.Str.{bytes_eq, is_utf8}
use Rattle.clap.specs.Simple.{App}
use Rattle.clap.specs.Walk.{Row, all_of, first_of}
use Rattle.sz_device.specs.InitRan as init
use Rattle.sz_device.specs.OnboardRan as onboard
use Rattle.sz_device.specs.Sources.{NamesNone}
use Rattle.sz_keys.specs.CheckRan.{Paths}
use Rattle.sz_keys.specs.KeygenRan as keygen
use Rattle.sz_keys.specs.SignRan as sign
use Rattle.sz_program.specs.Forms.{form_of, matched, open_form_of}

pub data Command : Type 0 where
  -- `check PUBLIC FILE SIGNATURE`
  Check : Paths → Command
  -- `keygen LEVELS PUBLIC @KEY`
  Keygen : keygen.Words → Command
  -- `sign FILE SIGNATURE @KEY`
  Sign : sign.Words → Command
  -- `init IDENTITY @DISK`
  Init : init.Words → Command
  -- `onboard @DISK SOURCE ..`
  Onboard : onboard.Words → Command
  -- `show @DISK`
  Show : List ℕ → Command
  -- `audit @DISK`
  Audit : List ℕ → Command

-- ---- check

abbrev pub check_form : App
check_form = form_of (codes "check") (codes "PUBLIC" ∷ codes "FILE" ∷ codes "SIGNATURE" ∷ [])

-- the check of these paths
abbrev pub check_of : List ℕ → List ℕ → List ℕ → Command
check_of public file signature = Check (record { public = public; file = file; signature = signature })

-- the check of the words that were matched to its arguments
abbrev pub check_matched : List Row → Option Command
check_matched rows =
    option_and_then (λ public.
    option_and_then (λ file.
    option_map (λ signature. check_of public file signature)
    (first_of (codes "SIGNATURE") rows)) (first_of (codes "FILE") rows)) (first_of (codes "PUBLIC") rows)

-- ---- keygen and sign

-- a word that names a disk begins with `@` (64), and isn't that alone
abbrev pub is_disk_word : List ℕ → Bool
is_disk_word word = (slice_index word 0 == 64) && nat_le 2 (length word)

-- the word is that of the disk in the file at this path
abbrev pub is_disk_at : List ℕ → List ℕ → Bool
is_disk_at path word = bytes_eq word (64 ∷ path)

-- the command, where this word names a disk
abbrev pub with_disk_word : List ℕ → Command → Option Command
with_disk_word word command = if is_disk_word word then Some command else None

-- the command, where this word names a disk, and not the one in the file at this path
abbrev pub with_disk_beside : List ℕ → List ℕ → Command → Option Command
with_disk_beside word path command = if is_disk_at path word then None else with_disk_word word command

abbrev pub keygen_form : App
keygen_form = form_of (codes "keygen") (codes "LEVELS" ∷ codes "PUBLIC" ∷ codes "KEY" ∷ [])

-- the keygen of the words that were matched to its arguments
abbrev pub keygen_matched : List Row → Option Command
keygen_matched rows =
    option_and_then (λ levels.
    option_and_then (λ public.
    option_and_then (λ key.
    with_disk_beside key public (Keygen (record { levels = levels; public = public; key = key })))
    (first_of (codes "KEY") rows)) (first_of (codes "PUBLIC") rows)) (first_of (codes "LEVELS") rows)

abbrev pub sign_form : App
sign_form = form_of (codes "sign") (codes "FILE" ∷ codes "SIGNATURE" ∷ codes "KEY" ∷ [])

-- the sign of the words that were matched to its arguments
abbrev pub sign_matched : List Row → Option Command
sign_matched rows =
    option_and_then (λ file.
    option_and_then (λ signature.
    option_and_then (λ key. if is_disk_at file key then None
    else with_disk_beside key signature (Sign (record { file = file; signature = signature; key = key })))
    (first_of (codes "KEY") rows)) (first_of (codes "SIGNATURE") rows)) (first_of (codes "FILE") rows)

-- ---- the commands of a device

abbrev pub init_form : App
init_form = form_of (codes "init") (codes "IDENTITY" ∷ codes "DISK" ∷ [])

-- the init of the words that were matched to its arguments
abbrev pub init_matched : List Row → Option Command
init_matched rows =
    option_and_then (λ identity.
    option_and_then (λ disk. with_disk_beside disk identity (Init (record { identity = identity; disk = disk })))
    (first_of (codes "DISK") rows)) (first_of (codes "IDENTITY") rows)

-- one SOURCE or more behind the disk
abbrev pub onboard_form : App
onboard_form = open_form_of (codes "onboard") (codes "DISK" ∷ []) (codes "SOURCE")

-- the onboard of the words that were matched to its arguments; whether each SOURCE is one, and reads another file than
-- the disk's, shows later
abbrev pub onboard_matched : List Row → Option Command
onboard_matched rows =
    option_and_then (λ disk.
    option_and_then (λ sources. with_disk_word disk (Onboard (record { disk = disk; sources = sources })))
    (all_of (codes "SOURCE") rows)) (first_of (codes "DISK") rows)

abbrev pub show_form : App
show_form = form_of (codes "show") (codes "DISK" ∷ [])

abbrev pub show_matched : List Row → Option Command
show_matched rows = option_and_then (λ disk. with_disk_word disk (Show disk)) (first_of (codes "DISK") rows)

abbrev pub audit_form : App
audit_form = form_of (codes "audit") (codes "DISK" ∷ [])

abbrev pub audit_matched : List Row → Option Command
audit_matched rows = option_and_then (λ disk. with_disk_word disk (Audit disk)) (first_of (codes "DISK") rows)

-- the command of a device with this name and these words behind it
abbrev pub device_command_named : List ℕ → List (List ℕ) → Option Command
device_command_named name words =
    if bytes_eq name (codes "init") then option_and_then init_matched (matched init_form words)
    else if bytes_eq name (codes "onboard") then option_and_then onboard_matched (matched onboard_form words)
    else if bytes_eq name (codes "show") then option_and_then show_matched (matched show_form words)
    else if bytes_eq name (codes "audit") then option_and_then audit_matched (matched audit_form words)
    else None

-- ---- all commands

-- the command with this name and these words behind it
abbrev pub command_named : List ℕ → List (List ℕ) → Option Command
command_named name words =
    if bytes_eq name (codes "check") then option_and_then check_matched (matched check_form words)
    else if bytes_eq name (codes "keygen") then option_and_then keygen_matched (matched keygen_form words)
    else if bytes_eq name (codes "sign") then option_and_then sign_matched (matched sign_form words)
    else device_command_named name words

-- The command that the words are: the first is its name, and the others are what clap matches to its form.
abbrev pub words_of : List (List ℕ) → Option Command
words_of [] = None
words_of (name ∷ words) = command_named name words

-- The words are no command: they are matched to none, or to an onboard of which some SOURCE is none or reads the disk's
-- file, or which has too many.
abbrev pub IsNoCommand : List (List ℕ) → Type 0
IsNoCommand words =
    (words_of words ≡ None)
    ⊎ ((own : onboard.Words) × (words_of words ≡ Some (Onboard own)) × NamesNone own.disk own.sources)

-- the words are an onboard
abbrev pub IsOnboard : List (List ℕ) → Type 0
IsOnboard words = (own : onboard.Words) × (words_of words ≡ Some (Onboard own))

-- the word is UTF-8 and doesn't begin with a hyphen (45)
abbrev pub IsPlain : List ℕ → Type 0
IsPlain word = (is_utf8 word ≡ true) × (slice_index word 0 ≢ 45)
