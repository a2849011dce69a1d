-- The failures that commands share: how each ends, the line that is printed of it, and what it blames.
use Rattle.std.specs.Prelude.{◌≡◌, ℕ, Bool, true, false, List, [], ◌∷◌, ◌++◌, codes, Option, None, IfSome, Result, Ok, Err}
use Rattle.std.specs.Fmt.{decimal}
use Rattle.sz_io.specs.Folder.{FileMap, bytes_at}
use Rattle.sz_commands.specs.Ending.{number_of}
use Rattle.sz_commands.specs.declared.ending.Ending.{Ending}
use Rattle.sz_commands.specs.declared.ending.Ending.TheVariants as ending

pub data Failure : Type 0 where
  -- the words are no command
  Usage : Failure
  -- there is no such file or disk
  NoFile : List ℕ → Failure
  -- the folder failed at this path
  FileFault : List ℕ → Failure
  DiskFault : Failure
  ClockFault : Failure
  EntropyFault : Failure
  ListenerFault : Failure
  -- no source had what the device may take
  NoSource : Failure
  -- a disk holds nothing yet
  NotInitialised : Failure
  -- a disk holds at this place this value, which no run of this program leaves
  Damaged : (place value : ℕ) → Failure
  -- as many leaf numbers aren't left: this is the next one, and this the first that there isn't
  Exhausted : (next end : ℕ) → Failure
  -- a disk had its last value
  LastSequence : Failure
  -- the word is no list of levels
  LevelsRefused : List ℕ → Failure
  -- a disk of this size is too small, or too large
  SizeRefused : ℕ → Failure
  -- the file of this size is too large
  TooLarge : ℕ → Failure
  -- the member of this name is the first of an input that breaks its rule
  MemberRefused : List ℕ → Failure
  -- the key disk is in use
  InUse : Failure
  -- the device disk is in use, as this slot says
  SlotInUse : ℕ → Failure
  OutOfMemory : Failure

abbrev pub ending_of : Failure → Ending
ending_of Usage = ending.Usage
ending_of (NoFile path) = ending.File
ending_of (FileFault path) = ending.File
ending_of DiskFault = ending.DiskFault
ending_of ClockFault = ending.ClockFault
ending_of EntropyFault = ending.EntropyFault
ending_of ListenerFault = ending.ListenerFault
ending_of NoSource = ending.NoSource
ending_of NotInitialised = ending.NotInitialised
ending_of (Damaged place value) = ending.Damaged
ending_of (Exhausted next end) = ending.Exhausted
ending_of LastSequence = ending.Exhausted
ending_of (LevelsRefused word) = ending.Refused
ending_of (SizeRefused size) = ending.Refused
ending_of (TooLarge size) = ending.Refused
ending_of (MemberRefused name) = ending.Refused
ending_of InUse = ending.Refused
ending_of (SlotInUse slot) = ending.Refused
ending_of OutOfMemory = ending.OutOfMemory

abbrev pub status_of : Failure → ℕ
status_of failure = number_of (ending_of failure)

-- the words with which the line begins
abbrev pub words_of : Failure → List ℕ
words_of Usage = codes "usage"
words_of (NoFile path) = codes "no file: "
words_of (FileFault path) = codes "file fault: "
words_of DiskFault = codes "disk fault"
words_of ClockFault = codes "clock fault"
words_of EntropyFault = codes "entropy fault"
words_of ListenerFault = codes "listener fault"
words_of NoSource = codes "no source"
words_of NotInitialised = codes "not initialised"
words_of (Damaged place value) = codes "damaged: "
words_of (Exhausted next end) = codes "exhausted: "
words_of LastSequence = codes "exhausted: sequence"
words_of (LevelsRefused word) = codes "refused: levels "
words_of (SizeRefused size) = codes "refused: size "
words_of (TooLarge size) = codes "refused: too-large "
words_of (MemberRefused name) = codes "refused: member "
words_of InUse = codes "refused: in-use"
words_of (SlotInUse slot) = codes "refused: in-use "
words_of OutOfMemory = codes "out of memory"

-- what is named behind them
abbrev pub named_of : Failure → List ℕ
named_of (NoFile path) = path
named_of (FileFault path) = path
named_of (Damaged place value) = decimal place ++ codes " " ++ decimal value
named_of (Exhausted next end) = decimal next ++ codes " of " ++ decimal end
named_of (LevelsRefused word) = word
named_of (SizeRefused size) = decimal size
named_of (TooLarge size) = decimal size
named_of (MemberRefused name) = name
named_of (SlotInUse slot) = decimal slot
named_of _ = []

abbrev pub line_of : Failure → List ℕ
line_of failure = words_of failure ++ named_of failure

-- the line, with its LF
abbrev pub text_of : Failure → List ℕ
text_of failure = line_of failure ++ 10 ∷ []

-- the failure blames the folder
abbrev pub blames_folder : Failure → Bool
blames_folder (FileFault path) = true
blames_folder _ = false

-- the failure blames a disk
abbrev pub blames_disk : Failure → Bool
blames_disk DiskFault = true
blames_disk _ = false

-- the failure blames the clock
abbrev pub blames_clock : Failure → Bool
blames_clock ClockFault = true
blames_clock _ = false

-- the failure blames the source of random bytes
abbrev pub blames_entropy : Failure → Bool
blames_entropy EntropyFault = true
blames_entropy _ = false

-- the answer is a failure that blames this
abbrev pub blames : {T : Type 0} → (Failure → Bool) → Result T Failure → Bool
blames test (Ok value) = false
blames test (Err failure) = test failure

-- the failure says that the bytes at this path can't be had
abbrev pub IsUnread : List ℕ → Option FileMap → Failure → Type 0
IsUnread path told (NoFile named) = (named ≡ path) × IfSome told (λ files. bytes_at files path ≡ None)
IsUnread path told (FileFault named) = named ≡ path
IsUnread path told OutOfMemory = Unit {0}
IsUnread path told _ = ⊥
