-- Files of a source, each within a limit: what they give, and whom a refusal blames.
use Rattle.std.specs.Prelude.{◌≡◌, ℕ, Bool, true, false, if◌then◌else◌, List, ◌++◌, length, nat_le, codes, Option, Some, None, IfSome, Result, Ok, Err}
use Rattle.sz_io.specs.Folder.{FileMap}
use Rattle.sz_visit.specs.declared.fault.FileFault.{FileFault}
use Rattle.sz_visit.specs.declared.fault.FileFault.TheVariants.{Lost, Absent, TooLarge, OutOfMemory}
use Rattle.sz_visit.specs.Limits.{most_message_bytes}
use Rattle.sz_base.specs.Evidence.{most_artifact_bytes}

-- the answer is told by the files: the folder didn't fail, and memory didn't run out
abbrev pub IsTold : {T : Type 0} → Result T FileFault → Type 0
IsTold (Ok value) = Unit {0}
IsTold (Err Lost) = ⊥
IsTold (Err OutOfMemory) = ⊥
IsTold (Err Absent) = Unit {0}
IsTold (Err (TooLarge limit)) = Unit {0}

-- where the folder tells its files, such an answer is what they give
abbrev pub Gives : {T : Type 0} → Option FileMap → (FileMap → Result T FileFault) → Result T FileFault → Type 0
Gives told given answer = IsTold answer → IfSome told (λ files. answer ≡ given files)

-- the answer blames the folder
abbrev pub blames_folder : {T : Type 0} → Result T FileFault → Bool
blames_folder (Err Lost) = true
blames_folder _ = false

-- the path of a name in a folder
abbrev pub under : List ℕ → List ℕ → List ℕ
under folder name = folder ++ codes "/" ++ name

-- a file, where there is one, which may have so many bytes
abbrev pub file_of : ℕ → Option (List ℕ) → Result (Option (List ℕ)) FileFault
file_of most None = Ok None
file_of most (Some bytes) = if nat_le (length bytes) most then Ok (Some bytes) else Err (TooLarge most)

abbrev pub artifact_of : Option (List ℕ) → Result (Option (List ℕ)) FileFault
artifact_of file = file_of most_artifact_bytes file

-- a DHCP or DNS message in a file
abbrev pub message_of : Option (List ℕ) → Result (List ℕ) FileFault
message_of None = Err Absent
message_of (Some bytes) =
    if nat_le (length bytes) most_message_bytes then Ok bytes else Err (TooLarge most_message_bytes)
