-- What `check PUBLIC FILE SIGNATURE` comes to, over the folder before and after.
use Rattle.std.specs.Prelude.{◌≡◌, ◌⊎◌, ℕ, Bool, false, List, Option, Some, None, Result, Ok, Err, IfSome, IsSome}
use Rattle.std.specs.Option.{option_map_or}
use Rattle.sz_spec.specs.Cause.{HasCause}
use Rattle.sz_io.specs.Folder.{FileMap, bytes_at}
use Rattle.sz_lms.specs.Hss.{HssOk}
use Rattle.sz_lms.specs.Rules.{Rule, hss_first}
use Rattle.sz_commands.specs.Failure.{Failure, NoFile, FileFault, OutOfMemory, blames_folder}
use Rattle.sz_commands.specs.Objects.{FolderSeen}

-- the paths that a check names
pub record Paths : Type 0 where
  pub public : List ℕ
  pub file : List ℕ
  pub signature : List ℕ

-- What a check is answered: the first rule that the signature breaks, or that it breaks none; or a failure.
abbrev pub Answer : Type 0
Answer = Result (Option Rule) Failure

-- the answer to which the bytes at a path lead, or that there is no such file
abbrev pub with_file_at : FileMap → List ℕ → (List ℕ → Answer) → Answer
with_file_at files path answer = option_map_or answer (bytes_at files path) (Err (NoFile path))

-- the first of the three files that isn't there, or else the verdict on the signature
abbrev pub answer_over : FileMap → Paths → Answer
answer_over files paths =
    with_file_at files paths.public (λ public.
    with_file_at files paths.file (λ message.
    with_file_at files paths.signature (λ signature.
    Ok (hss_first public message signature))))

-- The three files are there, and the signature is one of the file under the public key (RFC 8554 section 6.3).
pub record IsSigned (files : FileMap) (paths : Paths) : Type 0 where
  pub public : List ℕ
  pub message : List ℕ
  pub signature : List ℕ
  pub public_is : bytes_at files paths.public ≡ Some public
  pub message_is : bytes_at files paths.file ≡ Some message
  pub signature_is : bytes_at files paths.signature ≡ Some signature
  pub signed : HssOk public message signature

-- the path is one that the check names
abbrev pub Names : Paths → List ℕ → Type 0
Names paths path = (path ≡ paths.public) ⊎ ((path ≡ paths.file) ⊎ (path ≡ paths.signature))

-- where the folder tells its files, there is one at the path
abbrev pub IsThere : Option FileMap → List ℕ → Type 0
IsThere told path = IfSome told (λ files. IsSome (bytes_at files path))

-- the folder may have failed at this path first: the files of the words before it were there
abbrev pub MayFailAt : Paths → Option FileMap → List ℕ → Type 0
MayFailAt paths told path =
    (path ≡ paths.public)
    ⊎ (((path ≡ paths.file) × IsThere told paths.public)
    ⊎ ((path ≡ paths.signature) × IsThere told paths.public × IsThere told paths.file))

-- The answers that may be given: the one over the files, where the folder tells them; a fault of the folder at
-- one of the paths; or want of memory.
abbrev pub MayAnswer : Paths → Option FileMap → Answer → Type 0
MayAnswer paths told (Ok None) = IfSome told (λ files. (answer_over files paths ≡ Ok None) × IsSigned files paths)
MayAnswer paths told (Ok (Some rule)) =
    IfSome told (λ files. (answer_over files paths ≡ Ok (Some rule)) × ¬ (IsSigned files paths))
MayAnswer paths told (Err (NoFile path)) =
    Names paths path × IfSome told (λ files. answer_over files paths ≡ Err (NoFile path))
MayAnswer paths told (Err (FileFault path)) = MayFailAt paths told path
MayAnswer paths told (Err OutOfMemory) = Unit {0}
MayAnswer paths told (Err other) = ⊥

-- the answer blames the folder
abbrev pub is_file_fault : Answer → Bool
is_file_fault (Ok rule) = false
is_file_fault (Err failure) = blames_folder failure

-- A check answered so. It left the files as they were, and blames the folder only where its count rose.
pub record CheckRan (paths : Paths) (before after : FolderSeen) (answer : Answer) : Type 0 where
  pub may : MayAnswer paths before.files answer
  pub unchanged : after.files ≡ before.files
  pub cause : HasCause before.faults after.faults (is_file_fault answer)

-- the failure is that the folder failed at this path, or want of memory
abbrev pub IsFaultAt : List ℕ → Failure → Type 0
IsFaultAt path (FileFault named) = named ≡ path
IsFaultAt path OutOfMemory = Unit {0}
IsFaultAt path _ = ⊥
