-- The file of an identity, as a folder has it, and why it gives none.
use Rattle.std.specs.Prelude.{◌≡◌, ◌<◌, ◌≤◌, ℕ, List, length, Option, Some, None, IfSome}
use Rattle.std.specs.Option.{option_map}
use Rattle.sz_base.specs.declared.identity.Identity.{Identity}
use Rattle.sz_commands.specs.Failure.{Failure, FileFault, MemberRefused, NoFile, OutOfMemory, TooLarge}
use Rattle.sz_evidence.specs.IdentityFile.{IdentityOf, IsBadIdentity}
use Rattle.sz_io.specs.Folder.{FileMap, bytes_at}
use Rattle.sz_json.specs.Name.{name_text}
use Rattle.sz_json.specs.declared.name.Name.{Name}

-- the most bytes of an identity file: 1 MiB
abbrev pub most_bytes : ℕ
most_bytes = 1048576

-- the file at the path has these bytes, and not too many
abbrev pub HasFile : FileMap → List ℕ → List ℕ → Type 0
HasFile files path bytes = (bytes_at files path ≡ Some bytes) × (length bytes ≤ most_bytes)

-- where the folder tells its files, the one at the path is that of the identity
abbrev pub IsIdentityAt : Option FileMap → List ℕ → Identity → Type 0
IsIdentityAt told path identity =
    IfSome told (λ files. (bytes : List ℕ) × HasFile files path bytes × IdentityOf bytes identity)

-- the member of this name is the first that breaks its rule in these bytes
abbrev pub NamesMember : List ℕ → List ℕ → Type 0
NamesMember bytes member = (name : Name) × IsBadIdentity bytes name × (member ≡ name_text name)

-- the failure says why the file at this path gives no identity
abbrev pub IsNoIdentity : List ℕ → Option FileMap → Failure → Type 0
IsNoIdentity path told (NoFile named) = (named ≡ path) × IfSome told (λ files. bytes_at files path ≡ None)
IsNoIdentity path told (FileFault named) = named ≡ path
IsNoIdentity path told (TooLarge size) =
    IfSome told (λ files. option_map length (bytes_at files path) ≡ Some size) × (most_bytes < size)
IsNoIdentity path told (MemberRefused member) =
    IfSome told (λ files. (bytes : List ℕ) × HasFile files path bytes × NamesMember bytes member)
IsNoIdentity path told OutOfMemory = Unit {0}
IsNoIdentity path told other = ⊥
