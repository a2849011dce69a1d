-- The files of a folder, as contracts see them.
use Rattle.std.specs.Prelude.{◌≡◌, ◌≢◌, ℕ, List, [], Option, unwrap_or}
use Rattle.std.specs.Ordering.{nat_cmp}
use Rattle.std.specs.Cmp.Lexicographic.{slice_cmp}
use Rattle.std.specs.FinMap.{FinMap, find, get, insert, from_entries}
use Rattle.sz_spec.specs.Told.{WhereTold}

-- each file's bytes under its path
abbrev pub FileMap : Type 0
FileMap = FinMap (slice_cmp nat_cmp) (List ℕ)

-- the files of a list of paths with their bytes, where the first pair of a path counts
abbrev pub files_of : List (List ℕ × List ℕ) → FileMap
files_of pairs = from_entries pairs

-- the bytes of the first of these pairs with a path
abbrev pub first_in : List (List ℕ × List ℕ) → List ℕ → Option (List ℕ)
first_in pairs path = find (slice_cmp nat_cmp) path pairs

-- the bytes of the file at a path, if there is one
abbrev pub bytes_at : FileMap → List ℕ → Option (List ℕ)
bytes_at files path = get files path

-- the bytes that are read at a path, where a file that isn't there reads as an empty one
abbrev pub readable_at : FileMap → List ℕ → List ℕ
readable_at files path = unwrap_or (bytes_at files path) []

-- the files, with these bytes as the file at this path
abbrev pub with_file : List ℕ → List ℕ → FileMap → FileMap
with_file path bytes files = insert files path bytes

-- where the files are told, they still are, and each other path has what it had
abbrev pub ChangesOnly : List ℕ → Option FileMap → Option FileMap → Type 0
ChangesOnly path = WhereTold (λ old new. (other : List ℕ) → other ≢ path → bytes_at new other ≡ bytes_at old other)
