-- The status of a keygen or a sign, and the line that each prints.
use Rattle.std.specs.Prelude.{ℕ, List, [], ◌∷◌, ◌++◌, Result, Ok, Err, codes}
use Rattle.std.specs.Fmt.{decimal}
use Rattle.sz_commands.specs.Ending.{number_of}
use Rattle.sz_commands.specs.Failure as failure
use Rattle.sz_commands.specs.declared.ending.Ending.TheVariants.{Done}

abbrev pub status_of : Result ℕ failure.Failure → ℕ
status_of (Ok number) = number_of Done
status_of (Err other) = failure.status_of other

-- the line of a keygen with its LF, by the end of the key's leaf numbers
abbrev pub keygen_text : Result ℕ failure.Failure → List ℕ
keygen_text (Ok end) = (codes "key " ++ decimal end) ++ 10 ∷ []
keygen_text (Err other) = failure.text_of other

-- the line of a sign with its LF, by the leaf number
abbrev pub sign_text : Result ℕ failure.Failure → List ℕ
sign_text (Ok leaf) = (codes "leaf " ++ decimal leaf) ++ 10 ∷ []
sign_text (Err other) = failure.text_of other
