-- The status of an init and of a show, and the text that each prints.
use Rattle.std.specs.Prelude.{ℕ, List, [], ◌∷◌, ◌++◌, Result, Ok, Err, codes}
use Rattle.sz_commands.specs.Ending.{number_of}
use Rattle.sz_commands.specs.Failure as failure
use Rattle.sz_commands.specs.declared.ending.Ending.TheVariants.{Done}

abbrev pub status_of : {T : Type 0} → Result T failure.Failure → ℕ
status_of (Ok told) = number_of Done
status_of (Err other) = failure.status_of other

-- the line of an init with its LF, by the serial number
abbrev pub init_text : Result (List ℕ) failure.Failure → List ℕ
init_text (Ok serial) = (codes "initialised " ++ serial) ++ 10 ∷ []
init_text (Err other) = failure.text_of other

-- the lines of a show
abbrev pub show_lines : Result (List ℕ) failure.Failure → List ℕ
show_lines (Ok text) = text
show_lines (Err other) = failure.text_of other
