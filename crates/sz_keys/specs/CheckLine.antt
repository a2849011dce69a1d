-- How a check ends, and the line that it prints.
use Rattle.std.specs.Prelude.{ℕ, List, [], ◌∷◌, ◌++◌, Option, Some, None, Ok, Err, codes}
use Rattle.sz_lms.specs.Rules.{Rule, Length, Levels, Scheme, LeafNumber, Root}
use Rattle.sz_commands.specs.Ending.{number_of}
use Rattle.sz_commands.specs.Failure as failure
use Rattle.sz_commands.specs.declared.ending.Ending.{Ending}
use Rattle.sz_commands.specs.declared.ending.Ending.TheVariants.{Done, NotValid}
use Rattle.sz_keys.specs.CheckRan.{Answer}

-- done where no rule is broken
abbrev pub ending_of : Option Rule → Ending
ending_of None = Done
ending_of (Some rule) = NotValid

abbrev pub rule_word : Rule → List ℕ
rule_word Length = codes "length"
rule_word Levels = codes "levels"
rule_word Scheme = codes "scheme"
rule_word LeafNumber = codes "leaf"
rule_word Root = codes "root"

abbrev pub line_of : Option Rule → List ℕ
line_of None = codes "valid"
line_of (Some rule) = codes "not valid: " ++ rule_word rule

-- the status of an answer, and its line with the LF
abbrev pub status_of : Answer → ℕ
status_of (Ok rule) = number_of (ending_of rule)
status_of (Err other) = failure.status_of other

abbrev pub text_of : Answer → List ℕ
text_of (Ok rule) = line_of rule ++ 10 ∷ []
text_of (Err other) = failure.text_of other
