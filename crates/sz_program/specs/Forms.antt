-- The forms of command lines, as the kit's `clap` is told them, and what it matches of words to them.
use Rattle.std.specs.Prelude.{ℕ, true, List, [], ◌∷◌, map, Option, Some, None, if◌then◌else◌}
use Rattle.std.specs.List.{list_all}
use Rattle.std.specs.Str.{is_utf8}
use Rattle.clap.specs.Faults.{fault_of}
use Rattle.clap.specs.Kinds.{Kinds}
use Rattle.clap.specs.Lexer.{usize_max}
use Rattle.clap.specs.Simple.{App, matches_of, new_rule, new_shape, with_rule}
use Rattle.clap.specs.Walk.{Row, Rule}

-- an argument with this name, which has to be there and takes one word
abbrev pub argument : List ℕ → Rule
argument name = record (new_rule name) { required = true }

-- The simple command with this name and these arguments, in this order. It has no option, not even for help.
abbrev pub form_of : List ℕ → List (List ℕ) → App
form_of name arguments = record {
  top = record (new_shape name) { rules = map argument arguments; no_binary_name = true; disable_help_flag = true };
  subs = [];
}

-- a last argument with this name, which takes one word or more
abbrev pub last_argument : List ℕ → Rule
last_argument name = record (new_rule name) {
  required = true;
  range = Some (record { start_inclusive = 1; end_inclusive = usize_max });
}

-- the same form with such an argument behind the others
abbrev pub open_form_of : List ℕ → List (List ℕ) → List ℕ → App
open_form_of name arguments last = with_rule (form_of name arguments) (last_argument last)

-- what was matched, where no fault was found
abbrev pub if_faultless : Kinds → List Row → Option (List Row)
if_faultless [] rows = Some rows
if_faultless (fault ∷ faults) rows = None

-- what clap matches of these texts to the arguments of a form, where it finds no fault in them
unfoldable pub taken : App → List (List ℕ) → Option (List Row)
taken form texts = if_faultless (fault_of form texts) (matches_of form texts)

-- The same of words. clap takes texts, so where a word isn't UTF-8 nothing is matched.
abbrev pub matched : App → List (List ℕ) → Option (List Row)
matched form words = if list_all is_utf8 words then taken form words else None
