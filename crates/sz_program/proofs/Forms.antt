-- The form of a command, argument by argument, the words as texts, word by word, and what a form takes of texts.
use Rattle.std.proofs.Common.{◌≡◌, ◌∙◌, ℕ, ◌<◌, ◌+◌, true, false, List, [], ◌∷◌, ◌++◌, length, map, take, get_or, IsUtf8, Option, Some, None, option_and_then, refl, sym, ap, ap₂, inl, inr}
use Rattle.std.specs.Borrow.{Bor}
use Rattle.std.specs.List.{list_all}
use Rattle.std.specs.Str.{is_utf8}
use Rattle.std.proofs.lemmas.Bool.{and_parts, false_from_ne_true}
use Rattle.std.proofs.lemmas.List.{map-append, map_more, take_more}
use Rattle.std.proofs.lemmas.List.Folds.{list_all_at, list_all_more}
use Rattle.std.proofs.lemmas.Str.{IsUtf8-from_is_utf8, is_utf8-from_IsUtf8}
use Rattle.clap.specs.Faults.{fault_of, is_free_app, is_simple_and_free}
use Rattle.clap.specs.Kinds.{HasKind, Kinds}
use Rattle.clap.specs.Matches.{found_of}
use Rattle.clap.specs.Simple.{App, HasMatchesOf, built, is_simple, matches_of, new_shape, with_rule}
use Rattle.clap.specs.Values.{kind_of}
use Rattle.clap.specs.Walk.{Row, Rule, rows_of}
use Rattle.clap.specs.declared.error.Error.{Error}
use Rattle.clap.specs.declared.error.kind.ErrorKind.TheVariants.{OutOfMemory}
use Rattle.clap.specs.declared.parser.matches.ArgMatches.{ArgMatches}
use Rattle.sz_program.specs.Forms.{argument, form_of, if_faultless, matched, taken}
use Rattle.sz_program.specs.Words.{Command}

abbrev text : Bor (List ℕ) → List ℕ
text lent = lent.now

-- ---- the form

abbrev with_rules : List ℕ → List Rule → App
with_rules name rules = record {
  top = record (new_shape name) { rules = rules; no_binary_name = true; disable_help_flag = true };
  subs = [];
}

-- one more argument is one more rule
pub form_more : (name : List ℕ) (names : List (Bor (List ℕ))) (i : ℕ) (next : Bor (List ℕ)) (form : App) → i < length names → next ≡ get_or names i next
    → form ≡ form_of name (map (λ argument. argument.now) (take i names))
    → with_rule form (argument next.now) ≡ form_of name (map (λ argument. argument.now) (take (i + 1) names))
form_more name names i next form within is so_far =
    let before : List (List ℕ) = map text (take i names) in
    let all : map text (take (i + 1) names) ≡ before ++ next.now ∷ [] =
    map_more text names i next within ∙ ap (λ (a : Bor (List ℕ)). before ++ a.now ∷ []) (sym is) in
    ap (λ (a : App). with_rule a (argument next.now)) so_far
    ∙ ap (with_rules name) (sym (map-append argument before (next.now ∷ [])) ∙ ap (map argument) (sym all))

-- ---- the words as texts

module _ (words : List (List ℕ)) (i : ℕ) (word : List ℕ) (within : i < length words) (is : word ≡ get_or words i word) where
  pub texts_more : (texts : List (Bor (List ℕ))) (next : Bor (List ℕ)) → next.now ≡ word → map (λ text. text.now) texts ≡ take i words
      → map (λ text. text.now) (texts ++ next ∷ []) ≡ take (i + 1) words
  texts_more texts next same so_far =
      map-append text texts (next ∷ []) ∙ ap₂ (λ (front : List (List ℕ)) (last : List ℕ). front ++ last ∷ []) so_far (same ∙ is)
      ∙ sym (take_more words i word within)

  pub utf8_more : IsUtf8 word → list_all is_utf8 (take i words) ≡ true → list_all is_utf8 (take (i + 1) words) ≡ true
  utf8_more utf8 so_far =
      let last : is_utf8 (get_or words i word) ≡ true = ap is_utf8 (sym is) ∙ is_utf8-from_IsUtf8 word utf8 in
      list_all_more is_utf8 words i word within ∙ rw (so_far, last) refl

  pub not_utf8 : (IsUtf8 word → ⊥) → list_all is_utf8 words ≡ false
  not_utf8 other =
      let none : is_utf8 word ≡ false = false_from_ne_true (is_utf8 word) (λ yes. other (IsUtf8-from_is_utf8 word yes)) in
      list_all_at is_utf8 words i word within (ap is_utf8 (sym is) ∙ none)

-- ---- what a form takes

found : (faults : Kinds) (rows all : List Row) → faults ≡ [] → rows ≡ all → Some rows ≡ if_faultless faults all
found faults rows all none same = rw none (ap Some same)

refused : (faults : Kinds) (all : List Row) (error : Error) → HasKind faults error → (kind_of error ≡ OutOfMemory → ⊥) → None ≡ if_faultless faults all
refused [] all error (inl memory) other = absurd (other memory)
refused [] all error (inr none) other = absurd none
refused (fault ∷ faults) all error has other = refl

pub taken_ok : (form : App) (texts : List (List ℕ)) (matches : ArgMatches) → is_simple_and_free form ≡ true → fault_of form texts ≡ []
    → HasMatchesOf form texts matches
    → Some (rows_of (found_of matches)) ≡ taken form texts
unfolding taken
taken_ok form texts matches free none has =
    let simple : is_simple form ≡ true = (and_parts (is_simple form) (is_free_app (built form)) free).0 in
    found (fault_of form texts) (rows_of (found_of matches)) (matches_of form texts) none (has simple).0

pub taken_err : (form : App) (texts : List (List ℕ)) (error : Error) → HasKind (fault_of form texts) error → (kind_of error ≡ OutOfMemory → ⊥)
    → None ≡ taken form texts
unfolding taken
taken_err form texts error has other = refused (fault_of form texts) (matches_of form texts) error has other

-- what a command is read from, once its words are texts
pub read_rows : (form : App) (command : List Row → Option Command) (words : List (List ℕ)) (got : Option (List Row)) → list_all is_utf8 words ≡ true
    → got ≡ taken form words → option_and_then command got ≡ option_and_then command (matched form words)
read_rows form command words got texts is = rw texts (ap (option_and_then command) is)
