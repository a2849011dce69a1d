-- Which words are a check: three that don't begin with a hyphen, and three behind `--`.
use Rattle.std.proofs.Common.{◌≡◌, ◌≢◌, ◌==◌, ◌∙◌, ℕ, Bool, true, false, List, [], ◌∷◌, Some, None, codes, is_some, slice_index, nat_eq, refl, ap, ap₂, option_and_then, if◌then◌else◌}
use Rattle.std.specs.List.{list_all}
use Rattle.std.specs.Str.{is_utf8}
use Rattle.clap.specs.Faults.{check_fault, defaults_fault, entered_fault, fault_of, settle_fault, step_fault, turn_fault, walk_fault, word_fault}
use Rattle.clap.specs.Kinds.{Kinds, or_else}
use Rattle.clap.specs.Simple.{App, Shape, built, entered, matches_of}
use Rattle.clap.specs.Walk.{Held, Row, Rule, Step, Walk, after_step, finished, idle, nothing_held, settled, value, walk, walk_from, walked, word_met}
use Rattle.clap.proofs.OnLiterals.{clap_on_literals}
use Rattle.sz_lms.proofs.RuleLists.{equal-false}
use Rattle.clap.specs.declared.error.kind.ErrorKind.{ErrorKind}
use Rattle.clap.specs.declared.error.kind.ErrorKind.TheVariants.{UnknownArgument}
use Rattle.sz_program.specs.Forms.{if_faultless, matched, taken}
use Rattle.sz_program.specs.Words.{IsPlain, check_form, check_matched, check_of, words_of}

-- words that are texts are matched as clap takes them
matched_texts : (form : App) (words : List (List ℕ)) → list_all is_utf8 words ≡ true → matched form words ≡ taken form words
matched_texts form words texts = rw texts refl

-- ---- behind `--`

dashes_are_text : is_utf8 (codes "--") ≡ true
unfolding clap_on_literals is_utf8
dashes_are_text = refl

taken_behind_dashes : (public file signature : List ℕ)
    → option_and_then check_matched (taken check_form (codes "--" ∷ public ∷ file ∷ signature ∷ [])) ≡ Some (check_of public file signature)
unfolding clap_on_literals taken
taken_behind_dashes public file signature = refl

pub behind_dashes : (public file signature : List ℕ) → is_utf8 public ≡ true → is_utf8 file ≡ true → is_utf8 signature ≡ true
    → words_of (codes "check" ∷ codes "--" ∷ public ∷ file ∷ signature ∷ []) ≡ Some (check_of public file signature)
behind_dashes public file signature a b c =
    let texts : list_all is_utf8 (codes "--" ∷ public ∷ file ∷ signature ∷ []) ≡ true = rw (dashes_are_text, a, b, c) refl in
    ap (option_and_then check_matched) (matched_texts check_form (codes "--" ∷ public ∷ file ∷ signature ∷ []) texts)
    ∙ taken_behind_dashes public file signature

-- ---- a word that doesn't begin with a hyphen

-- the walk between two words, with what it holds and the place of the next argument
abbrev at : Held → ℕ → Walk
at held position = record { held = held; waiting = idle; position = position; is_trailing = false; stopped = None }

met_plain : (rules : List Rule) (position : ℕ) (word : List ℕ) (held : Held) → slice_index word 0 ≢ 45
    → word_met rules [] false idle position word held ≡ (held, value)
met_plain rules position [] held differs = refl
met_plain rules position (x ∷ xs) held differs =
    let other : nat_eq x 45 ≡ false = equal-false x 45 differs in
    let same : (x == 45) ≡ false = other in
    rw (other, same) refl

sound_plain : (shape : Shape) (word : List ℕ) (held : Held) → slice_index word 0 ≢ 45 → word_fault shape [] false idle word held ≡ []
sound_plain shape [] held differs = refl
sound_plain shape (x ∷ xs) held differs =
    let other : nat_eq x 45 ≡ false = equal-false x 45 differs in
    let same : (x == 45) ≡ false = other in
    rw (other, same) refl

walked_plain : (rules : List Rule) (held : Held) (position : ℕ) (word : List ℕ) → slice_index word 0 ≢ 45
    → walked rules [] (at held position) word ≡ after_step rules word (at held position) held value
unfolding walked
walked_plain rules held position word differs =
    ap (λ (met : Held × Step). after_step rules word (at held position) met.0 met.1) (met_plain rules position word held differs)

turn_plain : (shape : Shape) (held : Held) (position : ℕ) (word : List ℕ) → slice_index word 0 ≢ 45
    → turn_fault shape [] (at held position) word ≡ step_fault shape position held value
turn_plain shape held position word differs =
    ap₂ or_else (sound_plain shape word held differs)
    (ap (λ (met : Held × Step). step_fault shape position met.0 met.1) (met_plain shape.rules position word held differs))

-- ---- a check

abbrev app : App
app = built check_form

abbrev rules : List Rule
rules = app.top.rules

-- a word that fits goes to the next argument, and the next word is looked at
fault_next : (held : Held) (position : ℕ) (word : List ℕ) (rest : List (List ℕ)) → slice_index word 0 ≢ 45 → step_fault app.top position held value ≡ []
    → walk_fault app.top [] (at held position) (word ∷ rest) ≡ walk_fault app.top [] (after_step rules word (at held position) held value) rest
unfolding walk_fault
fault_next held position word rest differs fits =
    ap₂ or_else (turn_plain app.top held position word differs ∙ fits)
    (ap (λ (w : Walk). walk_fault app.top [] w rest) (walked_plain rules held position word differs))

-- the faults of a check, by those of its words and by where the walk ends
abbrev faults_with : Kinds → Walk → Kinds
faults_with faults w =
    or_else faults (or_else (entered_fault app w.stopped)
    (or_else (settle_fault rules app.top.args_override_self w.held)
    (or_else (defaults_fault (settled rules w.held).rows rules)
    (check_fault app.top (finished rules w.held) (is_some (entered app w.stopped))))))

module _ (public file signature : List ℕ) where
  -- what is held behind each word
  abbrev held₁ : Held
  held₁ = (after_step rules public (at nothing_held 1) nothing_held value).held

  abbrev held₂ : Held
  held₂ = (after_step rules file (at held₁ 2) held₁ value).held

  abbrev held₃ : Held
  held₃ = (after_step rules signature (at held₂ 3) held₂ value).held

  module _ (a : slice_index public 0 ≢ 45) (b : slice_index file 0 ≢ 45) (c : slice_index signature 0 ≢ 45) where
    walk_ends : walk rules [] nothing_held (public ∷ file ∷ signature ∷ []) ≡ at held₃ 4
    walk_ends =
        ap (λ (w : Walk). walked rules [] (walked rules [] w file) signature) (walked_plain rules nothing_held 1 public a)
        ∙ ap (λ (w : Walk). walked rules [] w signature) (walked_plain rules held₁ 2 file b)
        ∙ walked_plain rules held₂ 3 signature c

    faults_behind : (rest : List (List ℕ))
        → walk_fault app.top [] (walk_from nothing_held) (public ∷ file ∷ signature ∷ rest) ≡ walk_fault app.top [] (at held₃ 4) rest
    faults_behind rest =
        fault_next nothing_held 1 public (file ∷ signature ∷ rest) a refl
        ∙ fault_next held₁ 2 file (signature ∷ rest) b refl
        ∙ fault_next held₂ 3 signature rest c refl

    three_fit : fault_of check_form (public ∷ file ∷ signature ∷ []) ≡ []
    unfolding clap_on_literals
    three_fit = ap₂ faults_with (faults_behind []) walk_ends

    three_matched : check_matched (matches_of check_form (public ∷ file ∷ signature ∷ [])) ≡ Some (check_of public file signature)
    three_matched = ap (λ (w : Walk). check_matched (finished rules w.held)) walk_ends

    -- a fourth has no argument to go to
    fourth_faulty : (fourth : List ℕ) (rest : List (List ℕ)) → slice_index fourth 0 ≢ 45
        → fault_of check_form (public ∷ file ∷ signature ∷ fourth ∷ rest) ≡ UnknownArgument ∷ []
    unfolding walk_fault
    fourth_faulty fourth rest differs =
        let words : List (List ℕ) = public ∷ file ∷ signature ∷ fourth ∷ rest in
        let after = walk_fault app.top [] (walked rules [] (at held₃ 4) fourth) rest in
        let stray = ap (λ (k : Kinds). or_else k after) (turn_plain app.top held₃ 4 fourth differs) in
        ap (λ (k : Kinds). faults_with k (walk rules [] nothing_held words)) (faults_behind (fourth ∷ rest) ∙ stray)

pub plain : (public file signature : List ℕ) → IsPlain public → IsPlain file → IsPlain signature
    → words_of (codes "check" ∷ public ∷ file ∷ signature ∷ []) ≡ Some (check_of public file signature)
unfolding taken
plain public file signature a b c =
    let words : List (List ℕ) = public ∷ file ∷ signature ∷ [] in
    let texts : list_all is_utf8 words ≡ true = rw (a.0, b.0, c.0) refl in
    ap (option_and_then check_matched) (matched_texts check_form words texts
    ∙ ap (λ (k : Kinds). if_faultless k (matches_of check_form words)) (three_fit public file signature a.1 b.1 c.1))
    ∙ three_matched public file signature a.1 b.1 c.1

untaken : (texts : Bool) (faults : Kinds) (rows : List Row) (kind : ErrorKind) → faults ≡ kind ∷ []
    → option_and_then check_matched (if texts then if_faultless faults rows else None) ≡ None
untaken true faults rows kind is = rw is refl
untaken false faults rows kind is = refl

pub a_fourth_is_none : (public file signature fourth : List ℕ) (rest : List (List ℕ)) → IsPlain public → IsPlain file → IsPlain signature → IsPlain fourth
    → words_of (codes "check" ∷ public ∷ file ∷ signature ∷ fourth ∷ rest) ≡ None
unfolding taken
a_fourth_is_none public file signature fourth rest a b c d =
    let words : List (List ℕ) = public ∷ file ∷ signature ∷ fourth ∷ rest in
    untaken (list_all is_utf8 words) (fault_of check_form words) (matches_of check_form words) UnknownArgument
    (fourth_faulty public file signature a.1 b.1 c.1 fourth rest d.1)
