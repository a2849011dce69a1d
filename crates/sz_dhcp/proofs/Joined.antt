-- What is spelled one after another: how far it was read, and that it has one reading.
use Rattle.std.proofs.Common.{◌≡◌, ◌≢◌, ℕ, List, [], ◌∷◌, ◌++◌, length, refl, sym, ap, ◌∙◌, append_assoc}
use Rattle.std.proofs.lemmas.List.{append-nil, append_cancel_left}
use Rattle.sz_dhcp.specs.Spelled.{BeginsWith, BreaksAt, EndsInside, Joined}

-- one item more
pub Joined-push : {A B : Type 0} (StandsFor : A → List B → Type 0) (items : List A) (item : A) (whole own : List B)
    → Joined StandsFor items whole → StandsFor item own → Joined StandsFor (items ++ item ∷ []) (whole ++ own)
Joined-push StandsFor [] item whole own none given =
    (own, [], ap (λ (xs : List _). xs ++ own) none ∙ sym (append-nil own), given, refl)
Joined-push StandsFor (x ∷ items) item whole own joined given = (
  joined.0,
  joined.1 ++ own,
  ap (λ (xs : List _). xs ++ own) joined.2 ∙ append_assoc joined.0 joined.1 own,
  joined.3,
  Joined-push StandsFor items item joined.1 own joined.4 given,
)

-- the bytes are these items, and then what is left
pub record IsReadUpTo {A : Type 0} (IsSpelled : A → List ℕ → Type 0) (bytes : List ℕ) (items : List A) (left : List ℕ) : Type 0 where
  pub front : List ℕ
  pub joined : bytes ≡ front ++ left
  pub spelled : Joined IsSpelled items front

pub nothing_read : {A : Type 0} (IsSpelled : A → List ℕ → Type 0) (bytes : List ℕ) → IsReadUpTo IsSpelled bytes [] bytes
nothing_read IsSpelled bytes = record { front = []; joined = refl; spelled = refl }

pub read_more : {A : Type 0} (IsSpelled : A → List ℕ → Type 0) (bytes : List ℕ) (items : List A) (left rest : List ℕ) (item : A)
    → IsReadUpTo IsSpelled bytes items left → BeginsWith IsSpelled left item rest
    → IsReadUpTo IsSpelled bytes (items ++ item ∷ []) rest
read_more IsSpelled bytes items left rest item read begins = record {
  front = read.front ++ begins.own;
  joined = read.joined ∙ ap (λ (xs : List ℕ). read.front ++ xs) begins.joined ∙ sym (append_assoc read.front begins.own rest);
  spelled = Joined-push IsSpelled items item read.front begins.own read.spelled begins.spelled;
}

-- where an item ends too early behind what was read
pub breaks_there : {A : Type 0} (IsSpelled : A → List ℕ → Type 0) (bytes : List ℕ) (items : List A) (left : List ℕ)
    → (read : IsReadUpTo IsSpelled bytes items left) → EndsInside IsSpelled left → BreaksAt IsSpelled bytes (length read.front)
breaks_there IsSpelled bytes items left read inside = record {
  items = items;
  front = read.front;
  rest = left;
  joined = read.joined;
  spelled = read.spelled;
  inside = inside;
  place_is = refl;
}

-- ---- one reading

-- items are told apart at the front of bytes
abbrev pub AreApart : {A : Type 0} → (A → List ℕ → Type 0) → Type 0
AreApart {A} IsSpelled = (item other : A) (own others rest more : List ℕ) → IsSpelled item own → IsSpelled other others
    → own ++ rest ≡ others ++ more → (item ≡ other) × (own ≡ others)

-- no item begins there
abbrev pub Stops : {A : Type 0} → (A → List ℕ → Type 0) → List ℕ → Type 0
Stops {A} IsSpelled rest = (item : A) (own after : List ℕ) → IsSpelled item own → rest ≢ own ++ after

-- what two readings have at their front, and what is behind it
pub same_step : {A : Type 0} (IsSpelled : A → List ℕ → Type 0) → AreApart IsSpelled → (item other : A) (own others rest more : List ℕ)
    → IsSpelled item own → IsSpelled other others → own ++ rest ≡ others ++ more
    → (item ≡ other) × (own ≡ others) × (rest ≡ more)
same_step IsSpelled apart item other own others rest more spelled second e =
    let first = apart item other own others rest more spelled second e in
    let tails = append_cancel_left own rest more (e ∙ ap (λ (xs : List ℕ). xs ++ more) (sym first.1)) in
    (first.0, first.1, tails)

-- what is joined to nothing is nothing
pub nothing_behind : (xs ys : List ℕ) → xs ++ ys ≡ [] → ys ≡ []
nothing_behind [] ys e = e
nothing_behind (x ∷ xs) ys e = cc e

-- two readings of the same bytes, each of which stops behind its items
pub same_reading : {A : Type 0} (IsSpelled : A → List ℕ → Type 0) → AreApart IsSpelled → (items others : List A)
    (front other rest more : List ℕ) → Joined IsSpelled items front → Joined IsSpelled others other
    → Stops IsSpelled rest → Stops IsSpelled more → front ++ rest ≡ other ++ more
    → (items ≡ others) × (front ≡ other) × (rest ≡ more)
same_reading IsSpelled apart [] [] front other rest more none nothing stops ends e =
    let whole = rw (none, nothing) at e in
    (refl, none ∙ sym nothing, whole)
same_reading IsSpelled apart [] (y ∷ others) front other rest more none joined stops ends e =
    let whole = rw (none, joined.2, append_assoc joined.0 joined.1 more) at e in
    absurd (stops y joined.0 (joined.1 ++ more) joined.3 whole)
same_reading IsSpelled apart (x ∷ items) [] front other rest more joined none stops ends e =
    let whole = rw (none, joined.2, append_assoc joined.0 joined.1 rest) at e in
    absurd (ends x joined.0 (joined.1 ++ rest) joined.3 (sym whole))
same_reading {A} IsSpelled apart (x ∷ items) (y ∷ others) front other rest more joined second stops ends e =
    let whole : joined.0 ++ (joined.1 ++ rest) ≡ second.0 ++ (second.1 ++ more) =
    sym (append_assoc joined.0 joined.1 rest) ∙ ap (λ (xs : List ℕ). xs ++ rest) (sym joined.2) ∙ e
    ∙ ap (λ (xs : List ℕ). xs ++ more) second.2 ∙ append_assoc second.0 second.1 more in
    let first = same_step IsSpelled apart x y joined.0 second.0 (joined.1 ++ rest) (second.1 ++ more) joined.3 second.3 whole in
    let others_are = same_reading IsSpelled apart items others joined.1 second.1 rest more joined.4 second.4 stops ends first.2 in (
      ap (λ (z : A). z ∷ items) first.0 ∙ ap (λ (zs : List A). y ∷ zs) others_are.0,
      joined.2 ∙ ap (λ (xs : List ℕ). xs ++ joined.1) first.1 ∙ ap (λ (xs : List ℕ). second.0 ++ xs) others_are.1 ∙ sym second.2,
      others_are.2,
    )

-- no item begins where one ends too early
pub Stops-inside : {A : Type 0} (IsSpelled : A → List ℕ → Type 0) → AreApart IsSpelled → (rest : List ℕ)
    → EndsInside IsSpelled rest → Stops IsSpelled rest
Stops-inside IsSpelled apart rest inside item own after spelled e =
    let cut = inside.unfinished in
    let whole : own ++ (after ++ cut.missing) ≡ (rest ++ cut.missing) ++ [] =
    sym (append_assoc own after cut.missing) ∙ ap (λ (xs : List ℕ). xs ++ cut.missing) (sym e) ∙ sym (append-nil (rest ++ cut.missing)) in
    let same = apart item cut.item own (rest ++ cut.missing) (after ++ cut.missing) [] spelled cut.whole whole in
    let tail : own ++ (after ++ cut.missing) ≡ own ++ [] =
    whole ∙ ap (λ (xs : List ℕ). xs ++ []) (sym same.1) in
    let none = append_cancel_left own (after ++ cut.missing) [] tail in
    cut.not_all (nothing_behind after cut.missing none)

-- whole items are read once
pub one_whole : {A : Type 0} (IsSpelled : A → List ℕ → Type 0) → AreApart IsSpelled → Stops IsSpelled []
    → (bytes : List ℕ) (items others : List A) → Joined IsSpelled items bytes → Joined IsSpelled others bytes → items ≡ others
one_whole IsSpelled apart stop bytes items others a b =
    (same_reading IsSpelled apart items others bytes bytes [] [] a b stop stop refl).0

-- bytes break at one place
pub one_break : {A : Type 0} (IsSpelled : A → List ℕ → Type 0) → AreApart IsSpelled → (bytes : List ℕ) (place other : ℕ)
    → BreaksAt IsSpelled bytes place → BreaksAt IsSpelled bytes other → place ≡ other
one_break IsSpelled apart bytes place other a b =
    let same = same_reading IsSpelled apart a.items b.items a.front b.front a.rest b.rest a.spelled b.spelled
    (Stops-inside IsSpelled apart a.rest a.inside) (Stops-inside IsSpelled apart b.rest b.inside) (sym a.joined ∙ b.joined) in
    a.place_is ∙ ap length same.1 ∙ sym b.place_is

-- and whole items do not break
pub whole_or_break : {A : Type 0} (IsSpelled : A → List ℕ → Type 0) → AreApart IsSpelled → Stops IsSpelled []
    → (bytes : List ℕ) (items : List A) (place : ℕ) → Joined IsSpelled items bytes → BreaksAt IsSpelled bytes place → ⊥
whole_or_break IsSpelled apart stop bytes items place whole b =
    let same = same_reading IsSpelled apart items b.items bytes b.front [] b.rest whole b.spelled
    stop (Stops-inside IsSpelled apart b.rest b.inside) (append-nil bytes ∙ b.joined) in
    b.inside.begun (sym same.2)

-- items that stand for one list each stand for one list together
pub joined_once : {A B : Type 0} (StandsFor : A → List B → Type 0)
    → ((item : A) (own others : List B) → StandsFor item own → StandsFor item others → own ≡ others)
    → (items : List A) (whole other : List B) → Joined StandsFor items whole → Joined StandsFor items other → whole ≡ other
joined_once StandsFor once [] whole other a b = a ∙ sym b
joined_once StandsFor once (item ∷ items) whole other a b =
    let firsts = once item a.0 b.0 a.3 b.3 in
    let others = joined_once StandsFor once items a.1 b.1 a.4 b.4 in
    a.2 ∙ ap (λ (xs : List _). xs ++ a.1) firsts ∙ ap (λ (xs : List _). b.0 ++ xs) others ∙ sym b.2
