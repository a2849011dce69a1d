-- Fields frame a body in one way.
use Rattle.std.proofs.Common.{◌≡◌, ℕ, ◌<◌, ◌≤◌, List, [], ◌∷◌, length, refl, sym, ap, ◌∙◌, arith, inl, inr, Result, Ok, Err}
use Rattle.std.proofs.lemmas.List.Elements.{All-head}
use Rattle.sz_http.specs.declared.kind.Kind.{Kind}
use Rattle.sz_http.specs.declared.kind.Kind.TheVariants.{Reply}
use Rattle.sz_http.specs.declared.framing.Framing.{Framing}
use Rattle.sz_http.specs.declared.framing.Framing.TheVariants.{Length, Chunks, UntilEnd}
use Rattle.sz_http.specs.declared.framing.FramingFault.{FramingFault}
use Rattle.sz_http.specs.declared.framing.FramingFault.TheVariants.{BadHead, Coding, TooLarge}
use Rattle.sz_http.specs.Framing.{FieldList, values, content_length, IsLength, EachLengthIs, DeclaresLength, DeclaresNoLength, IsCoded, HasBadLength, HasLength, Frames}

-- two lengths of the same values are one
one_length : (texts : List (List ℕ)) (n m : ℕ) → 0 < length texts → EachLengthIs texts n → EachLengthIs texts m → n ≡ m
one_length [] n m some first second = absurd (omega arith)
one_length (text ∷ texts) n m some first second =
    (All-head (λ text. IsLength text n) text texts first).value ∙ sym (All-head (λ text. IsLength text m) text texts second).value

declared_once : (fields : FieldList) (n m : ℕ) → DeclaresLength fields n → DeclaresLength fields m → n ≡ m
declared_once fields n m first second = one_length (values content_length fields) n m first.0 first.1 second.1

-- a length isn't none
some_length : (fields : FieldList) → 0 < length (values content_length fields) → DeclaresNoLength fields → ⊥
some_length fields some none = omega (arith, ap length none)

-- ---- no bad length

no_length_good : (fields : FieldList) → DeclaresNoLength fields → HasBadLength fields → ⊥
no_length_good fields none (inl bad) = some_length fields bad.0 none
no_length_good fields none (inr bad) = some_length fields bad.0 none

length_good : (fields : FieldList) (n : ℕ) → (IsCoded fields → ⊥) → DeclaresLength fields n → HasBadLength fields → ⊥
length_good fields n plain declared (inl bad) = bad.1 n declared.1
length_good fields n plain declared (inr bad) = plain bad.1

has_length_good : (kind : Kind) (fields : FieldList) (n : ℕ) → (IsCoded fields → ⊥) → HasLength kind fields n → HasBadLength fields → ⊥
has_length_good kind fields n plain (inl declared) bad = length_good fields n plain declared bad
has_length_good kind fields n plain (inr other) bad = no_length_good fields other.1 bad

-- ---- one length

lengths_once : (kind : Kind) (fields : FieldList) (n m : ℕ) → HasLength kind fields n → HasLength kind fields m → n ≡ m
lengths_once kind fields n m (inl first) (inl second) = declared_once fields n m first second
lengths_once kind fields n m (inl first) (inr second) = absurd (some_length fields first.0 second.1)
lengths_once kind fields n m (inr first) (inl second) = absurd (some_length fields second.0 first.1)
lengths_once kind fields n m (inr first) (inr second) = first.2 ∙ sym second.2

no_end : (kind : Kind) (fields : FieldList) (n : ℕ) → HasLength kind fields n → DeclaresNoLength fields → kind ≡ Reply → ⊥
no_end kind fields n (inl declared) none reply = some_length fields declared.0 none
no_end kind fields n (inr other) none reply = other.0 reply

within : (kind : Kind) (fields : FieldList) (n m limit : ℕ) → HasLength kind fields n → DeclaresLength fields m → n ≤ limit → limit < m → ⊥
within kind fields n m limit (inl declared) over few many = omega (arith, declared_once fields n m declared over)
within kind fields n m limit (inr other) over few many = some_length fields over.0 other.1

-- ---- one framing

-- what is said with a framing or a length over the limit is said with no other answer
good_once : (kind : Kind) (fields : FieldList) (limit : ℕ) (framing other : Framing) → Frames kind fields limit (Ok framing)
    → Frames kind fields limit (Ok other) → framing ≡ other
good_once kind fields limit Chunks Chunks x y = refl
good_once kind fields limit Chunks (Length n) x y = absurd (y.1 x.1)
good_once kind fields limit Chunks UntilEnd x y = absurd (y.1 x.1)
good_once kind fields limit (Length n) Chunks x y = absurd (x.1 y.1)
good_once kind fields limit (Length n) (Length m) x y = ap (λ (k : ℕ). Length k) (lengths_once kind fields n m x.2 y.2)
good_once kind fields limit (Length n) UntilEnd x y = absurd (no_end kind fields n x.2 y.2 y.3)
good_once kind fields limit UntilEnd Chunks x y = absurd (x.1 y.1)
good_once kind fields limit UntilEnd (Length n) x y = absurd (no_end kind fields n y.2 x.2 x.3)
good_once kind fields limit UntilEnd UntilEnd x y = refl

good_or_bad : (kind : Kind) (fields : FieldList) (limit : ℕ) (framing : Framing) (fault : FramingFault) → Frames kind fields limit (Ok framing)
    → Frames kind fields limit (Err fault) → ⊥
good_or_bad kind fields limit Chunks BadHead x y = no_length_good fields x.2 y
good_or_bad kind fields limit Chunks Coding x y = y.1 x.0
good_or_bad kind fields limit Chunks (TooLarge most) x y = y.1.1 x.1
good_or_bad kind fields limit (Length n) BadHead x y = has_length_good kind fields n x.1 x.2 y
good_or_bad kind fields limit (Length n) Coding x y = y.1 x.0
good_or_bad kind fields limit (Length n) (TooLarge most) x y = within kind fields n y.1.2.0 limit x.2 y.1.2.1 x.3 y.1.2.2
good_or_bad kind fields limit UntilEnd BadHead x y = no_length_good fields x.2 y
good_or_bad kind fields limit UntilEnd Coding x y = y.1 x.0
good_or_bad kind fields limit UntilEnd (TooLarge most) x y = some_length fields y.1.2.1.0 x.2

faults_once : (kind : Kind) (fields : FieldList) (limit : ℕ) (fault other : FramingFault) → Frames kind fields limit (Err fault)
    → Frames kind fields limit (Err other) → fault ≡ other
faults_once kind fields limit BadHead BadHead x y = refl
faults_once kind fields limit BadHead Coding x y = absurd (y.0 x)
faults_once kind fields limit BadHead (TooLarge most) x y = absurd (length_good fields y.1.2.0 y.1.1 y.1.2.1 x)
faults_once kind fields limit Coding BadHead x y = absurd (x.0 y)
faults_once kind fields limit Coding Coding x y = refl
faults_once kind fields limit Coding (TooLarge most) x y = absurd (x.1 y.1.0)
faults_once kind fields limit (TooLarge most) BadHead x y = absurd (length_good fields x.1.2.0 x.1.1 x.1.2.1 y)
faults_once kind fields limit (TooLarge most) Coding x y = absurd (y.1 x.1.0)
faults_once kind fields limit (TooLarge most) (TooLarge least) x y = ap (λ (n : ℕ). TooLarge n) (x.0 ∙ sym y.0)

-- fields frame a body in one way, or are refused for one fault
pub frames_once : (kind : Kind) (fields : FieldList) (limit : ℕ) (answer other : Result Framing FramingFault) → Frames kind fields limit answer
    → Frames kind fields limit other → answer ≡ other
frames_once kind fields limit (Ok framing) (Ok other) x y = ap (λ (f : Framing). Ok f) (good_once kind fields limit framing other x y)
frames_once kind fields limit (Ok framing) (Err fault) x y = absurd (good_or_bad kind fields limit framing fault x y)
frames_once kind fields limit (Err fault) (Ok framing) x y = absurd (good_or_bad kind fields limit framing fault y x)
frames_once kind fields limit (Err fault) (Err other) x y = ap (λ (f : FramingFault). Err f) (faults_once kind fields limit fault other x y)
