-- Optional meanings. An object of the outside may tell a meaning, as the bytes written to it, or tell
-- nothing; which of the two never changes.
use Rattle.std.specs.Prelude.{◌≡◌, ℕ, List, ◌++◌, take, Option, None, MatchOption, IsSomeAnd}
use Rattle.std.specs.Option.{option_map}

-- where it is told, the list now has these elements more at its end
abbrev pub Appends : {A : Type 0} → Option (List A) → Option (List A) → List A → Type 0
Appends before now more = now ≡ option_map (λ list. list ++ more) before

-- where it is told, the list now has some front of these elements more at its end
abbrev pub AppendsFront : {A : Type 0} → Option (List A) → Option (List A) → List A → Type 0
AppendsFront before now more = (n : ℕ) × Appends before now (take n more)

-- where it was told, the list has lost these elements at its front
abbrev pub TakesFront : {A : Type 0} → Option (List A) → Option (List A) → List A → Type 0
TakesFront before now front = before ≡ option_map (λ list. front ++ list) now

-- where it was told it still is, and the two are related so; where it wasn't told it isn't
abbrev pub WhereTold : {A : Type 0} → (A → A → Type 0) → Option A → Option A → Type 0
WhereTold Relates before now = MatchOption before (now ≡ None) (λ old. IsSomeAnd now (Relates old))
