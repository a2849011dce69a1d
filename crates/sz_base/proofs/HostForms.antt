-- The two forms of a host stand apart.
use Rattle.std.proofs.Common.{◌≡◌, ◌≢◌, ℕ, true, List, ◌∷◌, get_or, refl, sym, ◌∙◌, inl, inr}
use Rattle.std.specs.Prelude.{◌↔◌}
use Rattle.std.proofs.lemmas.List.{same_from_push}
use Rattle.sz_base.specs.Host.{IsHost, IsIpv6Text, IsName, in_brackets, is_name_byte}

-- no name begins with '['
pub name_without_bracket : (text inner : List ℕ) → IsName text → text ≡ in_brackets inner → ⊥
name_without_bracket text inner name e =
    let first : get_or text 0 0 ≡ 91 = rw e refl in
    let allowed = name.allowed 0 0 name.some in
    let bracket : is_name_byte 91 ≡ true = rw first at allowed in
    cc bracket

-- what stands in brackets is determined
pub brackets_apart : (a b : List ℕ) → in_brackets a ≡ in_brackets b → a ≡ b
brackets_apart a b e =
    let fronts : 91 ∷ a ≡ 91 ∷ b = (same_from_push (91 ∷ a) (91 ∷ b) 93 93 e).0 in
    cc fronts

pub bracketed_is_host : (text inner : List ℕ) → text ≡ in_brackets inner → (IsIpv6Text inner ↔ IsHost text)
bracketed_is_host text inner e = (
  λ h. inr (inner, e, h),
  λ host. elim host [
    | inl name ↦ absurd (name_without_bracket text inner name e)
    | inr brackets ↦
        let same : brackets.0 ≡ inner = brackets_apart brackets.0 inner (sym brackets.1 ∙ e) in
        rw same at brackets.2
  ],
)

pub plain_is_host : (text : List ℕ) → ((inner : List ℕ) → text ≢ in_brackets inner) → (IsName text ↔ IsHost text)
plain_is_host text plain = (
  λ name. inl name,
  λ host. elim host [
    | inl name ↦ name
    | inr brackets ↦ absurd (plain brackets.0 brackets.1)
  ],
)
