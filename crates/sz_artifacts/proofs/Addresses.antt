-- The tests of an address are the forms of hosts.
use Rattle.std.proofs.Common.{◌≡◌, ℕ, ◌-◌, ◌≤◌, ◌&&◌, ◌||◌, Bool, true, false, if◌then◌else◌, List, [], ◌∷◌, length, Some, None, nat_le, refl, sym, ap, subst, ◌∙◌, inl, inr, arith, length-append}
use Rattle.std.proofs.lemmas.Bool.{cases_Bool, eqb-true, true≢false}
use Rattle.std.proofs.lemmas.Bool.Decides.{nat_tests}
use Rattle.std.proofs.lemmas.List.Sums.{AllPass-from_list_all, list_all-from_AllPass}
use Rattle.std.proofs.lemmas.Slice.Eq.{bytes_eq-Decides}
use Rattle.std.proofs.Math.Seq.{take-append_seam}
use Rattle.std.specs.Bool.{Decides}
use Rattle.std.specs.List.{AllPass, list_all}
use Rattle.std.specs.Prelude.{count_by, ◌⊎◌}
use Rattle.sz_base.specs.Byte.{is_colon}
use Rattle.sz_base.specs.Host.{in_brackets, is_ipv6_byte, is_name_byte, IsHost, IsInBrackets, IsIpv6Text, IsName}
use Rattle.sz_artifacts.specs.Address.{host_of, inner, is_in_brackets, is_ipv6_text, is_name, IsAddress}

both : (p q : Bool) → (p && q) ≡ true → (p ≡ true) × (q ≡ true)
both true q h = (refl, h)
both false q h = cc

at_most : (m n : ℕ) → nat_le m n ≡ true → m ≤ n
at_most m n h = grind (arith, nat_tests)

passes : (m n : ℕ) → m ≤ n → nat_le m n ≡ true
passes m n h = grind (arith, nat_tests)

name_decides : (text : List ℕ) → Decides (is_name text) (IsName text)
name_decides text = (
  λ h.
      let some = both _ _ h in
      let most = both _ _ some.1 in
      record { some = at_most 1 (length text) some.0; most = at_most (length text) 255 most.0; allowed = AllPass-from_list_all is_name_byte text most.1 },
  λ h.
      let some = passes 1 (length text) h.some in
      let most = passes (length text) 255 h.most in
      let all = list_all-from_AllPass is_name_byte text h.allowed in
      rw (some, most, all),
)

ipv6_decides : (text : List ℕ) → Decides (is_ipv6_text text) (IsIpv6Text text)
ipv6_decides text = (
  λ h.
      let some = both _ _ h in
      let most = both _ _ some.1 in
      let colons = both _ _ most.1 in
      record {
        some = at_most 2 (length text) some.0;
        most = at_most (length text) 45 most.0;
        allowed = AllPass-from_list_all is_ipv6_byte text colons.0;
        two_colons = at_most 2 (count_by is_colon text) colons.1;
      },
  λ h.
      let some = passes 2 (length text) h.some in
      let most = passes (length text) 45 h.most in
      let all = list_all-from_AllPass is_ipv6_byte text h.allowed in
      let colons = passes 2 (count_by is_colon text) h.two_colons in
      rw (some, most, all, colons),
)

inner-in_brackets : (text : List ℕ) → inner (in_brackets text) ≡ text
inner-in_brackets text =
    let size : length (in_brackets text) - 2 ≡ length text = omega (arith, length-append text (93 ∷ [])) in
    rw size (take-append_seam text (93 ∷ []))

brackets_decide : (text : List ℕ) → Decides (is_in_brackets text) (IsInBrackets text)
brackets_decide text = (
  λ h.
      let parts = both _ _ h in
      (inner text, (bytes_eq-Decides text (in_brackets (inner text))).0 parts.0, (ipv6_decides (inner text)).0 parts.1),
  λ h.
      let same : inner text ≡ h.0 = ap inner h.1 ∙ inner-in_brackets h.0 in
      let spelled : text ≡ in_brackets (inner text) = h.1 ∙ ap in_brackets (sym same) in
      let equal = (bytes_eq-Decides text (in_brackets (inner text))).1 spelled in
      let ipv6 = (ipv6_decides (inner text)).1 (subst IsIpv6Text (sym same) h.2) in
      rw (equal, ipv6),
)

either : (p q : Bool) → (p || q) ≡ true → (p ≡ true) ⊎ (q ≡ true)
either true q h = inl refl
either false q h = inr h

host_decides : (text : List ℕ) → Decides (is_name text || is_in_brackets text) (IsHost text)
host_decides text = (
  λ h. elim (either (is_name text) (is_in_brackets text) h) [
    | inl name ↦ inl ((name_decides text).0 name)
    | inr brackets ↦ inr ((brackets_decide text).0 brackets)
  ],
  λ h. elim h [
    | inl name ↦ rw ((name_decides text).1 name)
    | inr brackets ↦ elim (cases_Bool (is_name text)) [ inl t ↦ rw t | inr f ↦ rw (f, (brackets_decide text).1 brackets) ]
  ],
)

false_from : {P : Type 0} (test : Bool) → Decides test P → (P → ⊥) → test ≡ false
false_from true d h = absurd (h (d.0 refl))
false_from false d h = refl

-- a host names itself
pub host_of-host : (text : List ℕ) → IsHost text → host_of text ≡ Some text
unfolding host_of
host_of-host text h = rw ((host_decides text).1 h)

no_bracket : (text : List ℕ) → AllPass is_name_byte (in_brackets text) → ⊥
no_bracket text h =
    let all : list_all is_name_byte (in_brackets text) ≡ true = list_all-from_AllPass is_name_byte (in_brackets text) h in
    cc

-- an IPv6 text in brackets is a host, and no other text is
pub ipv6_from_brackets : (text : List ℕ) → IsHost (in_brackets text) → IsIpv6Text text
ipv6_from_brackets text h = elim h [
  | inl name ↦ absurd (no_bracket text name.allowed)
  | inr brackets ↦ subst IsIpv6Text (sym (inner-in_brackets brackets.0) ∙ ap inner (sym brackets.1) ∙ inner-in_brackets text) brackets.2
]

pub host_of-ipv6 : (text : List ℕ) → (IsHost text → ⊥) → IsHost (in_brackets text) → host_of text ≡ Some (in_brackets text)
unfolding host_of
host_of-ipv6 text plain h =
    let not_host = false_from _ (host_decides text) plain in
    let ipv6 = (ipv6_decides text).1 (ipv6_from_brackets text h) in
    rw (not_host, ipv6)

pub host_of-none : (text : List ℕ) → (IsHost text → ⊥) → (IsHost (in_brackets text) → ⊥) → host_of text ≡ None
unfolding host_of
host_of-none text plain not_bracketed =
    let not_host = false_from _ (host_decides text) plain in
    let not_ipv6 = false_from _ (ipv6_decides text) (λ ipv6. not_bracketed (inr (text, refl, ipv6))) in
    rw (not_host, not_ipv6)

no_colons : (text : List ℕ) → list_all is_name_byte text ≡ true → count_by is_colon text ≡ 0
no_colons [] h = refl
no_colons (byte ∷ text) h =
    let parts = both (is_name_byte byte) (list_all is_name_byte text) h in
    let rest = no_colons text parts.1 in
    elim (cases_Bool (is_colon byte)) [
      | inl colon ↦ let here : byte ≡ 58 = eqb-true byte 58 colon in absurd (true≢false (sym parts.0 ∙ ap is_name_byte here))
      | inr other ↦ rw other rest
    ]

no_mark : (text : List ℕ) → AllPass is_ipv6_byte (in_brackets text) → ⊥
no_mark text h =
    let all : list_all is_ipv6_byte (in_brackets text) ≡ true = list_all-from_AllPass is_ipv6_byte (in_brackets text) h in
    cc

no_host : (text : List ℕ) → IsIpv6Text text → IsHost text → ⊥
no_host text ipv6 h = elim h [
  | inl name ↦
      let none = no_colons text (list_all-from_AllPass is_name_byte text name.allowed) in
      omega (arith, ipv6.two_colons, none)
  | inr brackets ↦ no_mark brackets.0 (subst (AllPass is_ipv6_byte) brackets.1 ipv6.allowed)
]

-- an IPv6 text names the host of its brackets
pub host_of-ipv6_text : (text : List ℕ) → IsIpv6Text text → host_of text ≡ Some (in_brackets text)
host_of-ipv6_text text ipv6 = host_of-ipv6 text (no_host text ipv6) (inr (text, refl, ipv6))

kept : {A : Type 0} (p q : Bool) (x y z : A) → (if p then Some x else if q then Some y else None) ≡ Some z
    → ((p ≡ true) × (x ≡ z)) ⊎ ((q ≡ true) × (y ≡ z))
kept true q x y z h = inl (refl, cc)
kept false true x y z h = inr (refl, cc)
kept false false x y z h = cc

-- what the text names is a host: the text, or the text in brackets
pub IsAddress-host_of : (text host : List ℕ) → host_of text ≡ Some host → IsAddress text host
unfolding host_of
IsAddress-host_of text host h = elim (kept (is_name text || is_in_brackets text) (is_ipv6_text text) text (in_brackets text) host h) [
  | inl found ↦ (subst IsHost found.1 ((host_decides text).0 found.0), inl (sym found.1))
  | inr found ↦ (subst IsHost found.1 (inr (text, refl, (ipv6_decides text).0 found.0)), inr (sym found.1))
]
