-- Objects that are written: what is found under a name, and how deep they are.
use Rattle.std.proofs.Common.{◌≡◌, ℕ, ◌+◌, ◌≤◌, Bool, true, false, ◌||◌, if◌then◌else◌, List, [], ◌∷◌, Option, Some, None, IfSome, refl, sym, ap, ◌∙◌, inl, inr, arith, Ordering, Less, Equal, Greater, Ok, map, option_map, option_and_then}
use Rattle.std.proofs.lemmas.Bool.{cases_Bool, true≢false}
use Rattle.std.proofs.lemmas.Slice.Eq.{bytes_eq-Decides}
use Rattle.std.specs.Str.{bytes_eq}
use Rattle.std.specs.Ordering.{nat_cmp, match_ordering}
use Rattle.std.specs.Cmp.Lexicographic.{slice_cmp}
use Rattle.serde_json.proofs.Views.{get_member-put, get_member-put_other}
use Rattle.serde_json.specs.Data.{Data, object, string, array, Items, items_depth, Members, no_members, member, put, depth, members_depth}
use Rattle.serde_json.specs.Find.{get_member}
use Rattle.serde_json.specs.View.{items_of}
use Rattle.serde_json.specs.Written.{has_float, items_have_float, members_have_float}
use Rattle.sz_json.specs.Member.{in_form, needed, optional, required}
use Rattle.sz_json.specs.Name.{name_text}
use Rattle.sz_json.specs.Object.{with_member, with_members, members_of}
use Rattle.sz_json.specs.declared.name.Name.{Name}

-- the first, or else the second
abbrev pub or_before : Option Data → Option Data → Option Data
or_before (Some value) before = Some value
or_before None before = before

pub or_before-None : (o : Option Data) → or_before o None ≡ o
or_before-None None = refl
or_before-None (Some value) = refl

-- what is found under a key once the members of the list are put to those before
abbrev pub found_in : List ℕ → List (Name × Option Data) → Option Data → Option Data
found_in key [] before = before
found_in key (one ∷ more) before = found_in key more (if bytes_eq key (name_text one.0) then or_before one.1 before else before)

found_put : (key name : List ℕ) (value : Data) (members : Members) (same : Bool) → bytes_eq key name ≡ same
    → get_member key (put name value members) ≡ (if same then Some value else get_member key members)
found_put key name value before true e =
    let equal : key ≡ name = (bytes_eq-Decides key name).0 e in
    rw equal (get_member-put name value before)
found_put key name value before false e =
    get_member-put_other key name value before (λ equal. true≢false (sym ((bytes_eq-Decides key name).1 equal) ∙ e))

found_with_member : (key : List ℕ) (name : Name) (o : Option Data) (members : Members)
    → get_member key (with_member name o members) ≡ (if bytes_eq key (name_text name) then or_before o (get_member key members) else get_member key members)
found_with_member key name None before = elim (cases_Bool (bytes_eq key (name_text name))) [ inl t ↦ rw t | inr f ↦ rw f ]
found_with_member key name (Some value) before = found_put key (name_text name) value before _ refl

pub found-with_members : (key : List ℕ) (list : List (Name × Option Data)) (members : Members)
    → get_member key (with_members list members) ≡ found_in key list (get_member key members)
found-with_members key [] before = refl
found-with_members key (one ∷ more) before =
    found-with_members key more (with_member one.0 one.1 before) ∙ ap (found_in key more) (found_with_member key one.0 one.1 before)

pub found-members_of : (key : List ℕ) (list : List (Name × Option Data)) → get_member key (members_of list) ≡ found_in key list None
found-members_of key list = found-with_members key list no_members

-- no float in it, and so deep at most
pub record IsPlain (levels : ℕ) (value : Data) : Type 0 where
  pub no_float : has_float value ≡ false
  pub shallow : depth value ≤ levels

pub record ArePlain (levels : ℕ) (members : Members) : Type 0 where
  pub no_float : members_have_float members ≡ false
  pub shallow : members_depth members ≤ levels

neither : (p q : Bool) → (p || q) ≡ false → (p ≡ false) × (q ≡ false)
neither true q h = absurd (true≢false h)
neither false q h = (refl, h)

plain_at : (o : Ordering) (levels : ℕ) (key other : List ℕ) (value there : Data) (rest : Members)
    → IsPlain levels value → ArePlain levels (member other there rest) → ArePlain levels (put key value rest)
    → ArePlain levels (match_ordering o (member key value (member other there rest)) (member other value rest) (member other there (put key value rest)))
plain_at Less levels key other value there rest one all later = record {
  no_float = rw one.no_float all.no_float;
  shallow = omega (arith, one.shallow, all.shallow);
}
plain_at Equal levels key other value there rest one all later = record {
  no_float = rw one.no_float (neither (has_float there) _ all.no_float).1;
  shallow = omega (arith, one.shallow, all.shallow);
}
plain_at Greater levels key other value there rest one all later = record {
  no_float = let this : has_float there ≡ false = (neither _ _ all.no_float).0 in rw this later.no_float;
  shallow = omega (arith, later.shallow, all.shallow);
}

pub plain_put : (levels : ℕ) (key : List ℕ) (value : Data) (rest : Members) → IsPlain levels value → ArePlain levels rest → ArePlain levels (put key value rest)
plain_put levels key value no_members one all = record { no_float = rw one.no_float; shallow = omega (arith, one.shallow) }
plain_put levels key value (member other there rest) one all =
    let others : ArePlain levels rest = record { no_float = (neither _ _ all.no_float).1; shallow = omega (arith, all.shallow) } in
    plain_at (slice_cmp nat_cmp key other) levels key other value there rest one all (plain_put levels key value rest one others)

-- a member that is there is plain
abbrev pub IsPlainWhere : ℕ → Option Data → Type 0
IsPlainWhere levels o = IfSome o (IsPlain levels)

pub plain_with_member : (levels : ℕ) (name : Name) (o : Option Data) (before : Members)
    → IsPlainWhere levels o → ArePlain levels before → ArePlain levels (with_member name o before)
plain_with_member levels name None before one all = all
plain_with_member levels name (Some value) before one all = plain_put levels (name_text name) value before one all

pub plain_no_members : (levels : ℕ) → ArePlain levels no_members
plain_no_members levels = record { no_float = refl; shallow = omega arith }

pub plain_object : (levels : ℕ) (inside : Members) → ArePlain levels inside → IsPlain (levels + 1) (object inside)
plain_object levels inside all = record { no_float = all.no_float; shallow = omega (arith, all.shallow) }

-- all that are there
abbrev pub AllPlain : ℕ → List (Name × Option Data) → Type 0
AllPlain levels [] = Unit {0}
AllPlain levels (one ∷ more) = IsPlainWhere levels one.1 × AllPlain levels more

plain_with_members : (levels : ℕ) (list : List (Name × Option Data)) (before : Members) → AllPlain levels list → ArePlain levels before
    → ArePlain levels (with_members list before)
plain_with_members levels [] before h all = all
plain_with_members levels (one ∷ more) before h all =
    plain_with_members levels more (with_member one.0 one.1 before) h.1 (plain_with_member levels one.0 one.1 before h.0 all)

pub plain_members_of : (levels : ℕ) (list : List (Name × Option Data)) → AllPlain levels list → IsPlain (levels + 1) (object (members_of list))
plain_members_of levels list h = plain_object levels (members_of list) (plain_with_members levels list no_members h (plain_no_members levels))

pub plain_text : (levels : ℕ) (text : List ℕ) → IsPlain levels (string text)
plain_text levels text = record { no_float = refl; shallow = omega arith }

-- texts, bytes and the like where they are there
pub plain_where : {A : Type 0} (levels : ℕ) (form : A → Data) (o : Option A) → ((a : A) → IsPlain levels (form a)) → IsPlainWhere levels (option_map form o)
plain_where levels form None h = tt
plain_where levels form (Some a) h = h a

pub record ArePlainItems (levels : ℕ) (items : Items) : Type 0 where
  pub no_float : items_have_float items ≡ false
  pub shallow : items_depth items ≤ levels

plain_items : {A : Type 0} (levels : ℕ) (form : A → Data) (list : List A) → ((a : A) → IsPlain levels (form a))
    → ArePlainItems levels (items_of (map form list))
plain_items levels form [] h = record { no_float = refl; shallow = omega arith }
plain_items levels form (a ∷ list) h =
    let first = h a in
    let rest = plain_items levels form list h in
    record { no_float = rw first.no_float rest.no_float; shallow = omega (arith, first.shallow, rest.shallow) }

pub plain_array : {A : Type 0} (levels : ℕ) (form : A → Data) (list : List A) → ((a : A) → IsPlain levels (form a))
    → IsPlain (levels + 1) (array (items_of (map form list)))
plain_array levels form list h =
    let all = plain_items levels form list h in
    record { no_float = all.no_float; shallow = omega (arith, all.shallow) }

required_at : {A : Type 0} (form : Data → Option A) (name : Name) (o : Option Data) (a : A) → option_and_then form o ≡ Some a
    → needed name (in_form form name o) ≡ Ok a
required_at form name None a h = cc
required_at form name (Some value) a h = rw h

-- a member of a written object that has to be there, and one that need not
pub required-members_of : {A : Type 0} (form : Data → Option A) (name : Name) (list : List (Name × Option Data)) (a : A)
    → option_and_then form (found_in (name_text name) list None) ≡ Some a → required form name (object (members_of list)) ≡ Ok a
required-members_of form name list a h = rw (found-members_of (name_text name) list) (required_at form name (found_in (name_text name) list None) a h)

pub optional-members_of : {A : Type 0} (form : Data → Option A) (name : Name) (list : List (Name × Option Data)) (o : Option A) (write : A → Data)
    → found_in (name_text name) list None ≡ option_map write o → ((a : A) → o ≡ Some a → form (write a) ≡ Some a)
    → optional form name (object (members_of list)) ≡ Ok o
optional-members_of form name list None write there h = rw (found-members_of (name_text name) list, there)
optional-members_of form name list (Some a) write there h = rw (found-members_of (name_text name) list, there, h a refl)
