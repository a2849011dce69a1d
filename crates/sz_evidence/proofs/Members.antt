-- Members of an identity file that are there, and that are not.
use Rattle.std.proofs.Common.{◌≡◌, inl, inr, ℕ, ◌≤◌, Bool, true, false, if◌then◌else◌, List, [], ◌∷◌, length, Option, Some, None, Result, Ok, Err, IfErr, refl, sym, ◌∙◌, subst}
use Rattle.std.specs.Prelude.{IsErrAnd, is_some, option_map}
use Rattle.std.proofs.lemmas.List.Elements.{All-cons, All-nil}
use Rattle.std.proofs.lemmas.Option.{same_Some}
use Rattle.std.specs.List.{All}
use Rattle.std.proofs.lemmas.Result.{err_from_is_err_and}
use Rattle.serde_json.specs.Data.{Data, Items, no_items, item}
use Rattle.serde_json.specs.Find.{as_object, get}
use Rattle.sz_base.proofs.Padded.{decodes}
use Rattle.sz_base.specs.Encoding.{IsBase64}
use Rattle.sz_base.specs.Identity.{most_anchor_bytes, most_anchors}
use Rattle.sz_base.specs.Serial.{IsSerial}
use Rattle.sz_json.specs.Fault.{fault_of, IsFault}
use Rattle.sz_json.specs.Form.{list_of, text_of}
use Rattle.sz_json.specs.Json.{IsJson}
use Rattle.sz_json.specs.Member.{in_form, needed, optional, or_fault, required}
use Rattle.sz_json.specs.Name.{name_text}
use Rattle.sz_json.specs.declared.fault.JsonFault.{JsonFault}
use Rattle.sz_json.specs.declared.fault.JsonFault.TheVariants as json
use Rattle.sz_json.specs.declared.name.Name.{Name}
use Rattle.sz_json.specs.declared.name.Name.TheVariants as name
use Rattle.sz_evidence.specs.IdentityFile.{AreAnchors, Exists, HasAnchors, HasText, identity_fault_of, IsAnchor, IsBadIdentity, IsShort, Lacks, NamesBad}
use Rattle.sz_evidence.specs.declared.identity.IdentityFault.{IdentityFault}
use Rattle.sz_evidence.specs.declared.identity.IdentityFault.TheVariants as fault

-- what the exit of a call returns
pub exit : {T : Type 0} (answer : Result T IdentityFault) (other : IdentityFault) (P : IdentityFault → Type 0) →
    IsErrAnd answer (λ found. found ≡ other) → P other → IfErr answer P
exit answer other P is h =
    let p = err_from_is_err_and answer is in
    rw (p.1, p.2) h

pub lacks_by : {A B : Type 0} (asked : Name) (Is : A → Type 0) (Other : B → Type 0) (answer : IdentityFault) → (Exists Other → Exists Is) →
    Lacks asked Is answer → Lacks asked Other answer
lacks_by asked Is Other (fault.Bad found) back lacks = (λ there. lacks.0 (back there), lacks.1)
lacks_by asked Is Other fault.OutOfMemory back lacks = tt

-- ---- a member that has to be there is at fault under its name

needed_name : {A : Type 0} (asked found : Name) (member : Result (Option A) Name) → ((other : Name) → member ≡ Err other → other ≡ asked) →
    fault_of (needed asked member) ≡ Some found → found ≡ asked
needed_name asked found (Ok None) own is = sym (same_Some asked found is)
needed_name asked found (Ok (Some a)) own is = cc
needed_name asked found (Err other) own is = sym (same_Some other found is) ∙ own other refl

formed_name : {A : Type 0} (asked other : Name) (a : Option (Option A)) → or_fault asked a ≡ Err other → other ≡ asked
formed_name asked other None is = cc
formed_name asked other (Some a) is = cc

in_form_name : {A : Type 0} (form : Data → Option A) (asked other : Name) (member : Option Data) → in_form form asked member ≡ Err other → other ≡ asked
in_form_name form asked other None is = cc
in_form_name form asked other (Some value) is = formed_name asked other (option_map Some (form value)) is

optional_name : {A : Type 0} (form : Data → Option A) (asked other : Name) (value : Data) (object : Bool) →
    (if object then in_form form asked (get (name_text asked) value) else Err asked) ≡ Err other → other ≡ asked
optional_name form asked other value true is = in_form_name form asked other (get (name_text asked) value) is
optional_name form asked other value false is = cc

pub required_name : {A : Type 0} (form : Data → Option A) (asked found : Name) (value : Data) → fault_of (required form asked value) ≡ Some found →
    found ≡ asked
required_name form asked found value is =
    needed_name asked found (optional form asked value) (λ other e. optional_name form asked other value (is_some (as_object value)) e) is

no_member : {A : Type 0} (member : Result A Name) (found : Name) (a : A) → fault_of member ≡ Some found → member ≡ Ok a → ⊥
no_member (Ok b) found a is same = cc
no_member (Err other) found a is same = cc

pub lacks_text : (asked : Name) (IsForm : List ℕ → Type 0) (value : Data) (answer : JsonFault) → IsFault (fault_of (required text_of asked value)) answer →
    Lacks asked (HasText asked IsForm value) (identity_fault_of answer)
lacks_text asked IsForm value json.OutOfMemory is = tt
lacks_text asked IsForm value (json.Member found) is =
    let e = is found refl in
    (λ (text, has). no_member (required text_of asked value) found text e has.is_text, required_name text_of asked found value e)

-- ---- anchors

pub one_anchor : (entry : Data) (anchor other : List ℕ) → IsAnchor entry anchor → IsAnchor entry other → anchor ≡ other
one_anchor entry anchor other is same =
    let e = same_Some same.text is.text (sym same.is_text ∙ is.is_text) in
    let others = subst (λ (text : List ℕ). IsBase64 text other) e same.is_base64 in
    cc (sym (decodes is.text anchor is.is_base64) ∙ decodes is.text other others)

-- the bytes of the text are those of the anchor
pub anchor_is : (entry : Data) (text bytes anchor : List ℕ) → text_of entry ≡ Some text → IsBase64 text bytes → IsAnchor entry anchor → anchor ≡ bytes
anchor_is entry text bytes anchor is_text spelled is =
    let e = same_Some is.text text (sym is.is_text ∙ is_text) in
    let others = subst (λ (one : List ℕ). IsBase64 one anchor) e is.is_base64 in
    cc (sym (decodes text anchor others) ∙ decodes text bytes spelled)

pub one_list : (entries : Items) (anchors others : List (List ℕ)) → AreAnchors entries anchors → AreAnchors entries others → anchors ≡ others
one_list no_items [] [] is same = refl
one_list no_items [] (other ∷ others) is same = absurd same
one_list no_items (anchor ∷ anchors) others is same = absurd is
one_list (item entry entries) [] others is same = absurd is
one_list (item entry entries) (anchor ∷ anchors) [] is same = absurd same
one_list (item entry entries) (anchor ∷ anchors) (other ∷ others) is same =
    let e = one_anchor entry anchor other is.0 same.0 in
    let f = one_list entries anchors others is.1 same.1 in
    cc

-- a list whose first entry is an anchor, and what follows
pub first_of_list : (entry : Data) (entries : Items) → Exists (AreAnchors (item entry entries)) → Exists (IsAnchor entry)
first_of_list entry entries ([], is) = absurd is
first_of_list entry entries (anchor ∷ anchors, is) = (anchor, is.0)

pub rest_of_list : (entry : Data) (entries : Items) → Exists (AreAnchors (item entry entries)) → Exists (AreAnchors entries)
rest_of_list entry entries ([], is) = absurd is
rest_of_list entry entries (anchor ∷ anchors, is) = (anchors, is.1)

pub short_anchors : (entries : Items) (anchors : List (List ℕ)) → AreAnchors entries anchors → All (λ anchor. length anchor ≤ most_anchor_bytes) anchors
short_anchors no_items [] is = All-nil (λ anchor. length anchor ≤ most_anchor_bytes)
short_anchors no_items (anchor ∷ anchors) is = absurd is
short_anchors (item entry entries) [] is = absurd is
short_anchors (item entry entries) (anchor ∷ anchors) is =
    All-cons (λ (one : List ℕ). length one ≤ most_anchor_bytes) anchor anchors is.0.few (short_anchors entries anchors is.1)

pub other_count : (value : Data) (entries : Items) (anchors : List (List ℕ)) → required list_of name.Anchors value ≡ Ok entries →
    AreAnchors entries anchors → ((1 ≤ length anchors) × (length anchors ≤ most_anchors) → ⊥) → Exists (HasAnchors value) → ⊥
other_count value entries anchors is_list each other (all, has) =
    let both : Ok has.entries ≡ Ok entries = sym has.is_list ∙ is_list in
    let e : has.entries ≡ entries = cc in
    let same = one_list entries all anchors (subst (λ (some : Items). AreAnchors some all) e has.each) each in
    other (subst (λ (one : List (List ℕ)). (1 ≤ length one) × (length one ≤ most_anchors)) same (has.some, has.most))

-- ---- the whole

pub bad_anchors : (bytes : List ℕ) (value : Data) (answer : IdentityFault) → IsJson bytes value →
    Exists (HasText name.Serial IsSerial value) → Exists (HasText name.OsName IsShort value) → Exists (HasText name.OsVersion IsShort value) →
    Lacks name.Anchors (HasAnchors value) answer → NamesBad (IsBadIdentity bytes) answer
bad_anchors bytes value fault.OutOfMemory is serial os_name os_version lacks = tt
bad_anchors bytes value (fault.Bad found) is serial os_name os_version lacks =
    inr (value, is, inr (serial, inr (os_name, inr (os_version, inl lacks))))
