-- Links, lists and nodes, place by place.
use Rattle.std.proofs.Common.{◌≡◌, ◌↔◌, ◌≤ℤ◌, ◌<◌, ◌+◌, ◌++◌, ℕ, ℤ, Bool, true, false, true≢false, cond, List, [], ◌∷◌, length, get_or, Option, None, Some, refl, sym, ◌∙◌, subst, inl, inr, arith}
use Rattle.sz_lms.specs.Hss.{HssOk}
use Rattle.sz_x509.specs.CrlView.{list_view}
use Rattle.sz_x509.specs.RevocationList.{AreEntries, CrlOf, is_listed, IsRevoked, RevocationList}
use Rattle.sz_x509.specs.View.{view}
use Rattle.sz_x509.specs.declared.crl.Crl.{Crl}
use Rattle.sz_chain.specs.Chain.{counts, IsValidAt, MaySign}
use Rattle.sz_chain.specs.Cleared.{IsCurrent, IsNotOver, IsRevokedBy}
use Rattle.sz_chain.specs.Issuer.{crl_sign, MayUse}
use Rattle.sz_chain.specs.Links.{AreInOne, AreLinks, IsLink, NamesIssuer}
use Rattle.sz_chain.specs.Lists.{AreLists, AreRead, ClearAt}
use Rattle.sz_chain.specs.Places.{issuer_at}
use Rattle.sz_chain.specs.Sets.{AreAt, At, has}
use Rattle.sz_chain.specs.Ways.{AreNodes, AreSteps, IsNodeOf, IsStep}
use Rattle.sz_chain.specs.declared.lists.CurrentList.{CurrentList}
use Rattle.sz_chain.specs.declared.node.Node.{Node}
use Rattle.sz_chain.specs.declared.place.Place.{Place}
use Rattle.sz_chain.specs.declared.set.PlaceSet.{PlaceSet}
use Rattle.sz_chain.proofs.Clears.{AreClearing, SoFar, sofar_all, sofar_passed, sofar_told}
use Rattle.sz_chain.proofs.Elements.{at_default, at_one, at_some, at_within, grows}
use Rattle.sz_chain.proofs.Told.{clearing_steps}

-- ---- views

key_of : (place : Place) → (issuer_at place).key ≡ place.cert.key.now
unfolding view
key_of place = refl

tbs_of : (place : Place) → (view place.cert).tbs ≡ place.cert.tbs.now
unfolding view
tbs_of place = refl

signature_of : (place : Place) → (view place.cert).signature ≡ place.cert.signature.now
unfolding view
signature_of place = refl

list_issuer : (list : Crl) → (list_view list).issuer ≡ list.issuer.now
unfolding list_view
list_issuer list = refl

list_tbs : (list : Crl) → (list_view list).tbs ≡ list.tbs.now
unfolding list_view
list_tbs list = refl

list_signature : (list : Crl) → (list_view list).signature ≡ list.signature.now
unfolding list_view
list_signature list = refl

list_entries : (list : Crl) → (list_view list).entries ≡ list.entries.now
unfolding list_view
list_entries list = refl

ok_along : (key other tbs more signature last : List ℕ) → key ≡ other → tbs ≡ more → signature ≡ last → HssOk key tbs signature → HssOk other more last
ok_along key other tbs more signature last e f g ok =
    subst (λ (k : List ℕ). HssOk k more last) e (subst (λ (t : List ℕ). HssOk key t last) f (subst (λ (s : List ℕ). HssOk key tbs s) g ok))

-- ---- links

pub links_are : (when : ℤ) (places : List Place) (cert : Place) (fresh named set : PlaceSet) → cert.is_anchor ≡ false →
    IsValidAt when (view cert.cert) → AreAt places (λ above issuer. NamesIssuer when cert issuer × (has fresh above ≡ true)) named →
    AreAt places (λ at issuer. (has named at ≡ true) × HssOk issuer.cert.key.now cert.cert.tbs.now cert.cert.signature.now) set →
    AreAt places (λ above issuer. IsLink when cert issuer × (has fresh above ≡ true)) set
links_are when places cert fresh named set kind valid names verified place = (
  λ e.
      let told = (verified place).0 e in
      let name = (names place).0 told.2.0 in (
        told.0,
        told.1,
        (
          record {
            no_anchor = kind;
            valid = valid;
            names = subst (λ (p : Place). NamesIssuer when cert p) (at_one places place name.0 told.0 name.1 told.1) name.2.0;
            signed = ok_along _ _ _ _ _ _ (sym (key_of told.0)) (sym (tbs_of cert)) (sym (signature_of cert)) told.2.1;
          },
          name.2.1,
        ),
      ),
  λ link. (verified place).1 (
    link.0,
    link.1,
    (
      (names place).1 (link.0, link.1, (link.2.0.names, link.2.1)),
      ok_along _ _ _ _ _ _ (key_of link.0) (tbs_of cert) (signature_of cert) link.2.0.signed,
    ),
  ),
)

-- ---- lists

-- the list is current at the time, whoever issued it
abbrev pub IsCurrentAt : ℤ → RevocationList → Type 0
IsCurrentAt when list = (list.this_update ≤ℤ when) × IsNotOver when list.next_update

pub list_is : (when : ℤ) (places : List Place) (list : Crl) (wanted named set : PlaceSet) → IsCurrentAt when (list_view list) →
    AreAt places (λ at place. ((list.issuer.now ≡ (issuer_at place).name) × MayUse crl_sign (issuer_at place).usage) × (has wanted at ≡ true)) named →
    AreAt places (λ at place. (has named at ≡ true) × HssOk place.cert.key.now list.tbs.now list.signature.now) set →
    AreAt places (λ at place. IsCurrent when (issuer_at place) (list_view list) × (has wanted at ≡ true)) set
list_is when places list wanted named set current names verified place = (
  λ e.
      let told = (verified place).0 e in
      let name = (names place).0 told.2.0 in
      let same : name.0 ≡ told.0 = at_one places place name.0 told.0 name.1 told.1 in
      let name' = subst (λ (p : Place). (list.issuer.now ≡ (issuer_at p).name) × MayUse crl_sign (issuer_at p).usage) same name.2.0 in (
        told.0,
        told.1,
        (
          record {
            named = list_issuer list ∙ name'.0;
            usage = name'.1;
            issued = current.0;
            not_over = current.1;
            signed = ok_along _ _ _ _ _ _ (sym (key_of told.0)) (sym (list_tbs list)) (sym (list_signature list)) told.2.1;
          },
          name.2.1,
        ),
      ),
  λ is. (verified place).1 (
    is.0,
    is.1,
    (
      (names place).1 (is.0, is.1, ((sym (list_issuer list) ∙ is.2.0.named, is.2.0.usage), is.2.1)),
      ok_along _ _ _ _ _ _ (key_of is.0) (list_tbs list) (list_signature list) is.2.0.signed,
    ),
  ),
)

pub list_isnt : (when : ℤ) (places : List Place) (list : Crl) (wanted set : PlaceSet) → (IsCurrentAt when (list_view list) → ⊥) →
    ((place : ℕ) → has set place ≡ false) →
    AreAt places (λ at place. IsCurrent when (issuer_at place) (list_view list) × (has wanted at ≡ true)) set
list_isnt when places list wanted set isnt none place =
    (λ e. absurd (true≢false (sym e ∙ none place)), λ is. absurd (isnt (is.2.0.issued, is.2.0.not_over)))

-- ---- what a list has

serials_in : (entries bytes : List ℕ) → IsRevoked entries bytes → (serials : List (List ℕ)) × AreEntries serials entries
serials_in entries bytes (inl none) = ([], none.1)
serials_in entries bytes (inr some) = (some.0, some.1)

module _ (list : Crl) (serial : List ℕ) (found : Bool)
    (tells : (serials : List (List ℕ)) → AreEntries serials list.entries.now → found ≡ is_listed serial serials) where
  pub revoked : (bytes : List ℕ) → CrlOf bytes (list_view list) → found ≡ true → IsRevokedBy (list_view list) serial
  revoked bytes is e =
      let some = serials_in (list_view list).entries is.is_tbs.revoked is.is_tbs.is_revoked in
      let are = subst (λ (b : List ℕ). AreEntries some.0 b) (list_entries list) some.1 in
      (some.0, some.1, sym (tells some.0 are) ∙ e)

  pub not_revoked : found ≡ false → IsRevokedBy (list_view list) serial → ⊥
  not_revoked e is =
      let are = subst (λ (b : List ℕ). AreEntries is.0 b) (list_entries list) is.1 in
      true≢false (sym (tells is.0 are ∙ is.2) ∙ e)

module _ (lists : List CurrentList) (place : ℕ) (serial : List ℕ) (n : ℕ) (d : CurrentList) (within : n < length lists) where
  pub told_revokes : AreRead lists → (found : Bool) → has (get_or lists n d).issuers place ≡ true →
      ((serials : List (List ℕ)) → AreEntries serials (get_or lists n d).list.entries.now → found ≡ is_listed serial serials) → found ≡ true →
      ClearAt lists place serial → ⊥
  told_revokes read found in_set tells e clear =
      let here = at_default lists n d within in
      let is = read n (get_or lists n d) here in
      clear.not_revoked n (get_or lists n d) here in_set (revoked (get_or lists n d).list serial found tells is.0 is.1 e)

  pub told_clears : (found is_told : Bool) → has (get_or lists n d).issuers place ≡ true →
      ((serials : List (List ℕ)) → AreEntries serials (get_or lists n d).list.entries.now → found ≡ is_listed serial serials) → found ≡ false →
      SoFar lists place serial n is_told → SoFar lists place serial (n + 1) true
  told_clears found is_told in_set tells e sofar =
      sofar_told lists serial place n is_told (get_or lists n d) sofar (at_default lists n d within) in_set
      (not_revoked (get_or lists n d).list serial found tells e)

  pub told_passes : (is_told : Bool) → has (get_or lists n d).issuers place ≡ false → SoFar lists place serial n is_told →
      SoFar lists place serial (n + 1) is_told
  told_passes is_told out sofar = sofar_passed lists serial place n is_told (get_or lists n d) sofar (at_default lists n d within) out

pub told_all : (lists : List CurrentList) (place : ℕ) (serial : List ℕ) (n : ℕ) (is_told : Bool) → n ≡ length lists →
    SoFar lists place serial n is_told → (is_told ≡ true) ↔ ClearAt lists place serial
told_all lists place serial n is_told e sofar =
    sofar_all lists serial place is_told (subst (λ (m : ℕ). SoFar lists place serial m is_told) e sofar)

-- ---- issuers that clear

pub cleared_more : (places : List Place) (links : List PlaceSet) (lists : List CurrentList) (cleared new : List PlaceSet) (n : ℕ) (d : Place) (e : PlaceSet)
    (set : PlaceSet) → n < length places → length links ≡ length places → length cleared ≡ n →
    AreClearing lists (length places) (get_or links n e) (get_or places n d).cert.serial.now set → new ≡ cleared ++ set ∷ [] →
    ((at : ℕ) (c : PlaceSet) → At cleared at c → (cert : Place) (issuers : PlaceSet) → At places at cert → At links at issuers →
    AreClearing lists (length places) issuers cert.cert.serial.now c) →
    (at : ℕ) (c : PlaceSet) → At new at c → (cert : Place) (issuers : PlaceSet) → At places at cert → At links at issuers →
    AreClearing lists (length places) issuers cert.cert.serial.now c
cleared_more places links lists cleared new n d e set within as_many len are is each =
    grows (λ at c. (cert : Place) (issuers : PlaceSet) → At places at cert → At links at issuers →
    AreClearing lists (length places) issuers cert.cert.serial.now c) cleared new n set is len each
    (λ cert issuers here there.
    let p = at_one places n (get_or places n d) cert (at_default places n d within) here in
    let l = at_one links n (get_or links n e) issuers (at_default links n e (omega (arith, as_many, within))) there in
    subst (λ (x : Place). AreClearing lists (length places) issuers x.cert.serial.now set) p
    (subst (λ (x : PlaceSet). AreClearing lists (length places) x (get_or places n d).cert.serial.now set) l are))

pub cleared_steps : (when : ℤ) (crls : List (List ℕ)) (places : List Place) (wanted : PlaceSet) (links cleared : List PlaceSet)
    (lists : List CurrentList) → length cleared ≡ length places → AreLinks when places links → AreInOne links wanted →
    AreLists when crls places wanted lists →
    ((at : ℕ) (c : PlaceSet) → At cleared at c → (cert : Place) (issuers : PlaceSet) → At places at cert → At links at issuers →
    AreClearing lists (length places) issuers cert.cert.serial.now c) →
    AreSteps (Some crls) when places cleared
cleared_steps when crls places wanted links cleared lists as_many linked among are each = record {
  as_many = as_many;
  each = λ at cert c here there.
      let issuers = at_some links at (omega (arith, at_within places at cert here, linked.as_many)) in
      clearing_steps when places wanted crls lists cert issuers.0 c are (linked.each at cert issuers.0 here issuers.1)
      (each at c there cert issuers.0 here issuers.1) (λ place issues. (among place).1 (at, issuers.0, issuers.1, issues));
}

-- ---- nodes

-- what is told of a node
pub record IsMade (when : ℤ) (place : Place) (issuers : PlaceSet) (is_signer : Bool) (node : Node) : Type 0 where
  pub issuers_are : node.issuers ≡ issuers
  pub limit : node.limit ≡ cond place.is_anchor None (view place.cert).restrictions.path_len
  pub counted : node.is_counted ≡ counts (view place.cert)
  pub kind : node.is_anchor ≡ place.is_anchor
  pub starts : (node.is_start ≡ true) ↔ ((is_signer ≡ true) × MaySign when (view place.cert))

pub nodes_more : (when : ℤ) (signers : PlaceSet) (places : List Place) (steps : List PlaceSet) (nodes new : List Node) (n : ℕ) (d : Place) (e : PlaceSet)
    (is_signer : Bool) (node : Node) → n < length places → length steps ≡ length places → length nodes ≡ n → is_signer ≡ has signers n →
    IsMade when (get_or places n d) (get_or steps n e) is_signer node → new ≡ nodes ++ node ∷ [] →
    ((at : ℕ) (x : Node) → At nodes at x → (crls : Option (List (List ℕ))) → AreSteps crls when places steps → (place : Place) → At places at place →
    IsNodeOf crls when signers places at place x) →
    (at : ℕ) (x : Node) → At new at x → (crls : Option (List (List ℕ))) → AreSteps crls when places steps → (place : Place) → At places at place →
    IsNodeOf crls when signers places at place x
nodes_more when signers places steps nodes new n d e is_signer node within as_many len signs made is each =
    grows (λ at x. (crls : Option (List (List ℕ))) → AreSteps crls when places steps → (place : Place) → At places at place →
    IsNodeOf crls when signers places at place x) nodes new n node is len each
    (λ crls are place here.
    let p = at_one places n (get_or places n d) place (at_default places n d within) here in
    let there = at_default steps n e (omega (arith, as_many, within)) in
    let stepped = are.each n (get_or places n d) (get_or steps n e) (at_default places n d within) there in
    subst (λ (x : Place). IsNodeOf crls when signers places n x node) p (record {
      issuers = subst (λ (s : PlaceSet). AreAt places (IsStep crls when places (get_or places n d)) s) (sym made.issuers_are) stepped;
      limit = made.limit;
      counted = made.counted;
      is_anchor = made.kind;
      starts = (
        λ start. let told = made.starts.0 start in (sym signs ∙ told.0, told.1),
        λ told. made.starts.1 (signs ∙ told.0, told.1),
      );
    }))

pub nodes_all : (crls : Option (List (List ℕ))) (when : ℤ) (signers : PlaceSet) (places : List Place) (steps : List PlaceSet) (nodes : List Node) →
    length nodes ≡ length places → AreSteps crls when places steps →
    ((at : ℕ) (x : Node) → At nodes at x → (crls : Option (List (List ℕ))) → AreSteps crls when places steps → (place : Place) → At places at place →
    IsNodeOf crls when signers places at place x) →
    AreNodes crls when signers places nodes
nodes_all crls when signers places steps nodes as_many are each =
    record { as_many = as_many; each = λ at place node here there. each at node there crls are place here }
