-- Issuers that clear a serial number, place by place, and the lists that tell of one place, list by list.
use Rattle.std.proofs.Common.{◌≡◌, ◌↔◌, ◌<◌, ◌+◌, ◌||◌, ◌==◌, ℕ, Bool, true, false, true≢false, List, length, refl, sym, ap, ◌∙◌, subst, inl, inr, arith, eqb-true, eq-eqb}
use Rattle.std.proofs.lemmas.Bool.{cases_eq, or_cases, or_left, or_right}
use Rattle.sz_x509.specs.CrlView.{list_view}
use Rattle.sz_chain.specs.Cleared.{IsRevokedBy}
use Rattle.sz_chain.specs.Lists.{ClearAt}
use Rattle.sz_chain.specs.Sets.{At, has}
use Rattle.sz_chain.specs.declared.lists.CurrentList.{CurrentList}
use Rattle.sz_chain.specs.declared.set.PlaceSet.{PlaceSet}
use Rattle.sz_chain.proofs.Elements.{at_one, at_within}

-- of the first places those of the issuers are in the set that clear the serial number
abbrev pub AreClearing : List CurrentList → ℕ → PlaceSet → List ℕ → PlaceSet → Type 0
AreClearing lists count issuers serial set =
    (place : ℕ) → (has set place ≡ true) ↔ ((place < count) × (has issuers place ≡ true) × ClearAt lists place serial)

-- the first lists: one of them is current for the place where it is told, and none of them that is has the serial number
pub record SoFar (lists : List CurrentList) (place : ℕ) (serial : List ℕ) (first : ℕ) (is_told : Bool) : Type 0 where
  pub told : is_told ≡ true → (at : ℕ) × (told : CurrentList) × At lists at told × (has told.issuers place ≡ true)
  pub untold : is_told ≡ false → (at : ℕ) (told : CurrentList) → At lists at told → at < first → has told.issuers place ≡ true → ⊥
  pub not_revoked : (at : ℕ) (told : CurrentList) → At lists at told → at < first → has told.issuers place ≡ true →
      IsRevokedBy (list_view told.list) serial → ⊥

module _ (lists : List CurrentList) (serial : List ℕ) where
  pub clearing_none : (issuers set : PlaceSet) → ((place : ℕ) → has set place ≡ false) → AreClearing lists 0 issuers serial set
  clearing_none issuers set none place =
      (λ e. absurd (true≢false (sym e ∙ none place)), λ told. absurd (omega (arith, told.0)))

  pub clearing_in : (n : ℕ) (issuers set new : PlaceSet) → AreClearing lists n issuers serial set → has issuers n ≡ true → ClearAt lists n serial →
      ((place : ℕ) → has new place ≡ (place == n || has set place)) → AreClearing lists (n + 1) issuers serial new
  clearing_in n issuers set new are issues clear put place = (
    λ e. elim (or_cases (place == n) (has set place) (sym (put place) ∙ e)) [
      | inl same ↦
          let eq : place ≡ n = eqb-true place n same in (
            omega arith,
            subst (λ (k : ℕ). has issuers k ≡ true) (sym eq) issues,
            subst (λ (k : ℕ). ClearAt lists k serial) (sym eq) clear,
          )
      | inr earlier ↦ let told = (are place).0 earlier in (omega (arith, told.0), told.1, told.2)
    ],
    λ told. put place ∙ elim (cases_eq place n) [
      | inl eq ↦ or_left (place == n) (has set place) (eq-eqb place n eq)
      | inr ne ↦ or_right (place == n) (has set place) ((are place).1 (omega (arith, told.0, ne), told.1, told.2))
    ],
  )

  pub clearing_out : (n : ℕ) (issuers set : PlaceSet) → AreClearing lists n issuers serial set →
      (has issuers n ≡ true → ClearAt lists n serial → ⊥) → AreClearing lists (n + 1) issuers serial set
  clearing_out n issuers set are isnt place = (
    λ e. let told = (are place).0 e in (omega (arith, told.0), told.1, told.2),
    λ told. elim (cases_eq place n) [
      | inl eq ↦ absurd (isnt (subst (λ (k : ℕ). has issuers k ≡ true) eq told.1) (subst (λ (k : ℕ). ClearAt lists k serial) eq told.2))
      | inr ne ↦ (are place).1 (omega (arith, told.0, ne), told.1, told.2)
    ],
  )

  module _ (place : ℕ) where
    pub sofar_none : SoFar lists place serial 0 false
    sofar_none = record {
      told = λ e. absurd (true≢false (sym e));
      untold = λ _ at told here first in_set. omega arith;
      not_revoked = λ at told here first in_set revoked. omega arith;
    }

    not_here : (n at : ℕ) (told other : CurrentList) → At lists n told → has told.issuers place ≡ false → at ≡ n → At lists at other →
        has other.issuers place ≡ true → ⊥
    not_here n at told other here out eq there in_set =
        let there' : At lists n other = subst (λ (k : ℕ). At lists k other) eq there in
        let same : other ≡ told = at_one lists n other told there' here in
        true≢false (sym in_set ∙ ap (λ (t : CurrentList). has t.issuers place) same ∙ out)

    -- the next list isn't current for the place
    pub sofar_passed : (n : ℕ) (is_told : Bool) (told : CurrentList) → SoFar lists place serial n is_told → At lists n told →
        has told.issuers place ≡ false → SoFar lists place serial (n + 1) is_told
    sofar_passed n is_told told sofar here out = record {
      told = sofar.told;
      untold = λ e at other there first in_set. elim (cases_eq at n) [
        | inl eq ↦ not_here n at told other here out eq there in_set
        | inr ne ↦ sofar.untold e at other there (omega arith) in_set
      ];
      not_revoked = λ at other there first in_set revoked. elim (cases_eq at n) [
        | inl eq ↦ not_here n at told other here out eq there in_set
        | inr ne ↦ sofar.not_revoked at other there (omega arith) in_set revoked
      ];
    }

    -- the next list is current for the place, and doesn't have the serial number
    pub sofar_told : (n : ℕ) (is_told : Bool) (told : CurrentList) → SoFar lists place serial n is_told → At lists n told →
        has told.issuers place ≡ true → (IsRevokedBy (list_view told.list) serial → ⊥) → SoFar lists place serial (n + 1) true
    sofar_told n is_told told sofar here in_set clear = record {
      told = λ _. (n, told, here, in_set);
      untold = λ e. absurd (true≢false e);
      not_revoked = λ at other there first in_set revoked. elim (cases_eq at n) [
        | inl eq ↦
            let there' : At lists n other = subst (λ (k : ℕ). At lists k other) eq there in
            let same : other ≡ told = at_one lists n other told there' here in
            clear (subst (λ (t : CurrentList). IsRevokedBy (list_view t.list) serial) same revoked)
        | inr ne ↦ sofar.not_revoked at other there (omega arith) in_set revoked
      ];
    }

    -- all lists were looked at
    pub sofar_all : (is_told : Bool) → SoFar lists place serial (length lists) is_told → (is_told ≡ true) ↔ ClearAt lists place serial
    sofar_all true sofar = (
      λ _. record {
        told = sofar.told refl;
        not_revoked = λ at told here in_set revoked. sofar.not_revoked at told here (at_within lists at told here) in_set revoked;
      },
      λ _. refl,
    )
    sofar_all false sofar = (
      λ e. absurd (true≢false (sym e)),
      λ clear.
          let told = clear.told in
          absurd (sofar.untold refl told.0 told.1 told.2 (at_within lists told.0 told.1 told.2) told.3),
    )
