-- The least number that is so.
use Rattle.std.proofs.Common.{◌≡◌, ◌≤◌, ◌⊎◌, ℕ, min, Option, Some, None, sym, subst, inl, inr, arith}
use Rattle.std.proofs.lemmas.Bool.{cases_lt}
use Rattle.sz_chain.specs.Search.{IsLeast, lesser}

-- what is so is so by another word too, and what is so by that word is no less than what is so by the first
pub least_by : (P Q : ℕ → Type 0) (best : Option ℕ) → ((k : ℕ) → P k → Q k) → ((k : ℕ) → Q k → (j : ℕ) × P j × (j ≤ k)) →
    IsLeast P best → IsLeast Q best
least_by P Q None there back none = λ k q. let less = back k q in none less.0 less.1
least_by P Q (Some least) there back some =
    (there least some.0, λ k q. let less = back k q in omega (arith, some.1 less.0 less.1, less.2))

pub least_same : (P Q : ℕ → Type 0) (best : Option ℕ) → ((k : ℕ) → P k → Q k) → ((k : ℕ) → Q k → P k) → IsLeast P best → IsLeast Q best
least_same P Q best there back is = least_by P Q best there (λ k q. (k, back k q, omega arith)) is

-- the least of two kinds
pub least_either : (P Q : ℕ → Type 0) (one other : Option ℕ) → IsLeast P one → IsLeast Q other →
    IsLeast (λ k. P k ⊎ Q k) (lesser one other)
least_either P Q None None p q = λ k e. elim e [ inl l ↦ p k l | inr r ↦ q k r ]
least_either P Q None (Some b) p q =
    (inr q.0, λ k e. elim e [ inl l ↦ absurd (p k l) | inr r ↦ q.1 k r ])
least_either P Q (Some a) None p q =
    (inl p.0, λ k e. elim e [ inl l ↦ p.1 k l | inr r ↦ absurd (q k r) ])
least_either P Q (Some a) (Some b) p q = (
  elim (cases_lt a b) [
    | inl less ↦
        let e : min a b ≡ a = omega arith in inl (subst P (sym e) p.0)
    | inr more ↦
        let e : min a b ≡ b = omega arith in inr (subst Q (sym e) q.0)
  ],
  λ k e. elim e [ inl l ↦ omega (arith, p.1 k l) | inr r ↦ omega (arith, q.1 k r) ],
)
