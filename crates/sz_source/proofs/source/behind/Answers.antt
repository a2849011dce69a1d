use Rattle.std.proofs.Common.{◌≡◌, ◌≢◌, ◌++◌, List, ℕ, Option, Some, None, Bor, IfSome, IfNone}
use Rattle.std.specs.Prelude.{MatchOption}
use Rattle.std.proofs.lemmas.Bool.Decides.{Decides-eqb}
use Rattle.std.proofs.lemmas.Slice.Eq.{strip_prefix_is}
use Rattle.sz_source.proofs.source.behind.Goals as goal

-- the cases apart
some_case : (text front : List ℕ) (r : Option (Bor (List ℕ)))
    → MatchOption r ((rest : List ℕ) → text ≢ front ++ rest) (λ x. text ≡ front ++ x.now)
    → IfSome r (λ rest. text ≡ front ++ rest.now)
some_case text front (Some x) h = h
some_case text front None h = tt

none_case : (text front : List ℕ) (r : Option (Bor (List ℕ)))
    → MatchOption r ((rest : List ℕ) → text ≢ front ++ rest) (λ x. text ≡ front ++ x.now)
    → IfNone r ((rest : List ℕ) → text ≢ front ++ rest)
none_case text front (Some x) h = tt
none_case text front None h = h

pub returns-clause-some : goal.returns-clause-some
returns-clause-some c = some_case c.args.word.now c.args.front.now c.strip_prefix.result
    (strip_prefix_is Decides-eqb c.args.word.now c.args.front.now c.strip_prefix.result c.strip_prefix.ensures.cases)

pub returns-clause-none : goal.returns-clause-none
returns-clause-none c = none_case c.args.word.now c.args.front.now c.strip_prefix.result
    (strip_prefix_is Decides-eqb c.args.word.now c.args.front.now c.strip_prefix.result c.strip_prefix.ensures.cases)
