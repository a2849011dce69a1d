use Rattle.std.proofs.Common.{◌≡◌, ◌≢◌, ℕ, true, not, List, [], ◌∷◌, ◌++◌, Option, Some, None, Bor, is_some, ap, ◌∙◌}
use Rattle.std.specs.Prelude.{MatchOption}
use Rattle.std.proofs.lemmas.Bool.Decides.{Decides-eqb}
use Rattle.std.proofs.lemmas.Slice.Eq.{strip_suffix_is}
use Rattle.sz_source.specs.Source.{IsDomain}
use Rattle.sz_source.proofs.source.is_domain.Goals as goal

-- what stands before a point at the end keeps a text from being a domain
ends_in_point : (text : List ℕ) (r : Option (Bor (List ℕ)))
    → MatchOption r ((front : List ℕ) → text ≢ front ++ 46 ∷ []) (λ x. text ≡ x.now ++ 46 ∷ [])
    → is_some r ≡ true → IsDomain text → ⊥
ends_in_point text (Some x) cases shown domain = domain.no_point x.now cases
ends_in_point text None cases shown domain = cc shown

pub returns-then-not-is_empty-clause-no : goal.returns-then-not-is_empty-clause-no
returns-then-not-is_empty-clause-no c = λ shown domain.
    ends_in_point c.args.text.now c.strip_suffix.result
    (strip_suffix_is Decides-eqb c.args.text.now (46 ∷ []) c.strip_suffix.result c.strip_suffix.ensures.cases)
    (c.is_none.ensures ∙ ap not shown) domain
