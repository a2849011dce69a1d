-- Tables of rules: which reason they give first, and that none of them applies.
use Rattle.std.proofs.Common.{◌≡◌, inl, inr, List, [], ◌∷◌, ◌++◌}
use Rattle.std.specs.Prelude.{⊤}
use Rattle.sz_evidence.specs.Judgement.{Applies, First, Rule}
use Rattle.sz_evidence.specs.declared.reason.Reason.{Reason}

-- none of the rules applies
abbrev pub NoneApplies : List Rule → Type 0
NoneApplies [] = ⊤
NoneApplies (rule ∷ rules) = (Applies rule → ⊥) × NoneApplies rules

pub none_first : (rules : List Rule) (found : Reason) → NoneApplies rules → First rules found → ⊥
none_first [] found none first = first
none_first (rule ∷ rules) found none (inl here) = none.0 (found, here)
none_first (rule ∷ rules) found none (inr later) = none_first rules found none.1 later.1

-- the rules before these do not apply
pub first_later : (rules more : List Rule) (found : Reason) → NoneApplies rules → First more found → First (rules ++ more) found
first_later [] more found none first = first
first_later (rule ∷ rules) more found none first = inr (none.0, first_later rules more found none.1 first)

-- the rules after these are not looked at
pub first_sooner : (rules more : List Rule) (found : Reason) → First rules found → First (rules ++ more) found
first_sooner [] more found first = absurd first
first_sooner (rule ∷ rules) more found (inl here) = inl here
first_sooner (rule ∷ rules) more found (inr later) = inr (later.0, first_sooner rules more found later.1)

pub none_in_both : (rules more : List Rule) → NoneApplies rules → NoneApplies more → NoneApplies (rules ++ more)
none_in_both [] more none others = others
none_in_both (rule ∷ rules) more none others = (none.0, none_in_both rules more none.1 others)

-- a rule that gives one reason alone
abbrev pub GivesOne : Rule → Type 0
GivesOne rule = (found other : Reason) → rule found → rule other → found ≡ other

abbrev pub EachGivesOne : List Rule → Type 0
EachGivesOne [] = ⊤
EachGivesOne (rule ∷ rules) = GivesOne rule × EachGivesOne rules

pub first_gives_one : (rules : List Rule) → EachGivesOne rules → GivesOne (First rules)
first_gives_one [] each found other first second = absurd first
first_gives_one (rule ∷ rules) each found other (inl here) (inl there) = each.0 found other here there
first_gives_one (rule ∷ rules) each found other (inl here) (inr later) = absurd (later.0 (found, here))
first_gives_one (rule ∷ rules) each found other (inr later) (inl there) = absurd (later.0 (other, there))
first_gives_one (rule ∷ rules) each found other (inr later) (inr after) = first_gives_one rules each.1 found other later.1 after.1

pub each_in_both : (rules more : List Rule) → EachGivesOne rules → EachGivesOne more → EachGivesOne (rules ++ more)
each_in_both [] more each others = others
each_in_both (rule ∷ rules) more each others = (each.0, each_in_both rules more each.1 others)
