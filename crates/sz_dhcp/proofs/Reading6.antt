-- A DHCPv6 message has one meaning or one fault.
use Rattle.std.proofs.Common.{◌≡◌, ℕ, ◌+◌, eqb, true, false, Bool, List, [], ◌∷◌, ◌++◌, length, refl, sym, ap, ◌∙◌, append_assoc, arith}
use Rattle.std.specs.Bool.{MatchBool}
use Rattle.sz_base.specs.declared.target.Target.{Target}
use Rattle.sz_dhcp.specs.DhcpOption.{DhcpOption}
use Rattle.sz_dhcp.specs.Message6.{BeginsWithOptions, Gives6, GivesTargets, HasBadList, in_list, in_option, IsFault6, IsOption, too_short}
use Rattle.sz_dhcp.specs.Spelled.{Joined}
use Rattle.sz_dhcp.specs.UriList.{ListsTargets}
use Rattle.sz_dhcp.specs.declared.fault.DhcpKind.{DhcpKind}
use Rattle.sz_dhcp.specs.Codes6.{header_bytes, redirect_code6}
use Rattle.sz_dhcp.proofs.Joined.{joined_once, same_reading, same_step, Stops, Stops-inside}
use Rattle.sz_dhcp.proofs.Lists.{list_or_break, one_list, one_list_break}
use Rattle.sz_dhcp.proofs.Options6.{options_apart, options_stop}

-- an option gives one list of targets
one_where : (b : Bool) (bytes : List ℕ) (own others : List Target) → MatchBool b (ListsTargets bytes own) (own ≡ [])
    → MatchBool b (ListsTargets bytes others) (others ≡ []) → own ≡ others
one_where true bytes own others a b = one_list bytes own others a b
one_where false bytes own others a b = a ∙ sym b

one_of_option : (option : DhcpOption) (own others : List Target) → GivesTargets option own → GivesTargets option others → own ≡ others
one_of_option option own others a b = one_where (eqb option.code redirect_code6) option.value own others a b

-- an option whose list is at fault gives nothing
good_is_not_bad : (bytes : List ℕ) (place : ℕ) (bad : HasBadList bytes place) (option : DhcpOption) (own : List Target)
    → option ≡ bad.option → GivesTargets option own → ⊥
good_is_not_bad bytes place bad option own same gives =
    let there = rw same at gives in
    let lists = rw bad.code at there in
    list_or_break bad.option.value own place lists bad.breaks

-- one list at fault stands at one place
one_bad : (bytes other : List ℕ) (place at : ℕ) → HasBadList bytes place → HasBadList other at → bytes ≡ other → place ≡ at
one_bad bytes other place at a b e =
    let same = options_apart a.option b.option a.own b.own a.rest b.rest a.spelled b.spelled (sym a.joined ∙ e ∙ b.joined) in
    let first = rw same.0 at a.breaks in
    one_list_break b.option.value place at first b.breaks

-- two readings of the same bytes that end at a list at fault
bad_at_one_place : (options others : List DhcpOption) (front other rest more : List ℕ) (targets second : List Target) (place at : ℕ)
    → Joined IsOption options front → Joined IsOption others other → Joined GivesTargets options targets
    → Joined GivesTargets others second → HasBadList rest place → HasBadList more at → front ++ rest ≡ other ++ more → place ≡ at
bad_at_one_place [] [] front other rest more targets second place at a b gives give bad worse e =
    let whole = rw (a, b) at e in
    one_bad rest more place at bad worse whole
bad_at_one_place [] (y ∷ others) front other rest more targets second place at a b gives give bad worse e =
    let whole = rw (a, b.2, append_assoc b.0 b.1 more) at e in
    let same = options_apart bad.option y bad.own b.0 bad.rest (b.1 ++ more) bad.spelled b.3 (sym bad.joined ∙ whole) in
    absurd (good_is_not_bad rest place bad y give.0 (sym same.0) give.3)
bad_at_one_place (x ∷ options) [] front other rest more targets second place at a b gives give bad worse e =
    let whole = rw (b, a.2, append_assoc a.0 a.1 rest) at e in
    let same = options_apart worse.option x worse.own a.0 worse.rest (a.1 ++ rest) worse.spelled a.3 (sym worse.joined ∙ sym whole) in
    absurd (good_is_not_bad more at worse x gives.0 (sym same.0) gives.3)
bad_at_one_place (x ∷ options) (y ∷ others) front other rest more targets second place at a b gives give bad worse e =
    let whole = rw (a.2, append_assoc a.0 a.1 rest, b.2, append_assoc b.0 b.1 more) at e in
    let same = same_step IsOption options_apart x y a.0 b.0 (a.1 ++ rest) (b.1 ++ more) a.3 b.3 whole in
    bad_at_one_place options others a.1 b.1 rest more gives.1 give.1 place at a.4 b.4 gives.4 give.4 bad worse same.2

-- a list at fault, and a reading that goes on to a place where no option begins
bad_or_stop : (options others : List DhcpOption) (front other rest more : List ℕ) (second : List Target) (place : ℕ)
    → Joined IsOption options front → Joined IsOption others other → Joined GivesTargets others second
    → HasBadList rest place → Stops IsOption more → front ++ rest ≡ other ++ more → ⊥
bad_or_stop [] [] front other rest more second place a b give bad stops e =
    let whole = rw (a, b) at e in
    stops bad.option bad.own bad.rest bad.spelled (sym whole ∙ bad.joined)
bad_or_stop [] (y ∷ others) front other rest more second place a b give bad stops e =
    let whole = rw (a, b.2, append_assoc b.0 b.1 more) at e in
    let same = options_apart bad.option y bad.own b.0 bad.rest (b.1 ++ more) bad.spelled b.3 (sym bad.joined ∙ whole) in
    good_is_not_bad rest place bad y give.0 (sym same.0) give.3
bad_or_stop (x ∷ options) [] front other rest more second place a b give bad stops e =
    let whole = rw (b, a.2, append_assoc a.0 a.1 rest) at e in
    stops x a.0 (a.1 ++ rest) a.3 (sym whole)
bad_or_stop (x ∷ options) (y ∷ others) front other rest more second place a b give bad stops e =
    let whole = rw (a.2, append_assoc a.0 a.1 rest, b.2, append_assoc b.0 b.1 more) at e in
    let same = same_step IsOption options_apart x y a.0 b.0 (a.1 ++ rest) (b.1 ++ more) a.3 b.3 whole in
    bad_or_stop options others a.1 b.1 rest more give.1 place a.4 b.4 give.4 bad stops same.2

-- the options of one message
same_front : (message : List ℕ) (options others : List DhcpOption) (targets second : List Target) (front other rest more : List ℕ)
    → BeginsWithOptions message options targets front rest → BeginsWithOptions message others second other more
    → Stops IsOption rest → Stops IsOption more → (options ≡ others) × (front ≡ other) × (rest ≡ more)
same_front message options others targets second front other rest more a b stops ends =
    same_reading IsOption options_apart options others front other rest more a.spelled b.spelled stops ends (sym a.joined ∙ b.joined)

pub one_reading6 : (message : List ℕ) (targets others : List Target) → Gives6 message targets → Gives6 message others → targets ≡ others
one_reading6 message targets others a b =
    let same = same_front message a.options b.options targets others a.front b.front [] [] a.has b.has options_stop options_stop in
    let give = rw same.0 at a.has.give in
    joined_once GivesTargets one_of_option b.options targets others give b.has.give

pub never_both6 : (message : List ℕ) (targets : List Target) (kind : DhcpKind) (place : ℕ) → Gives6 message targets
    → IsFault6 message kind place → ⊥
never_both6 message targets kind place a (too_short short) = omega (arith, a.has.long)
never_both6 message targets kind place a (in_list {options = options} {front = front} {rest = rest} begins bad) =
    bad_or_stop options a.options front a.front rest [] targets place begins.spelled a.has.spelled a.has.give bad options_stop
    (sym begins.joined ∙ a.has.joined)
never_both6 message targets kind place a (in_option {options = options} {targets = others} {front = front} {rest = rest} begins inside) =
    let stops = Stops-inside IsOption options_apart rest inside in
    let same = same_front message a.options options targets others a.front front [] rest a.has begins options_stop stops in
    inside.begun (sym same.2)

pub one_fault6 : (message : List ℕ) (kind other : DhcpKind) (place at : ℕ) → IsFault6 message kind place → IsFault6 message other at
    → (kind ≡ other) × (place ≡ at)
one_fault6 message kind other place at (too_short short) (too_short second) = (refl, refl)
one_fault6 message kind other place at (too_short short) (in_list begins bad) = absurd (omega (arith, begins.long))
one_fault6 message kind other place at (too_short short) (in_option begins inside) = absurd (omega (arith, begins.long))
one_fault6 message kind other place at (in_list begins bad) (too_short short) = absurd (omega (arith, begins.long))
one_fault6 message kind other place at (in_list {options = options} {targets = targets} {front = front} {rest = rest} begins bad)
    (in_list {options = others} {targets = second} {front = last} {rest = more} again worse) = (
      refl,
      bad_at_one_place options others front last rest more targets second place at begins.spelled again.spelled begins.give
          again.give bad worse (sym begins.joined ∙ again.joined),
    )
one_fault6 message kind other place at (in_list {options = options} {front = front} {rest = rest} begins bad)
    (in_option {options = others} {targets = second} {front = last} {rest = more} again inside) =
    absurd (bad_or_stop options others front last rest more second place begins.spelled again.spelled again.give bad
    (Stops-inside IsOption options_apart more inside) (sym begins.joined ∙ again.joined))
one_fault6 message kind other place at (in_option begins inside) (too_short short) = absurd (omega (arith, begins.long))
one_fault6 message kind other place at (in_option {options = options} {targets = targets} {front = front} {rest = rest} begins inside)
    (in_list {options = others} {front = last} {rest = more} again bad) =
    absurd (bad_or_stop others options last front more rest targets at again.spelled begins.spelled begins.give bad
    (Stops-inside IsOption options_apart rest inside) (sym again.joined ∙ begins.joined))
one_fault6 message kind other place at (in_option {options = options} {targets = targets} {front = front} {rest = rest} begins inside)
    (in_option {options = others} {targets = second} {front = last} {rest = more} again ends) =
    let same = same_front message options others targets second front last rest more begins again
    (Stops-inside IsOption options_apart rest inside) (Stops-inside IsOption options_apart more ends) in
    (refl, ap (λ (xs : List ℕ). header_bytes + length xs) same.1)
