use Rattle.std.proofs.Common.{◌≢◌, ◌-◌, ◌∙◌, ap, arith, rules, length, refl, ℕ, List, ◌∷◌}
use Rattle.sz_dhcp.specs.declared.fault.DhcpKind.TheVariants.{Short}
use Rattle.sz_dhcp.proofs.Options4.{begins_pad, begins_sized, inside_of}
use Rattle.sz_dhcp.proofs.Told.{told}
use Rattle.sz_dhcp.proofs.message4.next_option.Goals as goal

pub returns-in-0-clause-some : goal.returns-in-0-clause-some
returns-in-0-clause-some c =
    rw c.from.ensures
    (begins_pad c.args.left.now c.in-Some.after.now
    (c.in-Some.ensures.cases.0 ∙ ap (λ (code : ℕ). code ∷ c.in-Some.after.now) c.in-0.is))

pub returns-in-Some-value_after-clause-some : goal.returns-in-Some-value_after-clause-some
returns-in-Some-value_after-clause-some c =
    let no_pad : c.in-Some.code.now ≢ 0 = search rules in
    let no_end : c.in-Some.code.now ≢ 255 = search rules in
    rw c.from-in-Some-value_after.ensures
    (begins_sized c.args.left.now c.in-Some-value_after.found.value.now c.in-Some-value_after.found.rest.now c.in-Some.code.now no_pad no_end
    (c.in-Some.ensures.cases.0 ∙ ap (λ (xs : List ℕ). c.in-Some.code.now ∷ xs) c.in-Some-value_after.ensures.some))

pub returns-in-None-clause-refused : goal.returns-in-None-clause-refused
returns-in-None-clause-refused c =
    let no_pad : c.in-Some.code.now ≢ 0 = search rules in
    let no_end : c.in-Some.code.now ≢ 255 = search rules in
    told _ Short (c.args.end - length c.args.left.now) (
      refl,
      inside_of c.args.left.now c.in-Some.after.now c.in-Some.code.now no_pad no_end c.in-Some.ensures.cases.0 c.in-None.ensures.none,
      omega arith,
    )
