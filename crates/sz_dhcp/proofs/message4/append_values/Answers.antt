use Rattle.std.proofs.Common.{[], ◌∷◌, ◌++◌, ◌∙◌, ap, List, ℕ}
use Rattle.std.proofs.lemmas.List.{flat_map_more}
use Rattle.std.proofs.lemmas.Result.{err_from_is_err_and}
use Rattle.sz_dhcp.specs.DhcpOption.{DhcpOption}
use Rattle.sz_dhcp.specs.Message4.{IsOption, value_with}
use Rattle.sz_dhcp.proofs.Fields.{field_fault}
use Rattle.sz_dhcp.proofs.Joined.{read_more}
use Rattle.sz_dhcp.proofs.message4.append_values.Goals as goal

pub returns-in_err-option-clause-refused : goal.returns-in_err-option-clause-refused
returns-in_err-option-clause-refused c =
    let p = err_from_is_err_and c.from_residual.result c.from_residual.ensures.1 in
    rw (p.1, p.2)
    (field_fault c.args.field.bytes.now c.options.left.now c.args.field.end c.options.invariant.options _ c.options.invariant.read
    c.in_err-option.ensures.refused)

pub options-preserved : goal.options-preserved
options-preserved c =
    let begins = rw c.in-Some.is at c.in_ok-option.ensures.some in
    let item : DhcpOption = record { code = c.in-Some.option.code; value = c.in-Some.option.value.now } in
    record {
      options = c.options.invariant.options ++ item ∷ [];
      read = read_more IsOption c.args.field.bytes.now c.options.invariant.options c.options.left.now c.in-Some.option.rest.now item
          c.options.invariant.read begins;
      put = c.in_ok-append_value.ensures ∙ ap (λ (xs : List ℕ). xs ++ value_with c.args.code item) c.options.invariant.put
          ∙ flat_map_more (value_with c.args.code) c.args.values.now c.options.invariant.options item;
    }
