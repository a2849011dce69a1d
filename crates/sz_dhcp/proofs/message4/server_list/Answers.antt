use Rattle.std.proofs.Common.{◌≡◌, ◌∙◌, ap, arith, length, length-drop, List}
use Rattle.std.proofs.lemmas.Result.{err_from_is_err_and}
use Rattle.sz_dhcp.specs.DhcpOption.{DhcpOption}
use Rattle.sz_dhcp.specs.Message4.{file_field, options_field, sname_field, values_of}
use Rattle.sz_dhcp.specs.Codes4.{overloads_file, overloads_sname, redirect_code}
use Rattle.sz_dhcp.proofs.Fields.{fault_in_file, fault_in_options, fault_in_sname, field_is, three_fields}
use Rattle.sz_dhcp.proofs.Options4.{one_field}
use Rattle.sz_dhcp.proofs.message4.server_list.Goals as goal

pub values_in-requires : goal.values_in-requires
values_in-requires c =
    let ok = c.in_ok-options.ensures.ok in omega (arith, ap length ok.1, ok.2, length-drop 240 c.args.message.now)

pub returns-in_err-overload-clause-refused : goal.returns-in_err-overload-clause-refused
returns-in_err-overload-clause-refused c =
    let ok = c.in_ok-options.ensures.ok in
    let there = rw (ok.1, ok.2) at c.in_err-overload.ensures.refused in
    let p = err_from_is_err_and c.from_residual-in_err-overload.result c.from_residual-in_err-overload.ensures.1 in
    rw (p.1, p.2) (fault_in_options c.args.message.now _ ok.0 there)

pub values_in-requires-2 : goal.values_in-requires-2
values_in-requires-2 c =
    let ok = c.in_ok-options.ensures.ok in omega (arith, ap length ok.1, ok.2, length-drop 240 c.args.message.now)

pub returns-in_err-list-clause-refused : goal.returns-in_err-list-clause-refused
returns-in_err-list-clause-refused c =
    let ok = c.in_ok-options.ensures.ok in
    let there = rw (ok.1, ok.2) at c.in_err-list.ensures.refused in
    let p = err_from_is_err_and c.from_residual-in_err-list.result c.from_residual-in_err-list.ensures.1 in
    rw (p.1, p.2) (fault_in_options c.args.message.now _ ok.0 there)

pub returns-in_err-append_values-clause-refused : goal.returns-in_err-append_values-clause-refused
returns-in_err-append_values-clause-refused c =
    let ok = c.in_ok-options.ensures.ok in
    let own = c.in_ok-overload.ensures.ok in
    let options = rw ok.1 at own.1 in
    let is : c.holding-file.result.bytes.now ≡ file_field own.0 c.args.message.now =
    field_is overloads_file c.args.message.now c.holding-file.result.bytes.now c.as_slice.result.now own.0 108 236
    (c.as_slice.ensures ∙ own.2) c.holding-file.ensures.bytes in
    let there = rw (is, c.holding-file.ensures.end) at c.in_err-append_values.ensures.refused in
    let p = err_from_is_err_and c.from_residual-in_err-append_values.result c.from_residual-in_err-append_values.ensures.1 in
    rw (p.1, p.2) (fault_in_file c.args.message.now _ own.0 ok.0 options there)

pub returns-in_err-append_values-2-clause-refused : goal.returns-in_err-append_values-2-clause-refused
returns-in_err-append_values-2-clause-refused c =
    let ok = c.in_ok-options.ensures.ok in
    let own = c.in_ok-overload.ensures.ok in
    let options = rw ok.1 at own.1 in
    let file = c.in_ok-append_values.ensures.ok in
    let file_is : c.holding-file.result.bytes.now ≡ file_field own.0 c.args.message.now =
    field_is overloads_file c.args.message.now c.holding-file.result.bytes.now c.as_slice.result.now own.0 108 236
    (c.as_slice.ensures ∙ own.2) c.holding-file.ensures.bytes in
    let is : c.holding-sname.result.bytes.now ≡ sname_field own.0 c.args.message.now =
    field_is overloads_sname c.args.message.now c.holding-sname.result.bytes.now c.as_slice-2.result.now own.0 44 108
    (c.as_slice-2.ensures ∙ own.2) c.holding-sname.ensures.bytes in
    let in_file = rw file_is at file.1 in
    let there = rw (is, c.holding-sname.ensures.end) at c.in_err-append_values-2.ensures.refused in
    let p = err_from_is_err_and c.from_residual-in_err-append_values-2.result c.from_residual-in_err-append_values-2.ensures.1 in
    rw (p.1, p.2) (fault_in_sname c.args.message.now _ own.0 file.0 ok.0 options in_file there)

pub returns-clause-ok : goal.returns-clause-ok
returns-clause-ok c =
    let ok = c.in_ok-options.ensures.ok in
    let own = c.in_ok-overload.ensures.ok in
    let list = c.in_ok-list.ensures.ok in
    let file = c.in_ok-append_values.ensures.ok in
    let sname = c.in_ok-append_values-2.ensures.ok in
    let options = rw ok.1 at own.1 in
    let again = rw ok.1 at list.1 in
    let same = one_field (options_field c.args.message.now) list.0 own.0 again options in
    let file_is : c.holding-file.result.bytes.now ≡ file_field own.0 c.args.message.now =
    field_is overloads_file c.args.message.now c.holding-file.result.bytes.now c.as_slice.result.now own.0 108 236
    (c.as_slice.ensures ∙ own.2) c.holding-file.ensures.bytes in
    let sname_is : c.holding-sname.result.bytes.now ≡ sname_field own.0 c.args.message.now =
    field_is overloads_sname c.args.message.now c.holding-sname.result.bytes.now c.as_slice-2.result.now own.0 44 108
    (c.as_slice-2.ensures ∙ own.2) c.holding-sname.ensures.bytes in
    let in_file = rw file_is at file.1 in
    let in_sname = rw sname_is at sname.1 in (
      own.0,
      file.0,
      sname.0,
      record { cookie = ok.0; own = options; in_file = in_file; in_sname = in_sname },
      three_fields redirect_code own.0 file.0 sname.0 _ _ _ (list.2 ∙ ap (λ (o : List DhcpOption). values_of redirect_code o) same) file.2 sname.2,
    )
