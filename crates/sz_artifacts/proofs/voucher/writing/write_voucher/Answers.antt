use Rattle.std.proofs.Common.{option_map, string_bytes, arith}
use Rattle.std.proofs.lemmas.Result.{IfOk-weaker}
use Rattle.sz_json.proofs.Light.{reads_bounded}
use Rattle.sz_artifacts.proofs.PlainVoucher.{light_voucher, plain_voucher}
use Rattle.sz_artifacts.proofs.VoucherBack.{voucher_reads_back}
use Rattle.sz_artifacts.specs.WrittenVoucher.{voucher_value}
use Rattle.sz_artifacts.proofs.voucher.writing.write_voucher.Goals as goal

pub returns-clause-written : goal.returns-clause-written
returns-clause-written c =
    let created = string_bytes c.in_ok-created.created in
    let end = option_map string_bytes c.in_ok-end.end in
    let plain = plain_voucher c.args.voucher.now created end in
    let compact = rw c.in_ok-value.ensures at c.write.ensures.compact in
    IfOk-weaker c.write.result _ _ (λ bytes h. (created, end, c.in_ok-created.ensures, c.in_ok-end.ensures, h plain.no_float)) compact

pub returns-clause-reads_back : goal.returns-clause-reads_back
returns-clause-reads_back c =
    let voucher = c.args.voucher.now in
    let created = string_bytes c.in_ok-created.created in
    let end = option_map string_bytes c.in_ok-end.end in
    let value = voucher_value voucher created end in
    let compact = rw c.in_ok-value.ensures at c.write.ensures.compact in
    let again = rw c.in_ok-value.ensures at c.write.ensures.reads_back in
    IfOk-weaker c.write.result _ _
    (λ bytes json other is. (
      value,
      json,
      voucher_reads_back other voucher created end is c.requires.created_on c.requires.expires_on c.in_ok-created.ensures c.in_ok-end.ensures,
    ))
    (
    reads_bounded c.write.result value 2 18 (plain_voucher voucher created end) (omega arith) (light_voucher voucher created end) (omega arith) compact
    again
    )
