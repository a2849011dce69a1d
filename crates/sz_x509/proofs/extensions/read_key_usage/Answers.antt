use Rattle.std.proofs.Common.{Some, refl, sym, ap}
use Rattle.sz_der.specs.Spots.{spot_of}
use Rattle.sz_der.specs.Tags.{bit_string_tag}
use Rattle.sz_der.proofs.Steps.{exit, fails, part_tag, passes}
use Rattle.sz_x509.specs.CertFault.{Fault, key_usage_fault}
use Rattle.sz_x509.specs.Contents.{is_bits}
use Rattle.sz_x509.specs.declared.fault.CertKind.TheVariants as kinds
use Rattle.sz_x509.proofs.Chains.{bits_content_test, bits_of}
use Rattle.sz_x509.proofs.extensions.read_key_usage.Goals as goal

pub returns-in_err-item-clause-fault : goal.returns-in_err-item-clause-fault
unfolding key_usage_fault
returns-in_err-item-clause-fault c =
    exit _ _ c.in_err-item.field-0.0 c.from_residual.ensures.1 (rw c.in_err-item.ensures.fault refl)

pub returns-in_default-clause-fault : goal.returns-in_default-clause-fault
unfolding key_usage_fault
returns-in_default-clause-fault c =
    let spot = spot_of c.args.value.now in
    let item = c.in_ok-item.item in
    let is = c.in_ok-item.ensures.item in
    let tag = part_tag _ _ bit_string_tag spot item c.in_ok-item.ensures.ok is in
    let test = fails is_bits spot item is (λ e.
    let bits = bits_of item.content.now e in
    absurd (cc (c.in_default.ensures.only bits.0 bits.1 tag bits.2 bits.3))) in
    rw (c.in_ok-item.ensures.ok, test) (ap (λ (x : Fault). Some x) (sym (c.part_fault.ensures spot is)))

pub returns-in_err-expect_end-clause-fault : goal.returns-in_err-expect_end-clause-fault
unfolding key_usage_fault
returns-in_err-expect_end-clause-fault c =
    let item = c.in_ok-item.item in
    let test = passes is_bits (spot_of c.args.value.now) item c.in_ok-item.ensures.item
    (bits_content_test item.content.now c.in-Ok.usage c.in-Ok.ensures.found.1) in
    exit _ _ c.in_err-expect_end.field-0.0 c.from_residual-in_err-expect_end.ensures.1
    (rw (c.in_ok-item.ensures.ok, test, ← c.in_ok-item.ensures.next, c.in_err-expect_end.ensures.fault) refl)

pub returns-clause-ok : goal.returns-clause-ok
unfolding key_usage_fault
returns-clause-ok c =
    let item = c.in_ok-item.item in
    let test = passes is_bits (spot_of c.args.value.now) item c.in_ok-item.ensures.item
    (bits_content_test item.content.now c.in-Ok.usage c.in-Ok.ensures.found.1) in
    rw (c.in_ok-item.ensures.ok, test, ← c.in_ok-item.ensures.next, c.in_ok-expect_end.ensures.ok) refl
