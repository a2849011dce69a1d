use Rattle.std.proofs.Common.{List, ℕ, Some, drop, refl, sym, ap, ◌∙◌}
use Rattle.sz_der.specs.Spots.{spot_of}
use Rattle.sz_der.specs.Tags.{bit_string_tag}
use Rattle.sz_der.proofs.Steps.{exit, fails, part_tag, passes}
use Rattle.sz_x509.specs.CertFault.{Fault, octets_at, octets_fault}
use Rattle.sz_x509.specs.Contents.{is_whole_octets}
use Rattle.sz_x509.proofs.Values.{whole_octets_from_test, whole_octets_test}
use Rattle.sz_x509.proofs.parts.take_octets.Goals as goal

pub returns-in_err-item-clause-fault : goal.returns-in_err-item-clause-fault
unfolding octets_fault
returns-in_err-item-clause-fault c =
    exit _ _ c.in_err-item.field-0.0 c.from_residual.ensures.1 (rw c.in_err-item.ensures.fault refl)

pub returns-in-Ok-clause-ok : goal.returns-in-Ok-clause-ok
unfolding octets_fault
returns-in-Ok-clause-ok c =
    let item = c.in_ok-item.item in
    let test = passes is_whole_octets (spot_of c.args.reader.now) item c.in_ok-item.ensures.item
    (whole_octets_test c.in-Ok.octets.now item.content.now c.in-Ok.ensures.found.1) in
    rw (c.in_ok-item.ensures.ok, test) refl

pub returns-in-Ok-clause-octets : goal.returns-in-Ok-clause-octets
unfolding octets_at
returns-in-Ok-clause-octets c =
    ap (λ (x : List ℕ). drop 1 x) (sym c.in-Ok.ensures.found.1 ∙ c.in_ok-item.ensures.item.content)

pub returns-in-Err-clause-fault : goal.returns-in-Err-clause-fault
unfolding octets_fault
returns-in-Err-clause-fault c =
    let spot = spot_of c.args.reader.now in
    let item = c.in_ok-item.item in
    let is = c.in_ok-item.ensures.item in
    let tag = part_tag _ _ bit_string_tag spot item c.in_ok-item.ensures.ok is in
    let test = fails is_whole_octets spot item is
    (λ e. absurd (c.in-Err.ensures.only (drop 1 item.content.now) tag (whole_octets_from_test item.content.now e))) in
    rw (c.in_ok-item.ensures.ok, test) (ap (λ (x : Fault). Some x) (sym (c.part_fault.ensures spot is)))
