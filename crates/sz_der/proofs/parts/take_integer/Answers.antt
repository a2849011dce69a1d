use Rattle.std.proofs.Common.{refl}
use Rattle.std.proofs.lemmas.Bool.{false≢true}
use Rattle.sz_der.specs.Integer.{is_integer}
use Rattle.sz_der.specs.Spots.{no_integer, spot_of}
use Rattle.sz_der.specs.Tags.{integer_tag}
use Rattle.sz_der.proofs.Steps.{exit, fails, found_is, part_tag, passes}
use Rattle.sz_der.proofs.IntegerTest.{integer_test, IsInteger_from_test}
use Rattle.sz_der.proofs.parts.take_integer.Goals as goal

pub returns-in_err-item-clause-fault : goal.returns-in_err-item-clause-fault
unfolding no_integer
returns-in_err-item-clause-fault g c =
    exit _ _ c.in_err-item.field-0.0 c.from_residual.ensures.1 (rw c.in_err-item.ensures.fault refl)

pub returns-in-Ok-clause-ok : goal.returns-in-Ok-clause-ok
unfolding no_integer
returns-in-Ok-clause-ok g c =
    let item = c.in_ok-item.item in
    let test = passes is_integer (spot_of c.args.reader.now) item c.in_ok-item.ensures.item
    (integer_test item.content.now (c.in-Ok.ensures.exact.0 refl).1) in
    rw (c.in_ok-item.ensures.ok, test) refl

pub returns-in-Err-clause-fault : goal.returns-in-Err-clause-fault
unfolding no_integer
returns-in-Err-clause-fault g c =
    let spot = spot_of c.args.reader.now in
    let item = c.in_ok-item.item in
    let is = c.in_ok-item.ensures.item in
    let tag = part_tag _ _ integer_tag spot item c.in_ok-item.ensures.ok is in
    let test = fails is_integer spot item is
    (λ e. false≢true (c.in-Err.ensures.exact.1 (tag, IsInteger_from_test item.content.now e))) in
    let told = c.part_fault.ensures spot is in
    rw (c.in_ok-item.ensures.ok, test) (found_is (rw c.BROKEN.ensures at told))
