use Rattle.std.proofs.Common.{◌≡◌, arith, refl, Option, Some, None, List, ℕ}
use Rattle.std.specs.Prelude.{unwrap_or}
use Rattle.std.specs.Borrow.{Bor}
use Rattle.std.specs.Option.{option_copied, option_or}
use Rattle.sz_dns.specs.Name.{here}
use Rattle.sz_dns.specs.Part.{place_of_kind}
use Rattle.sz_dns.proofs.Fronts.{pointer_allowed}
use Rattle.sz_dns.proofs.Told.{told}
use Rattle.sz_dns.proofs.Ways.{IsName-shorter, past_label, past_pointer, way_ends}
use Rattle.sz_dns.proofs.name.read_name.Goals as goal

-- what an optional reference or another one points to
unwrapped : (after : Option (Bor (List ℕ))) (rest : Bor (List ℕ)) → (unwrap_or after rest).now ≡ unwrap_or (option_copied after) rest.now
unwrapped None rest = refl
unwrapped (Some known) rest = refl

first_of_two : (after : Option (Bor (List ℕ))) (rest : Bor (List ℕ))
    → option_copied (option_or after (Some rest)) ≡ option_or (option_copied after) (Some rest.now)
first_of_two None rest = refl
first_of_two (Some known) rest = refl

pub returns-in-Err-clause-refused : goal.returns-in-Err-clause-refused
returns-in-Err-clause-refused c =
    told _ c.fault.result c.in-Err.kind (place_of_kind c.in-Err.kind c.args.places.part c.args.places.name) c.fault.ensures
    (c.parts.invariant.fault c.in-Err.kind (here c.in-Err.ensures.fault), refl)

pub returns-in-Ok-Root-clause-ok : goal.returns-in-Ok-Root-clause-ok
returns-in-Ok-Root-clause-ok c =
    let part = rw c.in-Ok-Root.field-0-is at c.in-Ok-Root.ensures.part in
    rw (c.unwrap_or.ensures, unwrapped c.parts.after c.in-Ok-Root.rest)
    (way_ends c.args.message.now c.args.bytes.now c.parts.left.now c.in-Ok-Root.rest.now c.parts.labels c.parts.size c.parts.pointers
    (option_copied c.parts.after) c.parts.invariant part)

pub returns-in-Ok-Root-clause-shorter : goal.returns-in-Ok-Root-clause-shorter
returns-in-Ok-Root-clause-shorter c =
    let part = rw c.in-Ok-Root.field-0-is at c.in-Ok-Root.ensures.part in
    rw (c.unwrap_or.ensures, unwrapped c.parts.after c.in-Ok-Root.rest)
    (IsName-shorter c.args.message.now c.args.bytes.now _ c.parts.labels
    (way_ends c.args.message.now c.args.bytes.now c.parts.left.now c.in-Ok-Root.rest.now c.parts.labels c.parts.size c.parts.pointers
    (option_copied c.parts.after) c.parts.invariant part))

pub parts-preserved-in-Ok-Label : goal.parts-preserved-in-Ok-Label
parts-preserved-in-Ok-Label c =
    let part = rw c.in-Ok-Label.field-0-is at c.in-Ok-Label.ensures.part in
    rw (c.in_ok-push-in-Ok-Label.ensures.ok, c.in_ok-from_slice-in-Ok-Label.ensures)
    (past_label c.args.message.now c.args.bytes.now c.parts.left.now c.in-Ok-Label.label.now c.in-Ok-Label.rest.now c.parts.labels
    c.parts.size c.parts.pointers (option_copied c.parts.after) c.parts.invariant c.in-Ok-Label.ensures.no_fault part)

pub parts-smaller : goal.parts-smaller
parts-smaller c =
    let part = rw c.in-Ok-Pointer.field-0-is at c.in-Ok-Pointer.ensures.part in
    let allowed =
    pointer_allowed c.parts.left.now c.in-Ok-Pointer.rest.now c.in-Ok-Pointer.to c.parts.size c.parts.pointers c.in-Ok-Pointer.ensures.no_fault part in
    omega arith

pub parts-preserved : goal.parts-preserved
parts-preserved c =
    let part = rw c.in-Ok-Pointer.field-0-is at c.in-Ok-Pointer.ensures.part in
    rw (c.rest_from-left.ensures, c.or-after.ensures, first_of_two c.parts.after c.in-Ok-Pointer.rest)
    (past_pointer c.args.message.now c.args.bytes.now c.parts.left.now c.in-Ok-Pointer.rest.now c.parts.labels c.parts.size c.parts.pointers
    c.in-Ok-Pointer.to (option_copied c.parts.after) c.parts.invariant c.in-Ok-Pointer.ensures.no_fault part)
