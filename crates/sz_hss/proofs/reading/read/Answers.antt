use Rattle.std.proofs.Common.{ℕ, ◌+◌, ◌≤◌, length, ap, sym, ◌∙◌, subst, arith}
use Rattle.std.proofs.lemmas.List.{length-map}
use Rattle.sz_hss.specs.Key.{HssKey}
use Rattle.sz_hss.specs.Leaf.{leaves_below}
use Rattle.sz_hss.specs.Stored.{IsStoredKey}
use Rattle.sz_hss.specs.StoredFault.{end_place, next_place, part, shape_place, shapes_in, stored_size, u64_at}
use Rattle.sz_hss.specs.View.{shape_of}
use Rattle.sz_hss.proofs.Form.{IsStored-parts}
use Rattle.sz_hss.proofs.reading.read.Goals as goal

pub read_numbers-requires-clause-leaves : goal.read_numbers-requires-clause-leaves
read_numbers-requires-clause-leaves c =
    let count = sym (length-map c.as_slice-count.result.now shape_of) ∙ ap length c.as_slice-count.ensures.shapes in
    c.leaves_of.ensures
    ∙ ap leaves_below (c.as_slice.ensures.shapes ∙ c.in_ok-levels.ensures.head.there ∙ ap (shapes_in c.args.bytes.now 0) (sym count))

pub returns-clause-ok : goal.returns-clause-ok
returns-clause-ok c =
    let bytes = c.args.bytes.now in
    let shapes = c.in_ok-levels.levels in
    let numbers = c.in_ok-next.ensures.numbers in
    let order = c.in_ok-next.ensures.order in
    let count = sym (length-map c.as_slice-count.result.now shape_of) ∙ ap length c.as_slice-count.ensures.shapes in
    let leaves = c.leaves_of.ensures ∙ ap leaves_below c.as_slice.ensures.shapes in
    let stored = IsStored-parts bytes shapes c.array_at-seed.result c.array_at-id.result c.in_ok-next.next c.in_ok-next.end
    (λ i. omega (arith, c.type_inv.bytes i)) c.as_slice.ensures.allowed c.in_ok-levels.ensures.head
    (c.in_ok-next.ensures.size ∙ ap stored_size count)
    (c.array_at-seed.ensures ∙ ap (λ (n : ℕ). part bytes (shape_place n) 32) count)
    (c.array_at-id.ensures ∙ ap (λ (n : ℕ). part bytes (shape_place n + 32) 16) count)
    (numbers.0 ∙ ap (λ (n : ℕ). u64_at bytes (next_place n)) count)
    (numbers.1 ∙ ap (λ (n : ℕ). u64_at bytes (end_place n)) count)
    order.0 (subst (λ (n : ℕ). c.in_ok-next.end ≤ n) leaves order.1) in
    subst (λ (key : HssKey). IsStoredKey (record { key = key; next = c.in_ok-next.next; end = c.in_ok-next.end }) bytes)
    (sym c.of-key.ensures) stored
