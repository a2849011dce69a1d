use Rattle.std.proofs.Common.{refl, arith, inl, inr}
use Rattle.sz_cell.specs.Header.{slot_with}
use Rattle.sz_cell.proofs.Judged.{first_long, same_sequence, second_long}
use Rattle.sz_cell.proofs.Values.{meaning_of-first, meaning_of-second}
use Rattle.sz_cell.proofs.header.judge_open.Goals as goal

pub returns-then-first-second : goal.returns-then-first-second
returns-then-first-second c =
    rw (c.damage.ensures, c.requires.first)
    (λ p q. elim c.if-first-second.either [
      | inl long ↦ first_long c.args.capacity (slot_with c.args.first p) (slot_with c.args.second q) c.requires.first_gate long
      | inr same ↦ same_sequence c.args.capacity (slot_with c.args.first p) (slot_with c.args.second q) c.requires.first_gate c.requires.second_gate same.1
    ])

pub returns-then-second-capacity : goal.returns-then-second-capacity
returns-then-second-capacity c =
    rw (c.damage-then-second-capacity.ensures, c.requires.second)
    (λ p q.
    second_long c.args.capacity (slot_with c.args.first p) (slot_with c.args.second q) (λ is. c.if-first-second.false)
    c.requires.second_gate c.if-second-capacity.true)

pub returns-then-second-first : goal.returns-then-second-first
returns-then-second-first c p q = inl (
  refl,
  c.if-first-second.false.0,
  meaning_of-first c.args.capacity (slot_with c.args.first p) (slot_with c.args.second q) (record {
    gate = c.requires.first_gate;
    fits = c.if-first-second.false.0;
    older = λ is. (c.if-second-first.true, c.if-second-capacity.false);
  }),
)

pub returns-else-second-first : goal.returns-else-second-first
returns-else-second-first c p q = inr (
  refl,
  c.if-second-capacity.false,
  meaning_of-second c.args.capacity (slot_with c.args.first p) (slot_with c.args.second q) (record {
    gate = c.requires.second_gate;
    fits = c.if-second-capacity.false;
    older = λ is. (omega (arith, c.if-first-second.false.1), c.if-first-second.false.0);
  }),
)
