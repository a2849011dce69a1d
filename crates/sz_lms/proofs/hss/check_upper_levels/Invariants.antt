use Rattle.std.proofs.Common.{◌≡◌, ◌-◌, None}
use Rattle.sz_lms.specs.Parts.{upper_climb_rules}
use Rattle.sz_lms.specs.Rules.{first_failing, level_rules}
use Rattle.sz_lms.proofs.hss.check_upper_levels.Given as goal

-- the levels from this one on are in order, and what is left of the ways up is what they say of these
abbrev pub invariant-loop : goal.invariant-loop
invariant-loop l = record {
  in_order : first_failing (level_rules (l.below - l.counter) l.level.key.now l.level.bytes.now) ≡ None;
  left : first_failing (upper_climb_rules l.below l.top.key.now l.top.bytes.now)
      ≡ first_failing (upper_climb_rules (l.below - l.counter) l.level.key.now l.level.bytes.now);
}
