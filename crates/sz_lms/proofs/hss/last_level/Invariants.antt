use Rattle.std.proofs.Common.{◌≡◌, ◌-◌, ℕ, List}
use Rattle.sz_lms.specs.Rules.{first_failing, level_rules}
use Rattle.sz_lms.proofs.Levels.{IsLast}
use Rattle.sz_lms.proofs.hss.last_level.Given as goal

-- what is left of the rules is what they say of this level and those below, and the last of those is the last
abbrev pub invariant-loop : goal.invariant-loop
invariant-loop l = record {
  left : first_failing (level_rules l.below l.top.key.now l.top.bytes.now)
      ≡ first_failing (level_rules (l.below - l.counter) l.level.key.now l.level.bytes.now);
  last : (last rest : List ℕ) → IsLast (l.below - l.counter) l.level.key.now l.level.bytes.now last rest
      → IsLast l.below l.top.key.now l.top.bytes.now last rest;
}
