use Rattle.std.proofs.Common.{rules, arith}
use Rattle.std.proofs.lemmas.Grind.{common_steps}
use Rattle.sz_program.proofs.Laws.{causes}
use Rattle.sz_program.proofs.running.run.Goals as goal

pub returns-in-Ok-Some-Check-clause-ran : goal.returns-in-Ok-Some-Check-clause-ran
returns-in-Ok-Some-Check-clause-ran g c = first_of (search rules, grind arith, grind (arith, common_steps))

pub returns-in-Ok-Some-Check-clause-causes : goal.returns-in-Ok-Some-Check-clause-causes
returns-in-Ok-Some-Check-clause-causes g c = causes _ _ _ _ c.args.words.now (returns-in-Ok-Some-Check-clause-ran g c)

pub returns-in-Ok-Some-Keygen-clause-ran : goal.returns-in-Ok-Some-Keygen-clause-ran
returns-in-Ok-Some-Keygen-clause-ran g c = first_of (search rules, grind arith, grind (arith, common_steps))

pub returns-in-Ok-Some-Keygen-clause-causes : goal.returns-in-Ok-Some-Keygen-clause-causes
returns-in-Ok-Some-Keygen-clause-causes g c = causes _ _ _ _ c.args.words.now (returns-in-Ok-Some-Keygen-clause-ran g c)

pub returns-in-Ok-Some-Sign-clause-ran : goal.returns-in-Ok-Some-Sign-clause-ran
returns-in-Ok-Some-Sign-clause-ran g c = first_of (search rules, grind arith, grind (arith, common_steps))

pub returns-in-Ok-Some-Sign-clause-causes : goal.returns-in-Ok-Some-Sign-clause-causes
returns-in-Ok-Some-Sign-clause-causes g c = causes _ _ _ _ c.args.words.now (returns-in-Ok-Some-Sign-clause-ran g c)

pub returns-in-Ok-Some-Init-clause-ran : goal.returns-in-Ok-Some-Init-clause-ran
returns-in-Ok-Some-Init-clause-ran g c = first_of (search rules, grind arith, grind (arith, common_steps))

pub returns-in-Ok-Some-Init-clause-causes : goal.returns-in-Ok-Some-Init-clause-causes
returns-in-Ok-Some-Init-clause-causes g c = causes _ _ _ _ c.args.words.now (returns-in-Ok-Some-Init-clause-ran g c)

pub returns-in-Ok-Some-Onboard-clause-ran : goal.returns-in-Ok-Some-Onboard-clause-ran
returns-in-Ok-Some-Onboard-clause-ran g c = first_of (search rules, grind arith, grind (arith, common_steps))

pub returns-in-Ok-Some-Onboard-clause-causes : goal.returns-in-Ok-Some-Onboard-clause-causes
returns-in-Ok-Some-Onboard-clause-causes g c = causes _ _ _ _ c.args.words.now (returns-in-Ok-Some-Onboard-clause-ran g c)

pub returns-in-Ok-Some-Show-clause-ran : goal.returns-in-Ok-Some-Show-clause-ran
returns-in-Ok-Some-Show-clause-ran g c = first_of (search rules, grind arith, grind (arith, common_steps))

pub returns-in-Ok-Some-Show-clause-causes : goal.returns-in-Ok-Some-Show-clause-causes
returns-in-Ok-Some-Show-clause-causes g c = causes _ _ _ _ c.args.words.now (returns-in-Ok-Some-Show-clause-ran g c)

pub returns-in-Ok-Some-Audit-clause-ran : goal.returns-in-Ok-Some-Audit-clause-ran
returns-in-Ok-Some-Audit-clause-ran g c = first_of (search rules, grind arith, grind (arith, common_steps))

pub returns-in-Ok-Some-Audit-clause-causes : goal.returns-in-Ok-Some-Audit-clause-causes
returns-in-Ok-Some-Audit-clause-causes g c = causes _ _ _ _ c.args.words.now (returns-in-Ok-Some-Audit-clause-ran g c)
