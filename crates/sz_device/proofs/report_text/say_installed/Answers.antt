use Rattle.std.proofs.Common.{◌++◌, ◌∷◌, [], List, ℕ, codes, subst, sym}
use Rattle.sz_commands.specs.Ending.{number_of}
use Rattle.sz_commands.specs.Printed.{IsPrinted}
use Rattle.sz_commands.specs.declared.ending.Ending.TheVariants.{Restart}
use Rattle.sz_device.proofs.Lines.{seven-parts}
use Rattle.sz_device.proofs.report_text.say_installed.Goals as goal

pub returns-clause-printed : goal.returns-clause-printed
returns-clause-printed g c =
    let device = c.args.device.now in
    let parts =
    sym (seven-parts device.identity.serial (32 ∷ []) device.running_name (32 ∷ []) device.running_version (codes ", restart") (10 ∷ [])) in
    subst (λ (line : List ℕ). IsPrinted (number_of Restart) (codes "installed " ++ line) c.say_parts.result.0 (g.O.Sink.written c.args.out.now)
    (g.O.Sink.written c.say_parts.new.out)) parts
    (rw (c.as_slice.ensures.bytes, c.as_slice-2.ensures, c.as_slice-3.ensures) at c.say_parts.ensures.printed)
