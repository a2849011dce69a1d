use Rattle.std.proofs.Common.{◌≡◌, map, take}
use Rattle.std.specs.List.{concat}
use Rattle.sz_spec.specs.Told.{Appends}
use Rattle.sz_commands.proofs.print.write_parts.Given as goal

-- the parts so far are written, and the sink has not failed
abbrev pub invariant-loop-part : goal.invariant-loop-part
invariant-loop-part g l = record {
  written : Appends (g.O.Sink.written l.fn.out) (g.O.Sink.written l.out) (concat (map (λ part. part.now) (take l.part-index l.parts)));
  faults : g.O.Sink.faults l.out ≡ g.O.Sink.faults l.fn.out;
}
