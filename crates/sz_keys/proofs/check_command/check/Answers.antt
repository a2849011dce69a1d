use Rattle.std.proofs.Common.{◌≡◌, ◌∙◌, rules, arith}
use Rattle.std.proofs.lemmas.Grind.{common_steps}
use Rattle.sz_keys.proofs.Cuts.{may_answer}
use Rattle.sz_keys.proofs.check_command.check.Goals as goal
use Rattle.sz_keys.specs.View.{paths_of}

pub returns : goal.returns
returns g c =
    let files = g.F.Folder.files in
    let told = files c.args.folder.now in
    let first : files c.read_front.new.folder ≡ told = c.in_ok-public.ensures.unchanged in
    let second : files c.input_size.new.folder ≡ told = c.in_ok-size.ensures.unchanged ∙ first in
    let third : files c.read_front-2.new.folder ≡ told = c.in_ok-signature.ensures.unchanged ∙ second in
    record {
      may =
          may_answer (paths_of c.args.paths.now) told (files c.read_front-2.new.folder) c.as_slice.result.now c.as_slice-2.result.now c.in_ok-size.size
          c.check_file.result third (rw (← c.as_slice.ensures) at c.in_ok-public.ensures.front) (rw first at c.in_ok-size.ensures.size)
          (rw (second, ← c.as_slice-2.ensures) at c.in_ok-signature.ensures.front)
          c.check_file.ensures.rule c.check_file.ensures.signed c.check_file.ensures.failed;
      unchanged = search rules;
      cause = grind (arith, common_steps);
    }
