use Rattle.std.proofs.Common.{sym, ◌∙◌, rules}
use Rattle.sz_io.proofs.Pairs.{bytes_at-files_of, first_in-at}
use Rattle.sz_io.proofs.memory_folder.first_bytes.Goals as goal

pub returns-in_err-place : goal.returns-in_err-place
returns-in_err-place c = rw (bytes_at-files_of c.args.pairs.now c.args.path.now) (search rules)

pub returns : goal.returns
returns c =
    let place = c.in_ok-place in
    sym (bytes_at-files_of c.args.pairs.now c.args.path.now
    ∙ first_in-at c.args.pairs.now c.args.path.now place.place c.index-pairs-place.result place.ensures.within place.ensures.before (place.ensures.first _))
