use Rattle.std.proofs.Common.{◌≡◌, ◌<◌, None, length, take, get_or, rules}
use Rattle.sz_io.specs.Folder.{first_in}
use Rattle.sz_io.proofs.Pairs.{files_of-set, files_of-push}
use Rattle.sz_io.proofs.memory_folder.put.Goals as goal

pub returns-in-Some-clause-ok : goal.returns-in-Some-clause-ok
returns-in-Some-clause-ok c =
    let place = c.in-Some.ensures in
    let content : c.from_vec-content.result ≡ c.args.bytes.now = search rules in
    let within : c.in-Some.place < length c.args.pairs.now.items = search rules in
    let before : first_in (take c.in-Some.place c.args.pairs.now.items) c.args.path.now ≡ None = search rules in
    let first : (get_or c.args.pairs.now.items c.in-Some.place c.index_mut.result.now).0 ≡ c.args.path.now =
    search (rules, place.first c.index_mut.result.now) in
    rw (content, c.index_mut.ensures.value)
    (files_of-set c.args.pairs.now.items c.args.path.now c.args.bytes.now c.in-Some.place c.index_mut.result.now within before first)

pub returns-in_ok-push-in-None-clause-ok : goal.returns-in_ok-push-in-None-clause-ok
returns-in_ok-push-in-None-clause-ok c =
    let absent : first_in c.args.pairs.now.items c.args.path.now ≡ None = search rules in
    let content : c.from_vec-content.result ≡ c.args.bytes.now = search rules in
    let name : c.in_ok-copy-in-None.field-0 ≡ c.args.path.now = search rules in
    rw (c.in_ok-push-in-None.ensures.items, content, name) (files_of-push c.args.pairs.now.items c.args.path.now c.args.bytes.now absent)
