use Rattle.std.proofs.Common.{◌≡◌, [], append-nil, rules}
use Rattle.std.proofs.lemmas.List.{nil_from_length}
use Rattle.sz_artifacts.proofs.conveyed.redirect.targets.Goals as goal

pub returns-clause-ok : goal.returns-clause-ok
returns-clause-ok c =
    let empty : c.servers.rest.now ≡ [] = search (rules, nil_from_length) in
    let whole = rw (empty, append-nil) at (c.servers.invariant.read []) in
    whole tt
