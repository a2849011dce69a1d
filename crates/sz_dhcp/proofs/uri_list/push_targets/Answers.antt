use Rattle.std.proofs.Common.{[], ◌∷◌, ◌++◌, ◌∙◌, ap, List, append_assoc}
use Rattle.sz_base.specs.declared.target.Target.{Target}
use Rattle.sz_dhcp.specs.UriList.{GivesTarget, IsEntry}
use Rattle.sz_dhcp.proofs.Joined.{Joined-push, read_more}
use Rattle.sz_dhcp.proofs.uri_list.push_targets.Goals as goal

pub entries-preserved : goal.entries-preserved
entries-preserved c =
    let begins = rw c.in-Some.is at c.in_ok-entry.ensures.some in
    let old = c.entries.invariant in
    let own = c.in_ok-push_target.ensures in
    record {
      uris = old.uris ++ c.in-Some.entry.value.now ∷ [];
      more = old.more ++ own.0;
      read = read_more IsEntry c.args.list.now old.uris c.entries.left.now c.in-Some.entry.rest.now c.in-Some.entry.value.now old.read begins;
      give = Joined-push GivesTarget old.uris c.in-Some.entry.value.now old.more own.0 old.give own.1;
      put = own.2 ∙ ap (λ (xs : List Target). xs ++ own.0) old.put ∙ append_assoc c.args.targets.now old.more own.0;
    }
