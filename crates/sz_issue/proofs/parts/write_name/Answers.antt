use Rattle.sz_issue.proofs.SharedParts.{name_written}
use Rattle.sz_issue.proofs.parts.write_name.Goals as goal

pub returns : goal.returns
returns c =
    name_written c.in_ok-attribute.ensures c.in_ok-item.ensures.ok c.in_ok-item-2.ensures.ok c.as_slice.ensures c.in_ok-names.ensures
    c.in_ok-write_holder.ensures _ c.as_slice-2.ensures c.in_ok-item-3.ensures.ok
