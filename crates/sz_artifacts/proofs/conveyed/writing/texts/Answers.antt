use Rattle.std.proofs.Common.{IsUtf8, subst, sym}
use Rattle.sz_artifacts.proofs.conveyed.writing.texts.Goals as goal

pub as_str-requires : goal.as_str-requires
as_str-requires c = subst IsUtf8 (sym c.text-item.is) (c.requires c.loop-text.text-index c.text-item.result c.loop-text-test.true)
