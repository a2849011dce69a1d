use Rattle.std.proofs.Common.{sym, ◌∙◌}
use Rattle.sz_base.proofs.Padded.{decodes}
use Rattle.sz_base.proofs.laws.base64_reads_back.Goals as goal

pub returns-clause-one_reading : goal.returns-clause-one_reading
returns-clause-one_reading c = λ text a b ha hb. cc (sym (decodes text a ha) ∙ decodes text b hb)
