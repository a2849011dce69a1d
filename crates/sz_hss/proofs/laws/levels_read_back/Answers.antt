use Rattle.std.proofs.Common.{refl}
use Rattle.sz_hss.specs.LevelsText.{levels_text}
use Rattle.sz_hss.proofs.LevelsTexts.{levels-again, levels-once}
use Rattle.sz_hss.proofs.laws.levels_read_back.Goals as goal

pub returns-clause-again : goal.returns-clause-again
returns-clause-again c = λ shapes answer are reads.
    levels-again (levels_text shapes) shapes answer (record { levels = are; spelled = refl }) reads

pub returns-clause-one_reading : goal.returns-clause-one_reading
returns-clause-one_reading c = levels-once
