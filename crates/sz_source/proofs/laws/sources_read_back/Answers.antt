use Rattle.sz_source.proofs.Words.{one_source, one_text, source_again, spelled}
use Rattle.sz_source.proofs.laws.sources_read_back.Goals as goal

pub returns-clause-again : goal.returns-clause-again
returns-clause-again c = source_again

pub returns-clause-one_reading : goal.returns-clause-one_reading
returns-clause-one_reading c = one_source

pub returns-clause-one_text : goal.returns-clause-one_text
returns-clause-one_text c = one_text

pub returns-clause-spelled : goal.returns-clause-spelled
returns-clause-spelled c = spelled
