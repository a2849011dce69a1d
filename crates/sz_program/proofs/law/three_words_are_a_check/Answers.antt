use Rattle.sz_program.proofs.PlainWords.{a_fourth_is_none, behind_dashes, plain}
use Rattle.sz_program.proofs.law.three_words_are_a_check.Goals as goal

pub returns : goal.returns
returns c = record { plain = plain; behind_dashes = behind_dashes; fourth = a_fourth_is_none }
