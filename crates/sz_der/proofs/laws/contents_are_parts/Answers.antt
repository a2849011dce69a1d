use Rattle.sz_der.proofs.Nested.{faults_of_part, items_of_part, front_of_part, rest_of_part, inner_of_part}
use Rattle.sz_der.proofs.laws.contents_are_parts.Goals as goal

pub returns-clause-faults : goal.returns-clause-faults
returns-clause-faults c = faults_of_part

pub returns-clause-items : goal.returns-clause-items
returns-clause-items c = items_of_part

pub returns-clause-front : goal.returns-clause-front
returns-clause-front c = front_of_part

pub returns-clause-rest : goal.returns-clause-rest
returns-clause-rest c = rest_of_part

pub returns-clause-inner : goal.returns-clause-inner
returns-clause-inner c = inner_of_part
