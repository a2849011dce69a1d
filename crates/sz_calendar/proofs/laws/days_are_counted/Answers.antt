use Rattle.sz_calendar.proofs.Days.{unix_day-epoch, unix_day-next_year, unix_day-next_month, unix_day-next}
use Rattle.sz_calendar.proofs.laws.days_are_counted.Goals as goal

pub returns-clause-epoch : goal.returns-clause-epoch
returns-clause-epoch c = unix_day-epoch

pub returns-clause-years : goal.returns-clause-years
returns-clause-years c = λ year low high. unix_day-next_year year low

pub returns-clause-months : goal.returns-clause-months
returns-clause-months c = unix_day-next_month

pub returns-clause-days : goal.returns-clause-days
returns-clause-days c = unix_day-next
