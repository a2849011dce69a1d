use Rattle.sz_calendar.proofs.Seconds.{one_time, IsDated-unix_seconds}
use Rattle.sz_calendar.proofs.laws.seconds_and_times_are_one.Goals as goal

pub returns-clause-one_time : goal.returns-clause-one_time
returns-clause-one_time c = one_time

pub returns-clause-dated : goal.returns-clause-dated
returns-clause-dated c = IsDated-unix_seconds
