use Rattle.sz_der.proofs.Lists.{item_from_none, none_from_item, front_from_none}
use Rattle.sz_der.proofs.Places.{StandsAt_from_BeginsWith}
use Rattle.sz_der.proofs.laws.fault_or_item.Goals as goal

pub returns-clause-place : goal.returns-clause-place
returns-clause-place c = λ bytes place fits.
    (item_from_none bytes place fits, λ item. none_from_item bytes place item.0 item.1 item.2 item.3)

pub returns-clause-front : goal.returns-clause-front
returns-clause-front c = λ bytes fits. (
  front_from_none bytes fits,
  λ item. none_from_item bytes 0 item.0 item.1 item.2 (StandsAt_from_BeginsWith bytes 0 item.0 item.1 item.2 item.3 item.4),
)
