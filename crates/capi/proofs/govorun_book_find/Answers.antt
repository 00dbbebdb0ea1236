-- A listener's lookup is carried on, and who is no listener is turned away.
use Rattle.laws.proofs.Kit.{sym, ap}
use Rattle.capi.proofs.govorun_book_find.Goals as goal
use Rattle.std.proofs.Common.{Err}

pub returns-in-Some : goal.returns-in-Some
returns-in-Some c = record { answer = c.locate.result; promise = rw (sym c.in-Some.ensures) c.locate.ensures; said = c.from.ensures }

pub returns-in-None : goal.returns-in-None
returns-in-None c = record { answer = _; promise = rw (sym c.in-None.ensures) (ap Err c.refuse.ensures); said = c.from-in-None.ensures }
