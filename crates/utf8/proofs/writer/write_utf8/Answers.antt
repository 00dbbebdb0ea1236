-- The check decides first; what it accepts is written.
use Rattle.laws.proofs.Kit.{sym}
use Rattle.laws.proofs.Accepted.{accepted_passes, passes_none}
use Rattle.utf8.proofs.Answering.{answered_accepted, answered_refused}
use Rattle.utf8.proofs.writer.write_utf8.Goals as goal

pub write_accepted-requires : goal.write_accepted-requires
write_accepted-requires c = passes_none _ (accepted_passes _ _ (sym c.in-Ok.ensures.answer))

pub returns-in-Ok : goal.returns-in-Ok
returns-in-Ok c = rw (answered_accepted _ _ (sym c.in-Ok.ensures.answer)) c.write_accepted.ensures

pub returns-in-Err : goal.returns-in-Err
returns-in-Err c = answered_refused _ (sym c.in-Err.ensures.answer)
