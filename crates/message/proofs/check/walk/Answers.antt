-- The first fault is the check's answer.
use Rattle.message.proofs.{Faults.seen_fault}
use Rattle.std.proofs.lemmas.Result.{err_from_is_err_and}
use Rattle.message.proofs.check.walk.Goals as goal

pub returns-in_err-seen : goal.returns-in_err-seen
returns-in_err-seen c =
    let p = err_from_is_err_and c.from_residual.result c.from_residual.ensures.1 in
    let w = c.pass_fours-seen.ensures.0 in
    rw (p.1, p.2) (seen_fault _ w.bytes _ _ c.if-seen-m.true w.short w.clear c.in_err-seen.ensures)
