-- The bytes that are handed back are the tape's, and a refusal leaves what was there.
use Rattle.book.proofs.Told.{tape_found, none_found}
use Rattle.std.proofs.lemmas.Result.{err_from_is_err_and}
use Rattle.book.proofs.lookup.find.Goals as goal

pub returns-in_err-start-clause-find_promise : goal.returns-in_err-start-clause-find_promise
returns-in_err-start-clause-find_promise c old =
    let p = err_from_is_err_and c.from_residual.result c.from_residual.ensures.1 in
    rw (p.1, p.2) (none_found c.in_err-start.ensures old)

pub returns-clause-find_promise : goal.returns-clause-find_promise
returns-clause-find_promise c old = tape_found c.in_ok-start.ensures old
