-- What the walk over the book comes to tells where the tape stands.
use Rattle.laws.proofs.Kit.{rules}
use Rattle.book.proofs.Told.{locate_unsound, locate_told}
use Rattle.std.proofs.lemmas.Result.{err_from_is_err_and}
use Rattle.book.proofs.lookup.locate.Goals as goal

pub returns-in_err-seen : goal.returns-in_err-seen
returns-in_err-seen c =
    let p = err_from_is_err_and c.from_residual.result c.from_residual.ensures.1 in
    rw (p.1, p.2) (locate_unsound _ _ _ _ c.book_end.ensures c.walk.ensures _ (λ j. search rules) c.in_err-seen.was)

pub returns : goal.returns
returns c = locate_told _ _ _ _ c.book_end.ensures c.walk.ensures _ (λ j. search rules) c.in_ok-seen.was c.tell.ensures
