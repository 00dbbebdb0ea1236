-- The count is cut to the buffer.
use Rattle.laws.proofs.Kit.{arith}
use Rattle.spec.specs.Book.{book_in}
use Rattle.std.proofs.lemmas.List.{take_min}
use Rattle.records.proofs.reading.book_end.Goals as goal

pub returns : goal.returns
unfolding book_in
returns c = record { inside = omega arith; book = rw c.min.ensures (take_min _ _) }
