-- The stress mark and what the editor takes for a break are the definition's list.
use Rattle.laws.proofs.Kit.{arith}
use Rattle.utf8.proofs.Sequences.{single_told}
use Rattle.utf8.proofs.reader.is_single.Goals as goal

pub returns : goal.returns
returns c = rw c.is_break.ensures (single_told _ (omega (arith, c.ranges.b)))
