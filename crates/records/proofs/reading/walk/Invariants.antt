-- At each place what is left to read makes of what was told what is due.
use Rattle.laws.proofs.Kit.{◌-◌, length}
use Rattle.records.proofs.Walks.{Going}
use Rattle.records.proofs.reading.walk.Given as goal

abbrev pub invariant-loop-number : goal.invariant-loop-number
invariant-loop-number l = Going l.book l.wanted l.i l.seen

abbrev pub decreases-loop-number : goal.decreases-loop-number
decreases-loop-number l = length l.book - l.i
