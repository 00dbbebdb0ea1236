-- Each turn reads a sequence, or stops at one that is not taken. Before the last octet another always follows.
use Rattle.laws.proofs.Kit.{◌-◌, length}
use Rattle.utf8.specs.Walk.{Stands}
use Rattle.utf8.proofs.reader.measure.Given as goal

abbrev pub invariant-loop-i : goal.invariant-loop-i
invariant-loop-i l = Stands l.text l.i l.n

abbrev pub decreases-loop-i : goal.decreases-loop-i
decreases-loop-i l = length l.text - l.i
