-- Each turn passes one byte more, or ends at the first break, which is before the end.
use Rattle.laws.proofs.Kit.{◌-◌, length}
use Rattle.editor.specs.Walk.{others}
use Rattle.editor.proofs.Walking.{Counting}
use Rattle.editor.proofs.count_word.Given as goal

abbrev pub invariant-loop-k : goal.invariant-loop-k
invariant-loop-k l = Counting others l.text l.k

abbrev pub decreases-loop-k : goal.decreases-loop-k
decreases-loop-k l = length l.text - l.k
