-- Each turn copies one byte more, or ends at the first break, which is before the end.
use Rattle.laws.proofs.Kit.{◌-◌, length}
use Rattle.editor.specs.Walk.{others}
use Rattle.editor.proofs.Walking.{Counting, Copying}
use Rattle.editor.proofs.copy_word.Given as goal

abbrev pub invariant-loop-out : goal.invariant-loop-out
invariant-loop-out l = record { counted : Counting others l.text l.k; copied : Copying l.text l.initial.out l.out l.k }

abbrev pub decreases-loop-out : goal.decreases-loop-out
decreases-loop-out l = length l.text - l.k
