-- Each turn copies one byte more.
use Rattle.editor.proofs.Walking.{Copying}
use Rattle.editor.proofs.copy_all.Given as goal

abbrev pub invariant-loop-k : goal.invariant-loop-k
invariant-loop-k l = Copying l.text l.initial.out l.out l.k
