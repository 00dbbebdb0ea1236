-- Each turn takes one break more into the run, or ends at the first other byte, which is before the end.
use Rattle.laws.proofs.Kit.{◌-◌, length}
use Rattle.editor.proofs.Walking.{Running}
use Rattle.editor.proofs.read_run.Given as goal

abbrev pub invariant-loop-becomes : goal.invariant-loop-becomes
invariant-loop-becomes l = Running l.text l.k l.becomes

abbrev pub decreases-loop-becomes : goal.decreases-loop-becomes
decreases-loop-becomes l = length l.text - l.k
