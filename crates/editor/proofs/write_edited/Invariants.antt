-- Each turn puts a word and a break behind what is done; the last word is put as it is.
use Rattle.laws.proofs.Kit.{◌-◌, length}
use Rattle.editor.proofs.Walking.{Writing}
use Rattle.editor.proofs.write_edited.Given as goal

abbrev pub invariant-loop-i : goal.invariant-loop-i
invariant-loop-i l = Writing l.text l.initial.out l.out l.i l.at

abbrev pub decreases-loop-i : goal.decreases-loop-i
decreases-loop-i l = length l.text - l.i
