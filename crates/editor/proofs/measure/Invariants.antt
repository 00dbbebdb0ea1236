-- Each turn adds a word and a break; the last word is left as it is, and what is done is no longer than the text.
use Rattle.laws.proofs.Kit.{◌-◌, List, ℕ, length}
use Rattle.editor.proofs.Walking.{Stands}
use Rattle.editor.proofs.measure.Given as goal

abbrev pub invariant-loop-i : goal.invariant-loop-i
invariant-loop-i l = (done : List ℕ) × Stands l.text l.i l.at done

abbrev pub decreases-loop-i : goal.decreases-loop-i
decreases-loop-i l = length l.text - l.i
