-- Each turn goes back over one word, on the message to its break and on the tape to that break's mark.
use Rattle.joiner.specs.Writing.{Reach}
use Rattle.joiner.proofs.join.mark_of.Given as goal

abbrev pub invariant-loop-i : goal.invariant-loop-i
invariant-loop-i l = Reach l.m l.t l.c l.i l.k

abbrev pub decreases-loop-i : goal.decreases-loop-i
decreases-loop-i l = l.i
