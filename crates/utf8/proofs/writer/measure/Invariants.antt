-- Each turn adds one byte's octets.
use Rattle.utf8.proofs.Walking.{Ahead}
use Rattle.utf8.proofs.writer.measure.Given as goal

abbrev pub invariant-loop-b : goal.invariant-loop-b
invariant-loop-b l = Ahead l.m l.b-index l.n
