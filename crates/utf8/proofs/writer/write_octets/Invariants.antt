-- Each turn puts one byte's octets behind those that were put.
use Rattle.utf8.proofs.Walking.{Writes}
use Rattle.utf8.proofs.writer.write_octets.Given as goal

abbrev pub invariant-loop-b : goal.invariant-loop-b
invariant-loop-b l = Writes l.m l.initial.out l.out l.b-index l.at
