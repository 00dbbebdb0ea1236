-- The whole tape is written, then the parts from the last one on, and with the first one the second tape stands.
use Rattle.joiner.specs.Writing.{Laid}
use Rattle.joiner.proofs.join.write_joined.Given as goal

abbrev pub invariant-loop-k : goal.invariant-loop-k
invariant-loop-k l = Laid l.edition l.m l.cuts l.k l.out l.p
