-- Each turn passes one cut of the definition's walk or ends it: no cut before index k is bad, and least is the least place that the next one may have.
use Rattle.laws.proofs.Kit.{◌≡◌, drop}
use Rattle.spec.specs.{Joints.bad_cut_from, Joints.bad_cut}
use Rattle.joiner.proofs.join.check_cuts.Given as goal

abbrev pub invariant-loop-k : goal.invariant-loop-k
invariant-loop-k l = bad_cut_from l.m l.least l.k (drop l.k l.cuts) ≡ bad_cut l.m l.cuts
