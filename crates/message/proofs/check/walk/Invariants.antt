-- Each turn passes bytes that have no fault or finds the first that has one; the measure is what is left of the message.
use Rattle.laws.proofs.Kit.{◌-◌, length}
use Rattle.message.specs.Steps.{Sees}
use Rattle.message.proofs.check.walk.Given as goal

abbrev pub invariant-loop-seen : goal.invariant-loop-seen
invariant-loop-seen l = Sees l.m l.seen

abbrev pub decreases-loop-seen : goal.decreases-loop-seen
decreases-loop-seen l = length l.m - l.seen.at
