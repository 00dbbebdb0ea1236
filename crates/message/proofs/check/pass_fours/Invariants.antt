-- Four bytes without a stop are seen one after the other; at the first stop, or at the end, what is seen stays true.
use Rattle.laws.proofs.Kit.{◌-◌, ◌≤◌}
use Rattle.message.specs.{Steps.Sees}
use Rattle.message.proofs.check.pass_fours.Given as goal

abbrev pub invariant-loop-at : goal.invariant-loop-at
invariant-loop-at l = Sees l.m (record { at = l.at; kind = l.kind; from = l.seen.from; limit = l.seen.limit; sum = l.sum }) × (l.seen.at ≤ l.at)

abbrev pub decreases-loop-at : goal.decreases-loop-at
decreases-loop-at l = l.to - l.at
