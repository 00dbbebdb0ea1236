use Rattle.joiner.proofs.Looking.{reach_break, reach_mark, reach_more, reach_there}
use Rattle.joiner.proofs.join.mark_of.Goals as goal

pub last_outside-i-requires : goal.last_outside-i-requires
last_outside-i-requires c = reach_break c.loop-i.invariant c.loop-i-test.true

pub last_outside-k-requires : goal.last_outside-k-requires
last_outside-k-requires c = reach_mark c.loop-i.invariant c.loop-i-test.true c.last_outside-i.ensures

pub loop-i-preserved : goal.loop-i-preserved
loop-i-preserved c = reach_more c.loop-i.invariant c.loop-i-test.true c.last_outside-i.ensures c.last_outside-k.ensures

pub returns : goal.returns
returns c = reach_there c.loop-i.invariant c.loop-i-test.false
