use Rattle.laws.proofs.Kit.{◌+◌, arith}
use Rattle.laws.proofs.Utf8.{encoded_size}
use Rattle.utf8.proofs.Walking.{row_at, Ahead, ahead_more, ahead_end}
use Rattle.utf8.proofs.writer.measure.Goals as goal
use Rattle.utf8.proofs.writer.measure.Goals.{After-width-n}

again : (c : After-width-n) → Ahead c.args.m.now (c.loop-b.b-index + 1) (c.loop-b.n + c.width-n.result)
again c = rw c.width-n.ensures (ahead_more c.loop-b.invariant c.loop-b-test.true)

pub width-n-requires : goal.width-n-requires
width-n-requires c = row_at _ _ c.requires.0 c.loop-b-test.true

pub overflow_add-n : goal.overflow_add-n
overflow_add-n c = omega (arith, (again (goal.at.overflow_add-n c).After-width-n).rest, encoded_size c.args.m.now, c.requires.1)

pub loop-b-preserved : goal.loop-b-preserved
loop-b-preserved c = again (goal.at.loop-b-preserved c).After-width-n

pub returns : goal.returns
returns c = ahead_end c.loop-b.invariant c.loop-b-test.false
