use Rattle.gauge.proofs.Numbers.{digit_at, reads_all}
use Rattle.gauge.proofs.level.read_digits.Goals as goal

pub overflow_sub-n : goal.overflow_sub-n
overflow_sub-n c = (digit_at c.loop-b.invariant c.loop-b-test.true).0

pub returns : goal.returns
returns c = reads_all c.loop-b.invariant c.loop-b-test.false
