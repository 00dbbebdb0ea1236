-- A number of five digits fits, and so does its negation.
use Rattle.gauge.proofs.Numbers.{read_plain, read_minus}
use Rattle.gauge.proofs.level.read_level.Goals as goal

pub returns-then-digits-t-clause-value : goal.returns-then-digits-t-clause-value
returns-then-digits-t-clause-value c = read_minus _ _ _ c.behind_sign-digits.ensures c.read_digits-n.ensures c.if-digits-t.true

pub returns-else-digits-t-clause-value : goal.returns-else-digits-t-clause-value
returns-else-digits-t-clause-value c = read_plain _ _ _ c.behind_sign-digits.ensures c.read_digits-n.ensures c.if-digits-t.false
