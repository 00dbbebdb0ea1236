-- Each turn reads one digit more, until the number is outside the range whatever follows.
use Rattle.gauge.proofs.Numbers.{Reads}
use Rattle.gauge.proofs.level.read_digits.Given as goal

abbrev pub invariant-loop-b : goal.invariant-loop-b
invariant-loop-b l = Reads l.t l.b-index l.n
