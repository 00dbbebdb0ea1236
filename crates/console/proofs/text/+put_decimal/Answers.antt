-- A number below ten is its one digit; a larger one is a tenth of it, which is smaller, and its last digit.
use Rattle.laws.proofs.Kit.{arith, ap, length}
use Rattle.console.proofs.Texts.{put_over, decimal_small, decimal_large, decimal_longer}
use Rattle.console.proofs.text.+put_decimal.Goals as goal

pub put-requires : goal.put-requires
put-requires t c = omega (arith, ap length (decimal_small c.args.n c.if-n-lt10.true))

pub returns-then-n-lt10 : goal.returns-then-n-lt10
returns-then-n-lt10 t c = rw (decimal_small c.args.n c.if-n-lt10.true) c.put.ensures

pub put_decimal-end-requires : goal.put_decimal-end-requires
put_decimal-end-requires t c = let l = decimal_longer c.args.n c.if-n-lt10.false in (omega arith, omega arith)

pub put-requires-2 : goal.put-requires-2
put-requires-2 t c = omega (arith, decimal_longer c.args.n c.if-n-lt10.false, c.put_decimal-end.ensures.place)

pub returns : goal.returns
returns t c = rw (decimal_large c.args.n c.if-n-lt10.false) (put_over c.put_decimal-end.ensures c.put-2.ensures)
