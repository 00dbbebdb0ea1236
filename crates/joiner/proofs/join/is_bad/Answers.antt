-- The code's tests are the definition's; past the message's end no break stands.
use Rattle.laws.proofs.Kit.{or-true, or-false, le-leb, lt-leb, List·getD-eq-default}
use Rattle.spec.specs.{Letters.is_break, Joints.row12}
use Rattle.joiner.proofs.join.is_bad.Goals as goal

pub returns-then-m-c : goal.returns-then-m-c
unfolding row12 is_break
returns-then-m-c c = rw (List·getD-eq-default c.args.m.now 0 c.if-m-c.true)

pub returns-then-c-least : goal.returns-then-c-least
unfolding row12 is_break
returns-then-c-least c = rw (lt-leb _ _ c.if-c-least.true, or-true)

pub returns : goal.returns
unfolding row12 is_break
returns c = rw (c.is_break.ensures, le-leb _ _ c.if-c-least.false, or-false)
