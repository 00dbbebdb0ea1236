-- The code's test is the definition's.
use Rattle.spec.specs.Letters.{is_break}
use Rattle.joiner.proofs.join.is_break.Goals as goal

pub returns : goal.returns
unfolding is_break
returns c = cc
