-- What the walk finds is the answer.
use Rattle.laws.proofs.Promises.{check_promised}
use Rattle.message.proofs.check.check.Goals as goal

pub returns : goal.returns
returns c = check_promised _ _ c.walk.ensures
