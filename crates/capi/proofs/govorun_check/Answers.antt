-- The check has said what it must, in numbers that are small; what is said in 32 bits is the same.
use Rattle.laws.proofs.Bounds.{check_small}
use Rattle.capi.proofs.govorun_check.Goals as goal

pub count-requires : goal.count-requires
count-requires c = rw c.check.ensures.answer (check_small _)
