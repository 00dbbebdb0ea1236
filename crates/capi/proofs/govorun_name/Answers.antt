-- The naming operation has said what it must, in numbers that are small; what is said in 32 bits is the same.
use Rattle.laws.proofs.Bounds.{name_small}
use Rattle.capi.proofs.govorun_name.Goals as goal

pub say-requires : goal.say-requires
say-requires c = rw c.name.ensures.answer (name_small _ _)
