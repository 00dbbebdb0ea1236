-- The writer has said what it must, in numbers that are small; what is said in 32 bits is the same.
use Rattle.laws.proofs.Bounds.{write_small}
use Rattle.capi.proofs.govorun_write_utf8.Goals as goal

pub say-requires : goal.say-requires
say-requires c = rw c.write_utf8.ensures.answer (write_small _ _)
