-- The level was spoken as it must be, in numbers that are small; what is said in 32 bits is the same.
use mir.Syntax.{w32}
use mir.ValLaws.{to_z-of_z}
use Rattle.laws.proofs.Bounds.{level_small}
use Rattle.capi.proofs.govorun_speak_level.Goals as goal

pub say-requires : goal.say-requires
say-requires c = rw c.speak_level.ensures.answer (level_small _ _)

pub returns : goal.returns
returns c = record { answer = c.speak_level.result; promise = rw (to_z-of_z w32 c.args.level c.ranges.level) at c.speak_level.ensures; said = c.say.ensures }
