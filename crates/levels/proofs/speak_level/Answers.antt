-- The words are put where there is room for them, by either way to there.
use Rattle.laws.proofs.Kit.{arith}
use Rattle.levels.proofs.Spoken.{answered, level_written}
use Rattle.levels.proofs.speak_level.Goals as goal

pub returns : goal.returns
returns c =
    level_written _ _ _ _ _ c.ranges.level c.in-Some.ensures.inside c.in-Some.spoken.in_range (grind (arith, answered)) c.write-length.ensures
