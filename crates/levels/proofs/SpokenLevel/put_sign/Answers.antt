-- Below zero minus is put; else nothing.
use Rattle.laws.proofs.Kit.{◌≡◌, [], ◌∷◌, arith}
use Rattle.spec.specs.SpokenLevels.{bytes}
use Rattle.spec.proofs.Computed.{everything}
use Rattle.levels.specs.LevelParts.{sign_words}
use Rattle.numerals.proofs.Placed.{none_in}
use Rattle.levels.proofs.LevelParts.{sign_below, sign_above}
use Rattle.levels.proofs.Signed.{near_same}
use Rattle.levels.proofs.SpokenLevel.put_sign.Goals as goal
use Rattle.levels.proofs.SpokenLevel.put_sign.Goals.{Then-self-lt0}

below : (c : Then-self-lt0) → sign_words c.args.self.level ≡ bytes "ми*нус" ∷ []
below c = sign_below c.args.self.level (rw (near_same c.args.self.level c.args.self.in_range) at c.if-self-lt0.true)

pub put-requires : goal.put-requires
unfolding everything
put-requires c = (omega arith, rw (below (goal.at.put-requires c).Then-self-lt0) at c.requires)

pub returns-then-self-lt0 : goal.returns-then-self-lt0
unfolding everything
returns-then-self-lt0 c = rw (below (goal.at.returns-then-self-lt0 c).Then-self-lt0) c.put.ensures

pub returns-else-self-lt0 : goal.returns-else-self-lt0
returns-else-self-lt0 c =
    rw (sign_above c.args.self.level (rw (near_same c.args.self.level c.args.self.in_range) at c.if-self-lt0.false)) (none_in _)
