-- Zero has a word of its own; any other level has a minus or nothing, and then the number's words.
use Rattle.laws.proofs.Kit.{◌≡◌, refl, ap, [], ◌∷◌, ◌++◌, arith}
use lib.IntN.{nat_abs}
use mir.Syntax.{w32}
use mir.Val.{of_z}
use Rattle.spec.specs.SpokenLevels.{bytes, number_words, level_words}
use Rattle.spec.proofs.Computed.{everything}
use Rattle.numerals.specs.Placing.{RoomIn}
use Rattle.levels.specs.LevelParts.{sign_words}
use Rattle.numerals.proofs.Placed.{first_in, next_in, both_in}
use Rattle.levels.proofs.LevelParts.{sign_words_lem, parts_words}
use Rattle.levels.proofs.Signed.{zero_told}
use Rattle.levels.proofs.SpokenLevel.put.Goals as goal
use Rattle.levels.proofs.SpokenLevel.put.Goals.{Else-self-eq0, Then-self-eq0}

zero : (c : Then-self-eq0) → level_words c.args.self.level ≡ bytes "но*ль" ∷ []
unfolding level_words
zero c = rw (zero_told c.args.self.level c.args.self.in_range c.if-self-eq0.true) refl

-- the words of any other level
words : (c : Else-self-eq0) → level_words c.args.self.level ≡ sign_words c.args.self.level ++ number_words (nat_abs c.args.self.level)
words c = sign_words_lem c.args.self.level (λ z. c.if-self-eq0.false (ap (of_z w32) z))

-- there is room for them
room : (c : Else-self-eq0) → RoomIn (sign_words c.args.self.level ++ number_words (nat_abs c.args.self.level)) c.args.words.now
room c = rw (words c) at c.requires

pub put-requires : goal.put-requires
unfolding everything
put-requires c = (omega arith, rw (zero (goal.at.put-requires c).Then-self-eq0) at c.requires)

pub returns-then-self-eq0 : goal.returns-then-self-eq0
unfolding everything
returns-then-self-eq0 c = rw (zero (goal.at.returns-then-self-eq0 c).Then-self-eq0) c.put.ensures

pub put_sign-requires : goal.put_sign-requires
put_sign-requires c = first_in _ _ (room (goal.at.put_sign-requires c).Else-self-eq0)

pub put_parts-requires : goal.put_parts-requires
put_parts-requires c =
    let f = next_in _ _ (room (goal.at.put_parts-requires c).Else-self-eq0) c.put_sign.ensures in
    (omega (arith, c.split.ensures.units), rw (parts_words c.split.ensures) f)

pub returns : goal.returns
returns c =
    let q = rw (parts_words c.split.ensures) at c.put_parts.ensures in
    rw (words (goal.at.returns c).Else-self-eq0) (both_in _ _ (room (goal.at.returns c).Else-self-eq0) c.put_sign.ensures q)
