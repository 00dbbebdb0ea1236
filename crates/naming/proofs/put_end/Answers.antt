-- A consonant or a sign before the place leaves a syllable incomplete, and the class before tells it.
use Rattle.laws.proofs.Kit.{◌≡◌, ap, cond, [], ◌∷◌, arith, length}
use Rattle.spec.specs.Syllables.{incomplete}
use Rattle.laws.proofs.Putting.{put_none}
use Rattle.letters.specs.Places.{last_at}
use Rattle.stress.proofs.Raw.{incomplete_raw}
use Rattle.naming.proofs.put_end.Goals as goal
use Rattle.naming.proofs.put_end.Goals.{After-is_consonant_or_sign}

-- the names that are put
tail : (c : After-is_consonant_or_sign)
    → incomplete (last_at c.args.m.now c.args.i) ≡ cond c.is_consonant_or_sign.result (7 ∷ []) []
tail c =
    let w = c.requires in
    rw (c.is_consonant_or_sign.ensures, c.class_before.ensures) (incomplete_raw c.args.m.now w.steady c.args.i w.within)

pub put-requires : goal.put-requires
put-requires c =
    let t = tail (goal.at.put-requires c).After-is_consonant_or_sign in
    (omega (arith, c.requires.room, rw c.if-is_consonant_or_sign.true at (ap length t)), c.requires.place)

pub returns-then-is_consonant_or_sign : goal.returns-then-is_consonant_or_sign
returns-then-is_consonant_or_sign c =
    let t = tail (goal.at.returns-then-is_consonant_or_sign c).After-is_consonant_or_sign in
    rw (t, c.if-is_consonant_or_sign.true) c.put.ensures

pub returns : goal.returns
returns c =
    let t = tail (goal.at.returns c).After-is_consonant_or_sign in
    rw (t, c.if-is_consonant_or_sign.false) (put_none _ _)
