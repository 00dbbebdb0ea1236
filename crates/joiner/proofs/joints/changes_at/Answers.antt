-- The codes beside the mark tell what a cut changes, and each branch settles one test of them.
use Rattle.laws.proofs.Kit.{suc, ◌+◌, ◌≡◌, ◌∙◌, ◌&&◌}
use Rattle.letters.specs.Classes.{letter_at}
use Rattle.laws.specs.{Parts.changed_after, Parts.changed_before, Beside.is_i_or_e}
use Rattle.joiner.proofs.Sides.{voice_told, hardness_told}
use Rattle.joiner.proofs.joints.changes_at.Goals as goal
use Rattle.joiner.proofs.joints.changes_at.Goals.{After-is_high}

-- the code before the mark tells (a), and the one after it with the next letter (b)
told : (c : After-is_high) → let s = c.args in
    (c.is_voiced-before.result ≡ changed_before s.m.now s.c) × ((c.is_high.result && is_i_or_e (letter_at s.m.now (s.c + 1))) ≡ changed_after s.m.now (suc s.c))
told c = let b = c.requires in
    (c.is_voiced-before.ensures ∙ voice_told b, rw c.is_high.ensures (hardness_told b))

pub returns-then-is_high : goal.returns-then-is_high
returns-then-is_high c = let t = told (goal.at.returns-then-is_high c).After-is_high in record { before = t.0; after = c.is_i_or_e-after.ensures ∙ rw c.letter_at.ensures (rw c.if-is_high.true at t.1) }

pub returns : goal.returns
returns c = let t = told (goal.at.returns c).After-is_high in record { before = t.0; after = rw c.if-is_high.false at t.1 }
