-- The part's tape is written where it is changed, and stands there where it is not.
use Rattle.laws.proofs.Kit.{◌∙◌}
use Rattle.laws.proofs.Putting.{put_tape}
use Rattle.joiner.proofs.join.write_part.Goals as goal

pub returns-then-changed : goal.returns-then-changed
returns-then-changed c = let p = c.write_tape.ensures in record { put = put_tape c.requires.due.room p; counted = p.counted ∙ rw c.if-changed.true }

pub returns : goal.returns
returns c = record { put = c.requires.stands c.if-changed.false; counted = rw c.if-changed.false }
