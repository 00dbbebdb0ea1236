-- The first rows of the table are those of the sounds that voice.
use Rattle.laws.proofs.Kit.{◌%◌, ◌≡◌, not, arith, leb, le-leb, lt-leb}
use Rattle.consonants.specs.Following.{voices_over, following_by}
use Rattle.consonants.specs.declared.tables.TheConstants.{SOUNDS}
use Rattle.consonants.proofs.SoundTable.{row_number, not_voicing, row_voices, the_rule}
use Rattle.consonants.proofs.sound_over_gap.Goals as goal
use Rattle.consonants.proofs.sound_over_gap.Goals.{Start}

-- the number that is read tells whether the sound voices
told : (c : Start) → voices_over (following_by (c.args.sound % 64)) ≡ not (leb not_voicing (row_number SOUNDS (c.args.sound % 64)))
told c = rw the_rule (row_voices (c.args.sound % 64) (omega arith))

pub returns-then-sound-lt-NOT_VOICING : goal.returns-then-sound-lt-NOT_VOICING
returns-then-sound-lt-NOT_VOICING c =
    rw (told (goal.at.returns-then-sound-lt-NOT_VOICING c).Start, lt-leb not_voicing _ c.if-sound-lt-NOT_VOICING.true)

pub returns : goal.returns
returns c = rw (told (goal.at.returns c).Start, le-leb not_voicing _ c.if-sound-lt-NOT_VOICING.false)
