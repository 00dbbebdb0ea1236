-- The sound tells the row of the table, and the letter, by its last five bits, its place in the row.
use Rattle.laws.proofs.Kit.{arith}
use Rattle.consonants.specs.declared.tables.TheConstants.{SOUNDS}
use Rattle.consonants.proofs.SoundTable.{Read, code_read, the_rule}
use Rattle.consonants.proofs.consonant_code.Goals as goal
use Rattle.consonants.proofs.consonant_code.Goals.{Start}

-- what is read
read : (c : Start) → Read SOUNDS c.args.b c.args.sound
read c = code_read SOUNDS c.args.b c.args.sound the_rule (omega (arith, c.ranges.b)) c.requires

pub bounds-row : goal.bounds-row
bounds-row c = omega (arith, (read (goal.at.bounds-row c).Start).row)

pub returns : goal.returns
returns c = (read (goal.at.returns c).Start).code
