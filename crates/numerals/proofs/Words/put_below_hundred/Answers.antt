-- From 10 to 19 there is one word; else the tens' and then the units'.
use Rattle.laws.proofs.Kit.{◌++◌, ne_eqb}
use Rattle.spec.specs.SpokenLevels.{units, tens, word_in}
use Rattle.numerals.specs.Placing.{RoomIn, low_words}
use Rattle.numerals.proofs.Placed.{first_in, next_in, both_in}
use Rattle.numerals.proofs.Words.put_below_hundred.Goals as goal
use Rattle.numerals.proofs.Words.put_below_hundred.Goals.{Else-ten-eq10}

-- there is room for both
room : (c : Else-ten-eq10) → RoomIn (word_in tens c.args.ten ++ word_in units c.args.unit) c.args.self.now
unfolding low_words
room c = rw (ne_eqb _ 10 c.if-ten-eq10.false) at c.requires.1

pub put_teen-requires : goal.put_teen-requires
unfolding low_words
put_teen-requires c = rw c.if-ten-eq10.true at c.requires.1

pub returns-then-ten-eq10 : goal.returns-then-ten-eq10
unfolding low_words
returns-then-ten-eq10 c = rw c.if-ten-eq10.true c.put_teen.ensures

pub put_tens-requires : goal.put_tens-requires
put_tens-requires c = first_in _ _ (room (goal.at.put_tens-requires c).Else-ten-eq10)

pub put_unit-requires : goal.put_unit-requires
put_unit-requires c = next_in _ _ (room (goal.at.put_unit-requires c).Else-ten-eq10) c.put_tens.ensures

pub returns : goal.returns
unfolding low_words
returns c =
    rw (ne_eqb _ 10 c.if-ten-eq10.false) (both_in _ _ (room (goal.at.returns c).Else-ten-eq10) c.put_tens.ensures c.put_unit.ensures)
