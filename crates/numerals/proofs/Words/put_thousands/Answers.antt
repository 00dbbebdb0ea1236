-- Nothing is put of none; else the count and then its form.
use Rattle.laws.proofs.Kit.{[], ◌∷◌, ◌++◌, ne_eqb}
use Rattle.spec.specs.SpokenLevels.{feminine, word_in, thousand, thousands}
use Rattle.numerals.specs.Placing.{RoomIn}
use Rattle.numerals.proofs.Placed.{none_in, first_in, next_in, both_in}
use Rattle.numerals.proofs.Words.put_thousands.Goals as goal
use Rattle.numerals.proofs.Words.put_thousands.Goals.{Then-n-ne0}

-- there is room for both
room : (c : Then-n-ne0) → RoomIn (word_in feminine c.args.n ++ (thousand c.args.n ∷ [])) c.args.self.now
unfolding thousands
room c = rw (ne_eqb _ 0 c.if-n-ne0.true) at c.requires

pub put_count-requires : goal.put_count-requires
put_count-requires c = first_in _ _ (room (goal.at.put_count-requires c).Then-n-ne0)

pub put_thousand-requires : goal.put_thousand-requires
put_thousand-requires c = next_in _ _ (room (goal.at.put_thousand-requires c).Then-n-ne0) c.put_count.ensures

pub returns-then-n-ne0 : goal.returns-then-n-ne0
unfolding thousands
returns-then-n-ne0 c =
    rw (ne_eqb _ 0 c.if-n-ne0.true)
    (both_in _ _ (room (goal.at.returns-then-n-ne0 c).Then-n-ne0) c.put_count.ensures c.put_thousand.ensures)

pub returns-else-n-ne0 : goal.returns-else-n-ne0
unfolding thousands
returns-else-n-ne0 c = rw c.if-n-ne0.false (none_in _)
