-- Each entry is small, and each class is a kind of the table.
use Rattle.laws.proofs.Kit.{ℕ, ◌+◌, ◌<◌, arith, get_or, rules}
use Rattle.letters.specs.Classes.{class_count, class_at}
use Rattle.letters.proofs.Bytes.{by_class}
use Rattle.message.proofs.check.sum_four.Goals as goal
use Rattle.message.proofs.check.sum_four.Goals.{After-class_of-a}

-- the class of each byte is a kind
small : (c : After-class_of-a) (j : ℕ) → class_at c.args.m.now j < class_count
small c j = (by_class (get_or c.args.m.now j 0) (omega (arith, c.type_inv.m j))).class

pub entry_at-requires-2 : goal.entry_at-requires-2
entry_at-requires-2 c = let k = small (goal.at.entry_at-requires-2 c).After-class_of-a c.args.i in search rules

pub entry_at-requires-3 : goal.entry_at-requires-3
entry_at-requires-3 c = let k = small (goal.at.entry_at-requires-3 c).After-class_of-a (c.args.i + 1) in search rules

pub entry_at-requires-4 : goal.entry_at-requires-4
entry_at-requires-4 c = let k = small (goal.at.entry_at-requires-4 c).After-class_of-a (c.args.i + 2) in search rules
