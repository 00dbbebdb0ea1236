-- A number that is none of the rows has no word.
use Rattle.laws.proofs.Kit.{◌≡◌, [], rules}
use Rattle.spec.specs.SpokenLevels.{tens, word_in}
use Rattle.numerals.proofs.Placed.{none_in}
use Rattle.numerals.proofs.Rows.{rows}
use Rattle.numerals.proofs.Words.put_tens.Goals as goal

pub returns-in_default : goal.returns-in_default
unfolding rows
returns-in_default c = let e : word_in tens c.args.n ≡ [] = search rules in rw e (none_in _)
