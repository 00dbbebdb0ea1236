-- Each part is put behind those before it.
use Rattle.numerals.proofs.Placed.{first_in, next_in, both_in}
use Rattle.levels.proofs.put_parts.Goals as goal

pub put_thousands-requires : goal.put_thousands-requires
put_thousands-requires c = first_in _ _ c.requires.1

pub put_hundreds-requires : goal.put_hundreds-requires
put_hundreds-requires c = first_in _ _ (next_in _ _ c.requires.1 c.put_thousands.ensures)

pub put_below_hundred-requires : goal.put_below_hundred-requires
put_below_hundred-requires c = (c.requires.0, next_in _ _ (next_in _ _ c.requires.1 c.put_thousands.ensures) c.put_hundreds.ensures)

pub returns : goal.returns
returns c =
    both_in _ _ c.requires.1 c.put_thousands.ensures
    (both_in _ _ (next_in _ _ c.requires.1 c.put_thousands.ensures) c.put_hundreds.ensures c.put_below_hundred.ensures)
