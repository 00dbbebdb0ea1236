-- The rows of the tables, unfolded where a function puts the word of one.
use Rattle.spec.proofs.Computed.{everything}

unfoldable pub rows : Unit {0}
unfolding everything
rows = tt
