-- Every definition of this crate and of those below it by one name, for proofs that compute: `unfolding everything`.
-- Assumes nothing.
use Rattle.letters.proofs.Computed as message
use Rattle.utf8.specs.Tables.{lead_of, leads, letter_of, letters, both, sequence_of, sequences}

unfoldable pub everything : Unit {0}
unfolding message.everything lead_of leads letter_of letters both sequence_of sequences
everything = tt
