-- Every definition of the papers and of bytes and their places by one name, for proofs that compute a table: `unfolding everything`.
use Rattle.letters.specs.Classes.{letter_class, class_of, tabulate, classes, letter_at, byte_before, elided_at}
use Rattle.spec.proofs.Computed as spec

unfoldable pub everything : Unit {0}
unfolding spec.everything letter_class class_of tabulate classes letter_at byte_before elided_at
everything = tt
