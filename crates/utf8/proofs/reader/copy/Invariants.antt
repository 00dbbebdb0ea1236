-- Each turn puts the byte of one sequence. Where a byte is still to be read, an octet below 0x80 stands for itself and any other begins a
-- letter.
use Rattle.utf8.proofs.Walking.{Copies}
use Rattle.utf8.proofs.reader.copy.Given as goal

abbrev pub invariant-loop-n : goal.invariant-loop-n
invariant-loop-n l = Copies l.text l.initial.out l.out l.i l.n
