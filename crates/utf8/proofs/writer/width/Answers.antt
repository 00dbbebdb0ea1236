-- A byte of a message stands for itself below 0x80, and is a letter from there on.
use Rattle.laws.proofs.Kit.{sym, ap, length}
use Rattle.utf8.proofs.Sequences.{single_sequence, letter_octets}
use Rattle.utf8.proofs.writer.width.Goals as goal

pub returns-then-b-lt128 : goal.returns-then-b-lt128
returns-then-b-lt128 c = sym (ap length (single_sequence _ c.requires c.if-b-lt128.true))

pub returns-else-b-lt128 : goal.returns-else-b-lt128
returns-else-b-lt128 c = ap length (letter_octets _ c.requires c.if-b-lt128.false)
