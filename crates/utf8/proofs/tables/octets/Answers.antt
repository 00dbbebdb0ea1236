-- The table has the octets of each letter, from Ё on.
use Rattle.laws.proofs.Kit.{◌-◌, ◌≡◌, ◌∙◌, arith, refl}
use Rattle.utf8.specs.declared.tables.TheConstants.{SEQUENCES}
use Rattle.utf8.specs.Tables.{sequences}
use Rattle.utf8.proofs.Computed.{everything}
use Rattle.utf8.proofs.Sequences.{letter_octets, letter_within, sequences_read}
use Rattle.utf8.proofs.tables.octets.Goals as goal

the_rule : SEQUENCES ≡ sequences
unfolding everything
the_rule = refl

pub overflow_sub-b : goal.overflow_sub-b
overflow_sub-b c = letter_within _ c.requires.1 c.requires.0

pub returns : goal.returns
returns c =
    let e = sequences_read {j = c.args.b - 0xA8} the_rule (omega (arith, c.ranges.b)) in
    c.to_be_bytes.ensures ∙ rw e (letter_octets _ c.requires.1 c.requires.0)
