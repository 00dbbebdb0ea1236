-- A letter's octets lie in ranges that the table covers, and it has the letter there.
use Rattle.laws.proofs.Kit.{◌<◌, ◌≡◌, refl, sym, ◌∙◌, arith}
use Rattle.utf8.specs.declared.tables.TheConstants.{LETTERS}
use Rattle.utf8.specs.Tables.{letters}
use Rattle.utf8.proofs.Computed.{everything}
use Rattle.utf8.proofs.Sequences.{letters_read, pair_byte, lead_within, next_within}
use Rattle.utf8.proofs.tables.letter.Goals as goal
use Rattle.utf8.proofs.tables.letter.Goals.{Start}

the_rule : LETTERS ≡ letters
unfolding everything
the_rule = refl

second : (c : Start) → c.args.next < 256
second c = omega (arith, c.ranges.next)

pub overflow_sub-result : goal.overflow_sub-result
overflow_sub-result c = (lead_within _ _ (second (goal.at.overflow_sub-result c).Start) c.requires).0

pub overflow_sub-result-2 : goal.overflow_sub-result-2
overflow_sub-result-2 c = (next_within _ _ (second (goal.at.overflow_sub-result-2 c).Start) c.requires).0

pub bounds-lead : goal.bounds-lead
bounds-lead c =
    let s = second (goal.at.bounds-lead c).Start in
    omega (arith, lead_within _ _ s c.requires, next_within _ _ s c.requires)

pub returns : goal.returns
returns c =
    let s = second (goal.at.returns c).Start in
    letters_read the_rule (omega (arith, lead_within _ _ s c.requires, next_within _ _ s c.requires))
    ∙ sym (pair_byte _ _ s c.requires)
