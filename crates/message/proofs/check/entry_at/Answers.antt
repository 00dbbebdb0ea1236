-- The table of pairs is its rule's, by one computation. It has a row for each kind, and a class is a column.
use Rattle.laws.proofs.Kit.{◌+◌, ◌*◌, ◌<◌, ◌≡◌, refl, arith, get_or, rules}
use Rattle.message.specs.declared.pairs.TheConstants.{PAIRS}
use Rattle.letters.specs.Classes.{class_at}
use Rattle.message.specs.Steps.{packed, pairs, stop_unit}
use Rattle.letters.proofs.Bytes.{by_class}
use Rattle.message.proofs.{Computed.everything, StepTable.pairs_read}
use Rattle.message.proofs.check.entry_at.Goals as goal
use Rattle.message.proofs.check.entry_at.Goals.{After-class_of-c}

the_rule : PAIRS ≡ pairs
unfolding everything
the_rule = refl

-- what is read: the place in the table is within, and the entry is small
read : (c : After-class_of-c) → let a = c.args in let x = packed a.k (class_at a.m.now a.i) in
    (16 * a.k + c.class_of-c.result < 256) × (get_or PAIRS (16 * a.k + c.class_of-c.result) 0 ≡ x) × (x < 32 * stop_unit)
read c =
    rw c.class_of-c.ensures (pairs_read PAIRS _ _ the_rule c.requires.kind (by_class _ (omega (arith, c.type_inv.m c.args.i))).class)

pub overflow_add-result : goal.overflow_add-result
overflow_add-result c = let r = read (goal.at.overflow_add-result c).After-class_of-c in search rules

pub offset_bounds-k : goal.offset_bounds-k
offset_bounds-k c = let r = read (goal.at.offset_bounds-k c).After-class_of-c in search rules

pub bounds-k : goal.bounds-k
bounds-k c = let r = read (goal.at.bounds-k c).After-class_of-c in search rules

pub returns : goal.returns
returns c = let r = read (goal.at.returns c).After-class_of-c in search rules
