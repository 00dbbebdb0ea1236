use Rattle.laws.proofs.Kit.{◌≡◌, ◌+◌, ◌≤◌, [], ◌∷◌, true, ap, arith, length, get_or}
use lib.ListN.{length-set}
use Rattle.spec.specs.Utf8.{has_row, sequence}
use Rattle.utf8.proofs.Sequences.{single_sequence, letter_two}
use Rattle.utf8.proofs.Walking.{row_at, writes_none, writes_room, writes_single, writes_letter}
use Rattle.utf8.proofs.writer.write_octets.Goals as goal
use Rattle.utf8.proofs.writer.write_octets.Goals.{After-octets, In-loop-b, Then-b-lt128, then-b-lt128, else-b-lt128}

-- the byte at the loop's place has a row
row : (c : In-loop-b) → has_row (get_or c.args.m.now c.loop-b.b-index 0) ≡ true
row c = row_at c.args.m.now c.loop-b.b-index c.requires.0 c.loop-b-test.true

-- and one octet
one : (c : Then-b-lt128) → let b = get_or c.args.m.now c.loop-b.b-index 0 in sequence b ≡ b ∷ []
one c = single_sequence _ (row (goal.at.Then-b-lt128 c).In-loop-b) c.if-b-lt128.true

-- or two, for which there is room
two : (c : After-octets) → let o = c.octets.result in
    sequence (get_or c.args.m.now c.loop-b.b-index 0) ≡ get_or o 0 0 ∷ get_or o 1 0 ∷ []
two c = rw c.octets.ensures (letter_two _ (row (goal.at.After-octets c).In-loop-b) c.if-b-lt128.false)

room : (c : After-octets) → c.loop-b.at + 2 ≤ length c.loop-b.out
room c = writes_room c.loop-b.invariant c.loop-b-test.true c.requires.1 (ap length (two c))

pub loop-b-init : goal.loop-b-init
loop-b-init c = writes_none _ _

pub bounds-out-at : goal.bounds-out-at
bounds-out-at c =
    omega (arith, writes_room c.loop-b.invariant c.loop-b-test.true c.requires.1 (ap length (one (goal.at.bounds-out-at c).Then-b-lt128)))

pub octets-requires : goal.octets-requires
octets-requires c = (c.if-b-lt128.false, row (goal.at.octets-requires c).In-loop-b)

pub bounds-out-at-else-b-lt128 : goal.bounds-out-at-else-b-lt128
bounds-out-at-else-b-lt128 c = omega (arith, room (goal.at.bounds-out-at-else-b-lt128 c).After-octets)

pub bounds-out-at-else-b-lt128-2 : goal.bounds-out-at-else-b-lt128-2
bounds-out-at-else-b-lt128-2 c = simp length-set (omega (arith, room (goal.at.bounds-out-at-else-b-lt128-2 c).After-octets))

pub loop-b-preserved : goal.loop-b-preserved
loop-b-preserved c =
    let w = c.loop-b.invariant in
    let h = c.loop-b-test.true in
    let r = row (goal.at.loop-b-preserved c).In-loop-b in
    elim c.if-b-lt128.branch [
      | then-b-lt128 b ↦ rw (b.out-is, b.at-is) (writes_single w h c.requires.1 (single_sequence _ r b.if-b-lt128.true))
      | else-b-lt128 b ↦
          rw (b.out-is, b.at-is) (writes_letter w h c.requires.1 (rw b.octets.ensures (letter_two _ r b.if-b-lt128.false)))
    ]
