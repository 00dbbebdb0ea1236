-- What is copied next is an octet that stands for itself, or a letter's two.
use Rattle.laws.proofs.Kit.{ℕ, ◌+◌, ◌<◌, ◌≤◌, [], ◌∷◌, arith, length, get_or}
use Rattle.spec.specs.Utf8.{decoded}
use Rattle.utf8.proofs.Walking.{Next, copy_within, copy_letter, copies_single, copies_letter}
use Rattle.utf8.proofs.reader.copy.Goals as goal
use Rattle.utf8.proofs.reader.copy.Goals.{Else-b-lt128, In-loop-n, then-b-lt128, else-b-lt128}

-- all octets are bytes
bytes : (c : In-loop-n) (j : ℕ) → get_or c.args.text.now j 0 < 256
bytes c j = omega (arith, c.type_inv.text j)

-- one is still to be put, and has room
more : (c : In-loop-n) → c.loop-n.n < length (decoded c.args.text.now)
more c = omega (arith, c.loop-n-test.true, c.requires.0)

room : (c : In-loop-n) → length (decoded c.args.text.now) ≤ length c.args.out.now
room c = omega (arith, c.requires.0, c.requires.1)

-- or a letter
letter : (c : Else-b-lt128) → let t = c.args.text.now in Next t c.loop-n.i 2 (get_or t c.loop-n.i 0 ∷ get_or t (c.loop-n.i + 1) 0 ∷ [])
letter c = let w = (goal.at.Else-b-lt128 c).In-loop-n in copy_letter c.loop-n.invariant.stands (more w) (bytes w) c.if-b-lt128.false

pub bounds-text-i : goal.bounds-text-i
bounds-text-i c = let w = (goal.at.bounds-text-i c).In-loop-n in copy_within c.loop-n.invariant.stands (more w) (bytes w)

pub bounds-text-i-else-b-lt128 : goal.bounds-text-i-else-b-lt128
bounds-text-i-else-b-lt128 c = omega (arith, (letter (goal.at.bounds-text-i-else-b-lt128 c).Else-b-lt128).within)

pub letter-requires : goal.letter-requires
letter-requires c = (letter (goal.at.letter-requires c).Else-b-lt128).taken

-- The next turn stands behind it.
pub loop-n-preserved : goal.loop-n-preserved
loop-n-preserved c =
    let l = c.loop-n.invariant in
    let v = (goal.at.loop-n-preserved c).In-loop-n in
    elim c.if-b-lt128.branch [
      | then-b-lt128 w ↦ rw (w.out-is, w.i-is) (copies_single l (room v) (more v) (bytes v) w.if-b-lt128.true)
      | else-b-lt128 w ↦ rw (w.out-is, w.i-is) (copies_letter l (room v) (more v) (bytes v) w.if-b-lt128.false w.letter.ensures)
    ]
