use Rattle.laws.proofs.Kit.{◌+◌, ◌<◌, ◌≡◌, false, sym, ◌∙◌, arith, length, get_or}
use Rattle.spec.specs.{Tables.among, Utf8.ascii_bytes}
use Rattle.utf8.specs.Walk.{Stands}
use Rattle.utf8.proofs.Walking.{stands_most, reaches, measure_single, measure_letter, measure_stop}
use Rattle.utf8.proofs.reader.measure.Goals as goal
use Rattle.utf8.proofs.reader.measure.Goals.{Else-is_single, In-loop-i, Then-is_letter, Then-is_single}

-- an octet follows the one at the loop's place
follows : (c : In-loop-i) → c.loop-i.i + 1 < length c.args.text.now
follows c = omega (arith, c.loop-i-test.true)

-- which is a byte
byte : (c : In-loop-i) → get_or c.args.text.now c.loop-i.i 0 < 256
byte c = omega (arith, c.type_inv.text c.loop-i.i)

-- it stands for itself
single : (c : Then-is_single) → Stands c.args.text.now (c.loop-i.i + 1) (c.loop-i.n + 1)
single c =
    let w = (goal.at.Then-is_single c).In-loop-i in
    measure_single c.loop-i.invariant (omega (arith, follows w)) (byte w) (sym c.is_single.ensures ∙ c.if-is_single.true)

-- or not
other : (c : Else-is_single) → among ascii_bytes (get_or c.args.text.now c.loop-i.i 0) ≡ false
other c = sym c.is_single.ensures ∙ c.if-is_single.false

-- and is a letter's first one
letter : (c : Then-is_letter) → Stands c.args.text.now (c.loop-i.i + 2) (c.loop-i.n + 1)
letter c =
    let p = goal.at.Then-is_letter c in
    let w = p.In-loop-i in
    measure_letter c.loop-i.invariant (omega (arith, follows w)) (byte w) (other p.Else-is_single) (follows w)
    (sym c.is_letter.ensures ∙ c.if-is_letter.true)

pub overflow_add-n : goal.overflow_add-n
overflow_add-n c = omega (arith, stands_most (single (goal.at.overflow_add-n c).Then-is_single))

pub loop-i-preserved-then-is_single : goal.loop-i-preserved-then-is_single
loop-i-preserved-then-is_single c = single (goal.at.loop-i-preserved-then-is_single c).Then-is_single

pub overflow_add-n-then-is_letter : goal.overflow_add-n-then-is_letter
overflow_add-n-then-is_letter c = omega (arith, stands_most (letter (goal.at.overflow_add-n-then-is_letter c).Then-is_letter))

pub loop-i-preserved : goal.loop-i-preserved
loop-i-preserved c = letter (goal.at.loop-i-preserved c).Then-is_letter

pub returns-else-is_letter : goal.returns-else-is_letter
returns-else-is_letter c =
    let p = goal.at.returns-else-is_letter c in
    let w = p.In-loop-i in
    reaches (measure_stop c.loop-i.invariant (omega (arith, follows w)) (byte w) (other p.Else-is_single) (follows w)
    (sym c.is_letter.ensures ∙ c.if-is_letter.false))
