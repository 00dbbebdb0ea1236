use Rattle.laws.proofs.Kit.{sym, ap, arith, length, length-take-le}
use Rattle.laws.proofs.Accepted.{accepted_passes}
use Rattle.joiner.proofs.Laying.{next, laid_none, laid_on, laid_length, first_part, laid_all}
use Rattle.joiner.proofs.join.write_joined.Goals as goal

pub returns : goal.returns
returns c =
    laid_all c.loop-k.invariant c.loop-k-test.false c.write_part-first.ensures

pub write_tape-whole-requires : goal.write_tape-whole-requires
write_tape-whole-requires c =
    let p = c.requires in let v = p.valid in
    record { counts = v.counts; accepted = v.accepted; room = omega (arith, p.fits); place = omega arith }

pub loop-k-init : goal.loop-k-init
loop-k-init c = laid_none c.requires c.write_tape-whole.ensures

pub lay_part-p-requires : goal.lay_part-p-requires
lay_part-p-requires c = laid_on c.loop-k.invariant c.loop-k-test.true

pub slice_bounds-write_part-end : goal.slice_bounds-write_part-end
slice_bounds-write_part-end c = sym (length-take-le _ _ (next c.loop-k.invariant).within)

pub write_part-first-requires : goal.write_part-first-requires
write_part-first-requires c = first_part c.loop-k.invariant c.loop-k-test.false

pub overflow_add-result : goal.overflow_add-result
overflow_add-result c =
    let v = c.loop-k.invariant.valid in
    omega (arith, (returns c).four, (accepted_passes _ v.counts v.accepted).short)

pub shape_of-out : goal.shape_of-out
shape_of-out c = omega (arith, ap length (returns c).output, laid_length c.loop-k.invariant)
