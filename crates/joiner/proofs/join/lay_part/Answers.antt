-- The cut's mark is found, the cut judged, and the part after it written where a cut changes it, so the second tape stands from that mark on.
use Rattle.laws.proofs.Kit.{arith}
use Rattle.spec.specs.Joints.{least_at}
use Rattle.joiner.proofs.Laying.{next, cut_reach, cut_beside, cut_part, cut_laid, laid_few, laid_most}
use Rattle.joiner.proofs.join.lay_part.Goals as goal

-- where the function begins

pub returns : goal.returns
returns c = cut_laid c.requires c.mark_of-at.ensures c.changes_at-before.ensures c.write_part-taken.ensures

pub mark_of-at-requires : goal.mark_of-at-requires
unfolding least_at
mark_of-at-requires c = cut_reach c.requires

pub changes_at-before-requires : goal.changes_at-before-requires
unfolding least_at
changes_at-before-requires c = cut_beside c.requires c.mark_of-at.ensures

pub overflow_add-c : goal.overflow_add-c
unfolding least_at
overflow_add-c c = let n = next c.requires in omega arith

pub slice_bounds-write_part-count : goal.slice_bounds-write_part-count
unfolding least_at
slice_bounds-write_part-count c = let n = next c.requires in omega arith

pub slice_bounds-write_part-start : goal.slice_bounds-write_part-start
unfolding least_at
slice_bounds-write_part-start c = let n = next c.requires in omega arith

pub slice_bounds-write_part-end : goal.slice_bounds-write_part-end
unfolding least_at
slice_bounds-write_part-end c = let n = next c.requires in omega arith

pub write_part-taken-requires : goal.write_part-taken-requires
unfolding least_at
write_part-taken-requires c = cut_part c.requires c.mark_of-at.ensures c.changes_at-before.ensures

pub overflow_add-steps : goal.overflow_add-steps
unfolding least_at
overflow_add-steps c =
    let n = c.mark_of-at.ensures in
    omega (arith, laid_most (cut_laid c.requires n c.changes_at-before.ensures c.write_part-taken.ensures))

pub overflow_add-live : goal.overflow_add-live
unfolding least_at
overflow_add-live c = omega (arith, laid_few (returns c))
