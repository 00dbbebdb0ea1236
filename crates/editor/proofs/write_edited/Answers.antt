use Rattle.laws.proofs.Kit.{arith}
use Rattle.editor.proofs.Walking.{stands_reads, stands_further, stands_more, writing_room}
use Rattle.editor.proofs.Walking.{writing_more, writing_rest, writing_last}
use Rattle.editor.proofs.write_edited.Goals as goal

pub write_word-stride-requires : goal.write_word-stride-requires
write_word-stride-requires c =
    let w = c.loop-i.invariant in
    let l = c.requires.0 in
    (stands_reads w.stands l c.loop-i-test.true, writing_room w l c.loop-i-test.true)

pub overflow_add-i : goal.overflow_add-i
overflow_add-i c =
    omega (arith, (stands_more c.loop-i.invariant.stands c.requires.0 c.loop-i-test.true c.write_word-stride.ensures.0).within)

pub loop-i-smaller : goal.loop-i-smaller
loop-i-smaller c = stands_further c.loop-i.invariant.stands c.requires.0 c.loop-i-test.true c.write_word-stride.ensures.0

pub loop-i-preserved : goal.loop-i-preserved
loop-i-preserved c =
    writing_more c.loop-i.invariant c.requires.0 c.loop-i-test.true c.write_word-stride.ensures.0 c.write_word-stride.ensures.1

pub copy_all-requires : goal.copy_all-requires
copy_all-requires c = writing_rest c.loop-i.invariant c.requires.0 c.loop-i-test.false

pub returns : goal.returns
returns c = writing_last c.loop-i.invariant c.requires.0 c.loop-i-test.false c.copy_all.ensures
