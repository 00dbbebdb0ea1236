use Rattle.laws.proofs.Kit.{arith}
use Rattle.laws.proofs.Edited.{walk_length}
use Rattle.editor.proofs.Walking.{stands_most, stands_reads, stands_further, stands_more, stands_end}
use Rattle.editor.proofs.measure.Goals as goal

pub pass_word-stride-requires : goal.pass_word-stride-requires
pass_word-stride-requires c = stands_reads c.loop-i.invariant.1 c.requires c.loop-i-test.true

pub overflow_add-i : goal.overflow_add-i
overflow_add-i c =
    omega (arith, (stands_more c.loop-i.invariant.1 c.requires c.loop-i-test.true c.pass_word-stride.ensures).within)

pub overflow_add-at : goal.overflow_add-at
overflow_add-at c =
    let s = stands_more c.loop-i.invariant.1 c.requires c.loop-i-test.true c.pass_word-stride.ensures in
    omega (arith, stands_most s, walk_length 0 c.args.text.now)

pub loop-i-smaller : goal.loop-i-smaller
loop-i-smaller c = stands_further c.loop-i.invariant.1 c.requires c.loop-i-test.true c.pass_word-stride.ensures

pub loop-i-preserved : goal.loop-i-preserved
loop-i-preserved c = (_, stands_more c.loop-i.invariant.1 c.requires c.loop-i-test.true c.pass_word-stride.ensures)

pub overflow_add-result : goal.overflow_add-result
overflow_add-result c =
    omega (arith, stands_end c.loop-i.invariant.1 c.requires c.loop-i-test.false, walk_length 0 c.args.text.now)

pub returns : goal.returns
returns c = stands_end c.loop-i.invariant.1 c.requires c.loop-i-test.false
