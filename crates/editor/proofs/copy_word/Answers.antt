use Rattle.laws.proofs.Kit.{◌+◌, ◌<◌, sym, ap, ◌∙◌, not, arith, length}
use Rattle.editor.specs.Walk.{others}
use Rattle.editor.proofs.Walking.{Counting, counting_within, counting_more, counting_stop, copying_more}
use Rattle.editor.proofs.copy_word.Goals as goal
use Rattle.editor.proofs.copy_word.Goals.{In-loop-out}

-- the byte at the loop's place is one more of the word
more : (c : In-loop-out) → Counting others c.args.text.now (c.loop-out.k + 1)
more c =
    let w = c.loop-out.invariant.counted in
    counting_more others _ _ w (counting_within others _ _ w c.requires.0) (ap not (sym c.is_break.ensures ∙ c.loop-out-test.true))

-- for which there is room
room : (c : In-loop-out) → c.loop-out.k < length c.args.out.now
room c = omega (arith, more c, c.requires.1)

pub bounds-out-k : goal.bounds-out-k
bounds-out-k c = omega (arith, room (goal.at.bounds-out-k c).In-loop-out)

pub loop-out-preserved : goal.loop-out-preserved
loop-out-preserved c =
    let w = (goal.at.loop-out-preserved c).In-loop-out in
    let v = c.loop-out.invariant in
    record { counted = more w; copied = copying_more v.copied (counting_within others _ _ v.counted c.requires.0) (room w) }

pub returns-clause-value : goal.returns-clause-value
returns-clause-value c =
    let w = c.loop-out.invariant.counted in
    counting_stop others _ _ w (counting_within others _ _ w c.requires.0) (ap not (sym c.is_break.ensures ∙ c.loop-out-test.false))
