use Rattle.laws.proofs.Kit.{◌<◌, sym, ap, ◌∙◌, not, length}
use Rattle.editor.specs.Walk.{others}
use Rattle.editor.proofs.Walking.{counting_within, counting_more, counting_stop}
use Rattle.editor.proofs.count_word.Goals as goal
use Rattle.editor.proofs.count_word.Goals.{At-loop-k}

-- there is a byte to read
within : (c : At-loop-k) → c.loop-k.k < length c.args.text.now
within c = counting_within others _ _ c.loop-k.invariant c.requires

pub bounds-text-k : goal.bounds-text-k
bounds-text-k c = within (goal.at.bounds-text-k c).At-loop-k

pub loop-k-preserved : goal.loop-k-preserved
loop-k-preserved c =
    counting_more others _ _ c.loop-k.invariant (within (goal.at.loop-k-preserved c).At-loop-k)
    (ap not (sym c.is_break.ensures ∙ c.loop-k-test.true))

pub returns : goal.returns
returns c =
    counting_stop others _ _ c.loop-k.invariant (within (goal.at.returns c).At-loop-k)
    (ap not (sym c.is_break.ensures ∙ c.loop-k-test.false))
