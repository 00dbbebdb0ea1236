use Rattle.laws.proofs.Kit.{◌<◌, refl, sym, ◌∙◌, length}
use Rattle.spec.specs.Letters.{is_break}
use Rattle.laws.specs.Edited.{breaks}
use Rattle.editor.proofs.Walking.{counting_none, counting_within, running_pause, running_gap, running_stop}
use Rattle.editor.proofs.read_run.Goals as goal
use Rattle.editor.proofs.read_run.Goals.{At-loop-becomes}

-- there is a byte to read
within : (c : At-loop-becomes) → c.loop-becomes.k < length c.args.text.now
within c = counting_within breaks _ _ c.loop-becomes.invariant.counted c.requires

pub loop-becomes-init : goal.loop-becomes-init
unfolding is_break
loop-becomes-init c = record { counted = counting_none breaks _; some = refl; run = refl }

pub loop-becomes-preserved-then-is_pause : goal.loop-becomes-preserved-then-is_pause
unfolding is_break
loop-becomes-preserved-then-is_pause c =
    let h = within (goal.at.loop-becomes-preserved-then-is_pause c).At-loop-becomes in
    running_pause c.loop-becomes.invariant h (sym c.is_pause.ensures ∙ c.if-is_pause.true)

pub loop-becomes-preserved : goal.loop-becomes-preserved
unfolding is_break
loop-becomes-preserved c =
    let h = within (goal.at.loop-becomes-preserved c).At-loop-becomes in
    running_gap c.loop-becomes.invariant h (sym c.is_pause.ensures ∙ c.if-is_pause.false) (sym c.is_gap.ensures ∙ c.if-is_gap.true)

pub returns-else-is_gap : goal.returns-else-is_gap
unfolding is_break
returns-else-is_gap c =
    let h = within (goal.at.returns-else-is_gap c).At-loop-becomes in
    running_stop c.loop-becomes.invariant h (sym c.is_pause.ensures ∙ c.if-is_pause.false) (sym c.is_gap.ensures ∙ c.if-is_gap.false)
