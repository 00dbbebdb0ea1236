-- The code's test is the definition's list, tested from its start.
use Rattle.laws.proofs.Kit.{or_assoc, or-false}
use Rattle.spec.proofs.Computed.{everything}
use Rattle.editor.proofs.is_pause.Goals as goal

pub returns : goal.returns
unfolding everything
returns c = simp (or_assoc, or-false)
