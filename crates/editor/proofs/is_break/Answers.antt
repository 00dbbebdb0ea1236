-- The two lists hold all bytes that stand for a break.
use Rattle.laws.proofs.Kit.{sym}
use Rattle.editor.proofs.Punctuation.{break_told}
use Rattle.editor.proofs.is_break.Goals as goal

pub returns : goal.returns
returns c = rw (c.is_pause.ensures, c.is_gap.ensures) (sym (break_told _))
