-- No other byte is elided, and of т and д the test tells.
use Rattle.laws.proofs.Kit.{◌<◌, sym, ◌∙◌, arith, get_or, eqb-false}
use Rattle.letters.proofs.{Bytes.by_class, Silent.class_spoken}
use Rattle.message.proofs.check.silent_at.Goals as goal
use Rattle.message.proofs.check.silent_at.Goals.{else-is_t_or_d-via-then-is_t_or_d+else-is_elided, else-is_t_or_d-via-else-is_t_or_d}

pub returns : goal.returns
returns c = elim c.else-is_t_or_d.branch [
  | else-is_t_or_d-via-then-is_t_or_d+else-is_elided w ↦ (rw (← w.is_elided.ensures, w.if-is_elided.false), omega arith)
  | else-is_t_or_d-via-else-is_t_or_d w ↦
      let h : get_or c.args.m.now c.args.i 0 < 256 = omega (arith, c.type_inv.m c.args.i) in
      let n = eqb-false _ _ (sym (by_class _ h).t_or_d ∙ sym c.is_t_or_d.ensures ∙ w.if-is_t_or_d.false) in
      (rw (class_spoken c.args.m.now c.args.i h n), omega arith)
]
