-- No record is shorter than its head or without its mark, and else its end tells.
use Rattle.laws.proofs.Kit.{◌∙◌, sym, arith, drop, length-drop, false≢true, leb-true}
use Rattle.records.proofs.Walks.{no_record_lem, record_by_end}
use Rattle.records.proofs.is_record.Goals as goal
use Rattle.records.proofs.is_record.Goals.{then-i-x, else-i-x}

pub returns-then-is_marked : goal.returns-then-is_marked
returns-then-is_marked c = elim c.if-i-x.branch [
  | then-i-x w ↦ rw c.record_end.ensures (record_by_end _ _ (sym w.is_marked.ensures ∙ sym w.value-is ∙ c.if-is_marked.true) w.if-i-x.true)
  | else-i-x w ↦ absurd (omega (arith, w.if-i-x, leb-true _ _ (sym w.value-is ∙ c.if-is_marked.true)))
]

pub returns-else-is_marked : goal.returns-else-is_marked
returns-else-is_marked c = c.if-is_marked.false ∙ sym (no_record_lem (drop c.args.i c.args.x.now) (λ r. elim c.if-i-x.branch [
  | then-i-x w ↦ false≢true (sym c.if-is_marked.false ∙ w.value-is ∙ w.is_marked.ensures ∙ r.mark)
  | else-i-x w ↦ omega (arith, r.head, w.if-i-x, length-drop c.args.i c.args.x.now)
]))
