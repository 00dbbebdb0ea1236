-- One octet more is read where it stands for itself; a letter has no room there.
use Rattle.laws.proofs.Kit.{◌+◌, sym, ◌∙◌, arith}
use Rattle.utf8.specs.Walk.{Stands}
use Rattle.utf8.proofs.Walking.{stands_most, reaches, measure_single, measure_alone, measure_end}
use Rattle.utf8.proofs.reader.measure_last.Goals as goal
use Rattle.utf8.proofs.reader.measure_last.Goals.{Then-is_single, else-octets-text-via-else-octets-text}
use Rattle.utf8.proofs.reader.measure_last.Goals.{else-octets-text-via-then-octets-text+else-is_single}

-- the octet stands for itself, so one more is read
more : (c : Then-is_single) → Stands c.args.text.now (c.args.octets + 1) (c.args.bytes + 1)
more c =
    measure_single c.requires.0 c.if-octets-text.true (omega (arith, c.type_inv.text c.args.octets))
    (sym c.is_single.ensures ∙ c.if-is_single.true)

pub overflow_add-result-then-is_single : goal.overflow_add-result-then-is_single
overflow_add-result-then-is_single c = omega (arith, stands_most (more (goal.at.overflow_add-result-then-is_single c).Then-is_single))

pub returns-then-is_single : goal.returns-then-is_single
returns-then-is_single c = reaches (measure_end (more (goal.at.returns-then-is_single c).Then-is_single) c.requires.1)

pub returns : goal.returns
returns c =
    elim c.else-octets-text.branch [
      | else-octets-text-via-then-octets-text+else-is_single w ↦
          reaches (measure_alone c.requires.0 w.if-octets-text.true
          (omega (arith, c.type_inv.text c.args.octets)) (sym w.is_single.ensures ∙ w.if-is_single.false) c.requires.1)
      | else-octets-text-via-else-octets-text w ↦ reaches (measure_end c.requires.0 w.if-octets-text.false)
    ]
