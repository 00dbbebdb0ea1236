-- Two bytes give a number below 65,536.
use Rattle.laws.proofs.Kit.{add-one, refl, ◌∙◌}
use Rattle.spec.specs.Book.{pair_at}
use Rattle.records.proofs.pair_at.Goals as goal

pub returns : goal.returns
unfolding pair_at
returns c = (c.from_le_bytes.ensures ∙ rw (add-one c.args.i) refl, c.from_le_bytes.type_inv)
