use Rattle.std.proofs.Common.{rules}
use Rattle.joiner.specs.Writing.{outside}
use Rattle.joiner.proofs.Looking.{last_found}
use Rattle.joiner.proofs.join.last_outside.Goals as goal

pub returns : goal.returns
returns c = last_found (outside c.args.low c.args.high) _ _ c.unwrap.result c.requires.within (search rules) (search rules) (search rules)
