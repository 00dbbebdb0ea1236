use Rattle.gauge.proofs.Numbers.{stripped}
use Rattle.gauge.proofs.level.behind_sign.Goals as goal

pub returns : goal.returns
returns c = rw c.unwrap_or.ensures (stripped c.args.t c.strip_prefix.result c.strip_prefix.ensures.cases)
