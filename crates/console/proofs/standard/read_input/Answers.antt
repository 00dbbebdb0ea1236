use Rattle.std.proofs.Common.{rules}
use Rattle.console.proofs.Inputs.{takes_more}
use Rattle.console.proofs.standard.read_input.Goals as goal

pub loop-n-preserved : goal.loop-n-preserved
loop-n-preserved g c = takes_more _ _ _ _ _ _ _ c.loop-n.invariant.0 (search rules) c.loop-n.invariant.1 (search rules)
