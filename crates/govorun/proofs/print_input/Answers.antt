-- What is written for the bytes that were kept is what is printed for the whole message.
use Rattle.std.proofs.Common.{arith, rules}
use Rattle.spec.specs.Printed.{printed}
use Rattle.console.proofs.{Inputs.prints_for, Kept.printed_kept}
use Rattle.govorun.proofs.print_input.Goals as goal

pub returns-clause-text : goal.returns-clause-text
returns-clause-text g c =
    prints_for _ _ 4097 printed 4096 printed_kept (omega arith) (λ p lent left n r. search rules) _ _ c.in_ok-print_input.ensures.text
