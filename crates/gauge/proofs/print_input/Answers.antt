-- What is written for the bytes that were kept is what is printed for the whole text.
use Rattle.std.proofs.Common.{arith, rules}
use Rattle.spec.specs.Printed.{printed_level}
use Rattle.console.proofs.{Inputs.prints_for, Kept.level_kept}
use Rattle.gauge.proofs.print_input.Goals as goal

pub returns-clause-text : goal.returns-clause-text
returns-clause-text g c =
    prints_for _ _ 4097 printed_level 4096 level_kept (omega arith) (λ p lent left n r. search rules) _ _ c.in_ok-is_number.ensures.text

pub returns-clause-some : goal.returns-clause-some
returns-clause-some g c =
    prints_for _ _ 4097 printed_level 4096 level_kept (omega arith) (λ p lent left n r. search rules) _ _ c.in_ok-is_number.ensures.some
