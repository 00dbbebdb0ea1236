-- What is written for the bytes that were kept is what is printed for the whole text.
use Rattle.std.proofs.Common.{arith, rules}
use Rattle.spec.specs.Printed.{printed_text}
use Rattle.console.proofs.{Inputs.answer_for, Kept.text_kept}
use Rattle.speak.proofs.print_input.Goals as goal

pub returns-clause-text : goal.returns-clause-text
returns-clause-text g c =
    answer_for _ _ 65537 printed_text 65536 text_kept (omega arith) (λ p lent left n r. search rules) _ _ _ c.print_input.ensures.text

pub returns-clause-some : goal.returns-clause-some
returns-clause-some g c =
    answer_for _ _ 65537 printed_text 65536 text_kept (omega arith) (λ p lent left n r. search rules) _ _ _ c.print_input.ensures.some
