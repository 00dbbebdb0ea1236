-- The newline is put after the answer, for which there is a byte more than an answer takes; what is no number has none.
use Rattle.std.proofs.Common.{sym, ◌∙◌, refl, rules}
use mir.Syntax.{w32}
use mir.Val.{SFits}
use mir.ValLaws.{to_z-of_z}
use Rattle.console.proofs.Texts.{put_over}
use Rattle.gauge.proofs.Texts.{printed_typed, printed_nothing}
use Rattle.gauge.proofs.level.print_level.Goals as goal

pub returns-in_default-clause-text_after : goal.returns-in_default-clause-text_after
returns-in_default-clause-text_after c = sym (printed_nothing _ c.in_default.ensures.number.1)

pub returns-clause-text_after : goal.returns-clause-text_after
returns-clause-text_after c =
    let fits : SFits w32 c.in-Some.level = search rules in
    let put = rw (to_z-of_z w32 c.in-Some.level fits) at c.put_level-end.ensures.appended in
    (put_over put c.put_bytes.ensures).bytes
    ∙ printed_typed c.args.t.now c.in-Some.level (c.in-Some.ensures.number.0 refl) c.in-Some.ensures.value
