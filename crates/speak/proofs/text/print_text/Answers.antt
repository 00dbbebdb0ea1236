-- The newline is put after the answer, for which there is a byte more than an answer takes. For a text that is too long nothing is put.
use Rattle.laws.proofs.Kit.{arith}
use Rattle.console.proofs.Texts.{put_over}
use Rattle.speak.proofs.Texts.{text_short}
use Rattle.speak.proofs.text.print_text.Goals as goal

pub returns-clause-print_after : goal.returns-clause-print_after
returns-clause-print_after c = rw (text_short c.args.t.now (omega arith))
    (put_over c.put_read-end.ensures.appended c.put_bytes.ensures).bytes
