-- The newline is put after the answer, for which the text has a byte more than an answer takes.
use Rattle.spec.specs.{Tables.ascii, Printed.printed}
use Rattle.console.proofs.Texts.{put_over}
use Rattle.console.proofs.text.print_message.Goals as goal

pub returns-clause-text_after : goal.returns-clause-text_after
unfolding printed ascii
returns-clause-text_after c = (put_over c.put_answer-end.ensures.appended c.put_bytes.ensures).bytes
