use Rattle.std.proofs.Common.{rules}
use Rattle.editor.specs.Walk.{others}
use Rattle.editor.proofs.Walking.{last_found, last_none}
use Rattle.editor.proofs.last_word.Goals as goal

pub returns-in-Some : goal.returns-in-Some
returns-in-Some c = last_found others _ c.in-Some.i (search rules) (search rules) (search rules)

pub returns-in-None : goal.returns-in-None
returns-in-None c = last_none others _ (search rules)
