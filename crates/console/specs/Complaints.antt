-- What a program says of a run that gave up.
-- Assumes nothing: this is a definition.
use Rattle.std.specs.Prelude.{ℕ, List, codes}
use Rattle.console.specs.declared.Failure.{Failure}
use Rattle.console.specs.declared.Failure.TheVariants.{Unread, Unwritten}

abbrev pub complaint : Failure → List ℕ
complaint Unread = codes "standard input could not be read"
complaint Unwritten = codes "standard output could not be written"
