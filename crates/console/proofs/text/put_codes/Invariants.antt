-- The codes put so far stand in the text, and each turn puts one more.
use Rattle.laws.proofs.Kit.{◌≤◌, length}
use Rattle.console.specs.Putting.{Appended}
use Rattle.console.proofs.Texts.{printed_to}
use Rattle.console.proofs.text.put_codes.Given as goal

abbrev pub invariant-loop-i : goal.invariant-loop-i
invariant-loop-i l = (l.i ≤ length l.codes) × Appended (printed_to l.codes l.i) l.fn.text l.text 0 l.at
