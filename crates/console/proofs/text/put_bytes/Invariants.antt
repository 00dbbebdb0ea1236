-- The bytes put so far are those before the loop's place; each turn puts the byte there.
use Rattle.laws.proofs.Kit.{◌≤◌, length, take}
use Rattle.console.specs.Putting.{Appended}
use Rattle.console.proofs.text.put_bytes.Given as goal

abbrev pub invariant-loop-byte : goal.invariant-loop-byte
invariant-loop-byte l = (l.byte-index ≤ length l.bytes) × Appended (take l.byte-index l.bytes) l.fn.text l.text l.at l.end
