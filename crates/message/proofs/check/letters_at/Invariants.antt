-- Going back, each byte that is no mark is a letter, until a break or the letters counted before; these and what stands before come to the same.
use Rattle.laws.proofs.Kit.{ℕ, ◌+◌, ◌≤◌, ◌≡◌, List}
use Rattle.message.specs.Steps.{letters_at}
use Rattle.message.proofs.check.letters_at.Given as goal

-- from place i back to place j so many bytes are marks, and the others letters
pub record Back (m : List ℕ) (from i j marks : ℕ) : Type 0 where
  pub above : from ≤ j
  pub fewer : marks + j ≤ i
  pub same : i + letters_at m j ≡ letters_at m i + (marks + j)

abbrev pub invariant-loop-j : goal.invariant-loop-j
invariant-loop-j l = Back l.m l.seen.from l.seen.at l.j l.marks
