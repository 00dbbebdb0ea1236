-- Bytes put into a lent output.
-- Assumes nothing: these are definitions.
use Rattle.std.specs.Prelude.{ℕ, ◌+◌, ◌≡◌, List, ◌++◌, length, take, drop}

-- These bytes were put from place r on, right before place at, and the rest of the output is as it
-- was.
pub record Put (codes out out' : List ℕ) (at r : ℕ) : Type 0 where
  pub place : r + length codes ≡ at
  pub bytes : out' ≡ take r out ++ (codes ++ drop at out)
