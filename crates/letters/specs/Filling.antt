-- A walk over a message from its end, which writes a text from its end into the lent output: what
-- is known where it steps.
-- Assumes nothing: these are definitions.
use Rattle.std.specs.Prelude.{ℕ, suc, ◌<◌, ◌≤◌, List, length}
use Rattle.laws.specs.Putting.{Put}
use Rattle.letters.specs.Places.{Steady}

-- A walk may step to place i: `Right` says what is known at the place after it, and there is room
-- for what its byte puts
pub record MayStep (Right : ℕ → Type 0) (piece m out : List ℕ) (i at : ℕ) : Type 0 where
  pub within : i < length m
  pub steady : Steady m
  pub stands : Right (suc i)
  pub room : length piece ≤ at
  pub place : at ≤ length out

-- and it did: that is known at the place, and the piece is in the output
pub record DidStep (Right : ℕ → Type 0) (piece out out' : List ℕ) (i at at' : ℕ) : Type 0 where
  pub stands : Right i
  pub put : Put piece out out' at at'
