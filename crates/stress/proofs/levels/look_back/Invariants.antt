-- The bytes passed so far are letters, so what stands before them tells of the word's marks, and each was one step; a mark or a break, or
-- the message's start, then tells all.
use Rattle.laws.proofs.Kit.{ℕ, ◌+◌, ◌≤◌, ◌≡◌, false, List}
use Rattle.spec.specs.{LevelSteps.back_at}
use Rattle.stress.specs.{declared.LevelRun.LevelRun, Places.mark_before}
use Rattle.stress.proofs.levels.look_back.Given as goal

-- the run has come to place j
pub record Ahead (m : List ℕ) (i : ℕ) (s : LevelRun) (j : ℕ) (ahead : LevelRun) : Type 0 where
  pub within : j ≤ i
  pub marked : ahead.marked ≡ false
  pub tells : mark_before m j ≡ mark_before m i
  pub steps : ahead.steps + back_at m j ≡ s.steps + back_at m i
  pub before : ahead.before ≡ s.before
  pub since : ahead.since + j ≤ i + 2

abbrev pub invariant-loop-j : goal.invariant-loop-j
invariant-loop-j l = Ahead l.m l.i l.initial.ahead l.j l.ahead
