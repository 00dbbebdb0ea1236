-- What the transcriber promises the layers above it (paper 01, 'Joints': the joiner knows the
-- transcriber by its promise only). The joiner and the phrase book write tapes by this promise.
-- Assumes nothing: these are definitions.
use Rattle.std.specs.Prelude.{ℕ, ◌-◌, ◌≤◌, ◌≡◌, List, ◌++◌, length, take, drop, Ok}
use Rattle.spec.specs.{Tape.sounds, Tape.tape, Refusals.check_of, LevelSteps.level_steps}
use Rattle.spec.specs.declared.Edition.{Edition}
use Rattle.spec.specs.{declared.Counts.Counts}

-- m is accepted, and its tape, which has a code for each sound and mark, has room right before
-- place `end` of the output
pub record TapeDue (m out : List ℕ) (end : ℕ) : Type 0 where
  pub counts : Counts
  pub accepted : check_of m ≡ Ok counts
  pub room : length (sounds m) ≤ end
  pub place : end ≤ length out

-- its tape in edition e was put right before that place, and nothing else was changed; and its
-- levels took so many steps
pub record TapePromise (e : Edition) (m out out' : List ℕ) (end steps : ℕ) : Type 0 where
  pub output : out' ≡ take (end - length (tape e m)) out ++ (tape e m ++ drop end out)
  pub counted : steps ≡ level_steps m
