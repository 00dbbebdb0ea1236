-- What the walk from the right knows at a place, and what the lent output then holds.
-- Assumes nothing: these are definitions.
use Rattle.std.specs.Prelude.{ℕ, ◌<◌, ◌≤◌, ◌≡◌, Bool, true, cond, List, [], ◌∷◌, map, length}
use Rattle.std.specs.Prelude.{get_or}
use Rattle.spec.specs.Letters.{first_byte, is_break, is_mark}
use Rattle.spec.specs.Codes.{mark_of}
use Rattle.spec.specs.Phones.{softens}
use Rattle.spec.specs.{Editions.code_in, Tape.sounds, declared.Edition.Edition}
use Rattle.letters.specs.Places.{Steady, word_at}
use Rattle.letters.specs.Filling.{MayStep, DidStep}
use Rattle.letters.specs.Classes.{class_of, is_break_class}
use Rattle.transcriber.specs.Places.{following_at, codes_at}
use Rattle.stress.specs.Levels.{step_over, turn_of, LevelsAt}
use Rattle.consonants.specs.Sounds.{Tells}
use Rattle.stress.specs.declared.LevelRun.{LevelRun}
use Rattle.transcriber.specs.declared.Right.{Right}

-- a byte of class c stands at place i
pub record ClassAt (m : List ℕ) (i c : ℕ) : Type 0 where
  pub within : i < length m
  pub bytes : (j : ℕ) → get_or m j 0 < 256
  pub class : c ≡ class_of (get_or m i 0)

-- r says what stands right of place i
pub record Stands (m : List ℕ) (i : ℕ) (r : Right) : Type 0 where
  pub sound : Tells r.sound (softens (first_byte (word_at m i))) (following_at m i)
  pub levels : LevelsAt m i r.levels

-- the same where a turn of the walk begins
abbrev pub begun_of : Right → Right
begun_of r = record { at = r.at; sound = r.sound; levels = turn_of r.levels }

-- the sounds or the mark that the byte at place i puts on the tape
unfoldable pub piece_at : List ℕ → ℕ → List ℕ
piece_at m i = cond (is_break (get_or m i 0)) (mark_of (get_or m i 0) ∷ []) (cond (is_mark (get_or m i 0)) [] (codes_at m i))

-- the walk that writes the tape
abbrev pub Ready : List ℕ → List ℕ → ℕ → Right → Type 0
Ready m out i r = MayStep (λ j. Stands m j r) (piece_at m i) m out i r.at

-- the sounds and marks that it puts are put as codes of edition e
abbrev pub Stepped : Edition → List ℕ → List ℕ → List ℕ → ℕ → Right → Right → Type 0
Stepped e m out out' i r q =
    DidStep (λ j. Stands m j q) (map (code_in e) (piece_at m i)) out out' i r.at q.at

-- so they are whatever the edition is
abbrev pub SteppedAlike : List ℕ → List ℕ → List ℕ → ℕ → Right → Right → Type 0
SteppedAlike m out out' i r q = (e : Edition) → Stepped e m out out' i r q

-- so that its byte is of class c, which passes a test
pub record ReadyFor (test : ℕ → Bool) (m out : List ℕ) (i c : ℕ) (r : Right) : Type 0 where
  pub ready : Ready m out i r
  pub class : c ≡ class_of (get_or m i 0)
  pub kind : test c ≡ true

-- its byte is a break, over which the run of the levels has gone
pub record BreakReady (m out : List ℕ) (i c : ℕ) (r : Right) (l : LevelRun) : Type 0 where
  pub ready : ReadyFor is_break_class m out i c r
  pub passed : l ≡ step_over r.levels (get_or m i 0)

-- the tape of m may be written right before place `end` of the output
pub record MayWrite (m out : List ℕ) (end : ℕ) : Type 0 where
  pub steady : Steady m
  pub room : length (sounds m) ≤ end
  pub place : end ≤ length out
