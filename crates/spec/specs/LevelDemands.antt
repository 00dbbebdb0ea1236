-- What holds of a level that is to be spoken (paper 02, request 5). `level_demands` of crate laws
-- proves it.
-- Assumes nothing: these are definitions.
use Rattle.std.specs.Prelude.{ℕ, ◌<◌, ◌≤◌, ◌≡◌, ◌↔◌, List, length, take, ℤ, nat_abs}
use Rattle.spec.specs.Numbers.{short_output, level_outside, level_max}
use Rattle.spec.specs.Tape.{tape}
use Rattle.spec.specs.Refusals.{NoneFits}
use Rattle.spec.specs.Answers.{number_of, length_of, TranscribePromise}
use Rattle.spec.specs.SpokenLevels.{level_words, Each, marks_in, spoken, InRange, LevelPromise}
use Rattle.spec.specs.declared.Edition.{Edition}
use Rattle.spec.specs.Results.{Answer}
use Rattle.spec.specs.Demands.{CarriedOut, Settled, Exactly}

-- The numbers for a level: 14, outside the range, and then 11.
pub data LevelDue (level : ℤ) (room : ℕ) : ℕ → ℕ → Type 0 where
  outside : level_max < nat_abs level → LevelDue level room level_outside 0
  no_room_for : InRange level → room < length (spoken level)
      → LevelDue level room short_output (length (spoken level))

-- What holds for any signed number that is to be spoken as a level.
pub record LevelDemands (level : ℤ) : Type 0 where
  -- it is spoken, or refused with every byte left
  pub settled : (out out' : List ℕ) (r : Answer) → LevelPromise level out out' r
      → Settled (LevelDue level (length out)) (spoken level) 0 out out' r
  -- lent an output long enough, exactly the levels of the range are spoken
  pub exact : (out out' : List ℕ) (r : Answer) → LevelPromise level out out' r
      → Exactly (InRange level) (LevelDue level (length out)) (spoken level) 0 out out' r
  -- what was written are its words, the message that is handed on
  pub handed : (out out' : List ℕ) (r : Answer) → LevelPromise level out out' r → number_of r ≡ 0
      → take (length_of r) out' ≡ spoken level
  -- 54 bytes are always enough
  pub size : InRange level → length (spoken level) ≤ 54
  -- two levels have equal words exactly when they are equal
  pub equal : (other : ℤ) → InRange level → InRange other
      → (spoken level ≡ spoken other) ↔ (level ≡ other)
  -- each word has one stress mark
  pub marks : Each (λ w. marks_in w ≡ 1) (level_words level)
  -- the words are an accepted message
  pub message : InRange level → NoneFits (spoken level)
  -- so the transcriber, lent an output long enough, gives its tape, in either edition
  pub transcriber : InRange level → (e : Edition) (out out' : List ℕ) (r : Answer)
      → TranscribePromise e (spoken level) out out' r
      → length (tape e (spoken level)) ≤ length out
      → CarriedOut (tape e (spoken level)) 0 out out' r
