-- The levels of a word's vowels, found by a running step from the right. These are not the paper's
-- words: `proofs/` shows that they agree with them.
-- Assumes nothing: these are definitions.
use Rattle.std.specs.Prelude.{ℕ, zero, suc, ◌+◌, ◌*◌, ◌<◌, ◌≤◌, ◌≡◌, Bool, true, false, cond}
use Rattle.std.specs.Prelude.{List, length, drop}
use Rattle.spec.specs.Letters.{begins_with_mark, is_break, is_mark}
use Rattle.spec.specs.Refusals.{vowel_byte}
use Rattle.spec.specs.LevelSteps.{back_at, back_to, level_steps}
use Rattle.spec.specs.Syllables.{next_stressed, level_of}
use Rattle.letters.specs.Classes.{class_of}
use Rattle.letters.specs.Places.{Steady, letter_of, word_at}
use Rattle.spec.specs.declared.Level.{Level}
use Rattle.spec.specs.declared.Level.TheVariants.{Stressed, First, Second}
use Rattle.stress.specs.Places.{facts_at, mark_before, marked_at}
use Rattle.stress.specs.declared.LevelRun.{LevelRun}

-- the level of the vowel at place i, as pass 2 defines it
abbrev pub level_at : List ℕ → ℕ → Level
level_at m i = level_of (facts_at m i) (letter_of m i) (word_at m (suc i))

-- how many syllables from the mark count, in a word that has a mark or not, and the level of that
-- number
abbrev pub counted_by : ℕ → Bool → ℕ
counted_by zero marked = 0
counted_by (suc zero) marked = 1
counted_by (suc (suc n)) marked = cond marked 2 1

abbrev pub numbered : ℕ → Level
numbered zero = Stressed
numbered (suc zero) = First
numbered (suc (suc n)) = Second

-- the count as far as it makes a difference, and what it is where a mark stands right at a place or
-- after the next vowel
abbrev pub nearly : ℕ → ℕ
nearly zero = 0
nearly (suc zero) = 1
nearly (suc (suc n)) = 2

abbrev pub since_by : Bool → Bool → ℕ
since_by stressed ahead = cond stressed 0 (cond ahead 1 2)

-- the run at a word's end, after so many steps, with what is known of the word's marks
abbrev pub end_run : ℕ → ℕ → Bool → LevelRun
end_run before steps marked =
    record { before = before; steps = steps; since = 2; marked = marked; edge = true }

-- one step, over byte b: a vowel is a syllable more, a mark is where to count from, at a break
-- another word ends
abbrev pub over_vowel : LevelRun → LevelRun
over_vowel s =
    record {
      before = s.before;
      steps = s.steps + 1;
      since = s.since + 1;
      marked = s.marked;
      edge = false;
    }

abbrev pub over_mark : LevelRun → LevelRun
over_mark s =
    record { before = s.before; steps = s.steps + 1; since = 0; marked = true; edge = true }

abbrev pub over_break : LevelRun → LevelRun
over_break s = end_run s.before (s.steps + 1) false

abbrev pub over_letter : LevelRun → LevelRun
over_letter s =
    record {
      before = s.before;
      steps = s.steps + 1;
      since = s.since;
      marked = s.marked;
      edge = false;
    }

abbrev pub step_over : LevelRun → ℕ → LevelRun
step_over s b =
    cond (vowel_byte b) (over_vowel s)
    (cond (is_mark b) (over_mark s) (cond (is_break b) (over_break s) (over_letter s)))

-- all steps that were taken, and the run where the next turn of a walk begins
abbrev pub steps_of : LevelRun → ℕ
steps_of s = s.before + s.steps

abbrev pub turn_of : LevelRun → LevelRun
turn_of s =
    record { before = steps_of s; steps = 0; since = s.since; marked = s.marked; edge = s.edge }

-- the step may be taken over byte b: it is one of an accepted message, and the counts have room
pub record StepDue (s : LevelRun) (b : ℕ) : Type 0 where
  pub named : class_of b ≡ 0 → ⊥
  pub steps : s.steps < 65536
  pub since : s.since < 65536

-- the step may be taken ahead from place i, where a word ends
pub record LookDue (m : List ℕ) (i : ℕ) (s : LevelRun) : Type 0 where
  pub steady : Steady m
  pub within : i ≤ length m
  pub steps : s.steps ≤ 2 * length m
  pub since : s.since ≡ 2
  pub marked : s.marked ≡ false

-- it was taken ahead: whether the word has a mark is known, by a step for each byte back to and
-- with its last mark or the break before it
pub record Looked (m : List ℕ) (i : ℕ) (s q : LevelRun) : Type 0 where
  pub since : q.since ≡ 2
  pub marked : q.marked ≡ mark_before m i
  pub steps : q.steps ≡ s.steps + back_at m i
  pub before : q.before ≡ s.before

-- s is the run at place i, where it tells the levels to the left: what is left to step over are the
-- bytes before it, and what the words' ends before it look back over
pub record LevelsAt (m : List ℕ) (i : ℕ) (s : LevelRun) : Type 0 where
  pub since : nearly s.since ≡ since_by (begins_with_mark (drop i m)) (next_stressed (word_at m i))
  pub marked : s.marked ≡ marked_at m i
  pub most : s.since + i ≤ length m + 2
  pub steps : steps_of s + (i + back_to m i) ≡ level_steps m
