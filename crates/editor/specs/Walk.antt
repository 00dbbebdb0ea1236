-- How the editor's code goes: a word and the breaks behind it at a time, between the breaks at the
-- text's ends.
-- Assumes nothing: these are definitions.
use Rattle.std.specs.Prelude.{ℕ, ◌+◌, ◌-◌, ◌<◌, ◌≤◌, ◌≡◌, Bool, false, cond, not, List, [], ◌∷◌}
use Rattle.std.specs.Prelude.{◌++◌, length, take, drop, get_or}
use Rattle.spec.specs.Alphabet.{gap}
use Rattle.spec.specs.Editing.{replaced, one_break}
use Rattle.laws.specs.Edited.{breaks, leading}
use Rattle.editor.specs.declared.Run.{Run}
use Rattle.editor.specs.declared.Stride.{Stride}

-- is the byte no break?
abbrev pub others : ℕ → Bool
others b = not (breaks b)

-- from place i on all bytes pass a test
pub record Trailing (test : ℕ → Bool) (t : List ℕ) (i : ℕ) : Type 0 where
  pub within : i ≤ length t
  pub all : leading test (drop i t) ≡ length (drop i t)

-- and the byte before it does not
pub record Last (test : ℕ → Bool) (t : List ℕ) (i : ℕ) : Type 0 where
  pub trailing : Trailing test t i
  pub before : 0 < i → test (get_or t (i - 1) 0) ≡ false

-- the text ends in a byte that is no break, or is empty
abbrev pub EndsInWord : List ℕ → Type 0
EndsInWord t = 0 < length t → breaks (get_or t (length t - 1) 0) ≡ false

-- the text's last word begins at place i
pub record LastWord (t : List ℕ) (i : ℕ) : Type 0 where
  pub last : Last others t i
  pub word : EndsInWord t

-- what the breaks that a text begins with become, behind one that waits
unfoldable pub run_from : ℕ → List ℕ → ℕ
run_from wait [] = wait
run_from wait (b ∷ t) = cond (breaks b) (run_from (one_break wait (replaced b)) t) wait

-- the run that a text begins with
pub record ReadsRun (t : List ℕ) (r : Run) : Type 0 where
  pub length : r.length ≡ leading breaks t
  pub becomes : r.becomes ≡ run_from gap t

-- how much is read with a word and the breaks behind it
abbrev pub reads : List ℕ → ℕ
reads t = leading others t + leading breaks (drop (leading others t) t)

-- and what is put: the word, and the break that they become
unfoldable pub piece : List ℕ → List ℕ
piece t = take (leading others t) t ++ (run_from gap (drop (leading others t) t) ∷ [])

-- a stride over both
pub record Goes (t : List ℕ) (r : Stride) : Type 0 where
  pub read : r.read ≡ reads t
  pub put : r.put ≡ leading others t + 1
