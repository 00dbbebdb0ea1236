-- What the bytes before a place of a message say: the left context of the place, the marks of its
-- word, and the syllable of a vowel there. These are not the paper's words: `proofs/` shows that
-- they agree with them.
-- Assumes nothing: these are definitions.
use Rattle.std.specs.Prelude.{ℕ, zero, suc, Bool, false, cond, ◌&&◌, ◌||◌, not, List, [], ◌∷◌, ◌++◌}
use Rattle.std.specs.Prelude.{get_or, drop}
use Rattle.spec.specs.Letters.{Letter, is_mark, is_break, is_gap}
use Rattle.spec.specs.Syllables.{Facts, facts_of, syllable_of}
use Rattle.spec.specs.Vowels.{hard_end}
use Rattle.letters.specs.Places.{last_at, word_at, letter_of}
use Rattle.spec.specs.declared.Syllable.{Syllable}

-- the letter before the last one of the word before place i; 0 for none
unfoldable pub last_but_one_at : List ℕ → ℕ → ℕ
last_but_one_at m zero = 0
last_but_one_at m (suc i) =
    let b = get_or m i 0 in
    cond (is_break b) 0 (cond (is_mark b) (last_but_one_at m i) (last_at m i))

-- does a hard boundary stand right before place i?
unfoldable pub hard_at : List ℕ → ℕ → Bool
hard_at m zero = false
hard_at m (suc i) =
    let b = get_or m i 0 in
    cond (is_break b) (is_gap b && hard_end (last_but_one_at m i) (last_at m i))
    (cond (is_mark b) (hard_at m i) false)

-- what the bytes before a place say: the last letter of the word, the one before it, and whether a
-- hard boundary stands right before the place
pub record Left : Type 0 where
  pub p : ℕ
  pub q : ℕ
  pub hard : Bool

abbrev pub left_at : List ℕ → ℕ → Left
left_at m i = record { p = last_at m i; q = last_but_one_at m i; hard = hard_at m i }

-- is there a mark among the bytes of this word before place i, or from there on?
unfoldable pub mark_before : List ℕ → ℕ → Bool
mark_before m zero = false
mark_before m (suc i) = not (is_break (get_or m i 0)) && (is_mark (get_or m i 0) || mark_before m i)

unfoldable pub mark_from : List ℕ → Bool
mark_from [] = false
mark_from (b ∷ m) = not (is_break b) && (is_mark b || mark_from m)

-- has the word at place i a mark?
unfoldable pub marked_at : List ℕ → ℕ → Bool
marked_at m i = mark_before m i || mark_from (drop i m)

-- the letters of the word before place i
unfoldable pub letters_at : List ℕ → ℕ → List Letter
letters_at m zero = []
letters_at m (suc i) =
    let b = get_or m i 0 in
    cond (is_break b) [] (cond (is_mark b) (letters_at m i) (letters_at m i ++ (letter_of m i ∷ [])))

-- the whole word at place i, and its facts
unfoldable pub whole_at : List ℕ → ℕ → List Letter
whole_at m i = letters_at m i ++ word_at m i

abbrev pub facts_at : List ℕ → ℕ → Facts
facts_at m i = facts_of (whole_at m i)

-- the syllable of the vowel at place i
abbrev pub syllable_at : List ℕ → ℕ → Syllable
syllable_at m i = syllable_of (facts_at m i) (last_at m i) (letter_of m i) (word_at m (suc i))
