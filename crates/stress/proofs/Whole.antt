-- The whole word at a place: it does not change within the word, and at its start it is the letters from there on. So the facts of the
-- word are the same at each of its places.
use Rattle.laws.proofs.Kit.{ℕ, suc, ◌<◌, ◌≡◌, refl, true, false, List, [], ◌∷◌, append_assoc, length, get_or}
use Rattle.spec.specs.Letters.{is_mark, is_break}
use Rattle.letters.specs.Places.{word_at, letter_of, Steady}
use Rattle.letters.proofs.Left.{mark_within, word_letter, word_mark}
use Rattle.laws.proofs.Classes.{either}
use Rattle.stress.specs.Places.{letters_at, whole_at}

-- at the start of the message it is the first word
pub whole_first : (m : List ℕ) → whole_at m 0 ≡ word_at m 0
unfolding whole_at letters_at
whole_first m = refl

-- after a break it is the word that begins there
pub whole_after : (m : List ℕ) (i : ℕ) → is_break (get_or m i 0) ≡ true → whole_at m (suc i) ≡ word_at m (suc i)
unfolding whole_at letters_at
whole_after m i b = rw b

module _ (m : List ℕ) (steady : Steady m) (i : ℕ) (h : i < length m) where
  -- a letter is the first of those from its place on, and the last of those before the next place
  whole_letter : is_break (get_or m i 0) ≡ false → is_mark (get_or m i 0) ≡ false → whole_at m i ≡ whole_at m (suc i)
  unfolding whole_at letters_at
  whole_letter b k = rw (b, k, word_letter m steady i h b k, append_assoc (letters_at m i) (letter_of m i ∷ []) (word_at m (suc i)))

  -- a mark is no letter
  whole_mark : is_mark (get_or m i 0) ≡ true → whole_at m i ≡ whole_at m (suc i)
  unfolding whole_at letters_at
  whole_mark k = rw (mark_within (get_or m i 0) k, k, word_mark m steady i h k)

  -- so within a word it does not change
  pub whole_within : is_break (get_or m i 0) ≡ false → whole_at m i ≡ whole_at m (suc i)
  whole_within b = either (is_mark (get_or m i 0)) whole_mark (whole_letter b)
