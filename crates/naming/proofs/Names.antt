-- The names from a place on: what the byte there puts before what comes after it. A place's names are what the walk from the right has
-- written when it stands there.
use Rattle.laws.proofs.Kit.{ℕ, suc, ◌<◌, ◌≡◌, refl, sym, ap, Bool, true, false, cond, ◌&&◌, List, ◌∷◌, ◌++◌, length, get_or, drop}
use Rattle.spec.specs.Letters.{Letter, Message, last, more, put_letter, read, first_word, is_mark, is_break, is_gap, is_vowel}
use Rattle.spec.specs.Syllables.{Facts, facts_of, names_from, incomplete, name_of, syllable_of}
use Rattle.spec.specs.Tape.{names_of, names, word_names}
use Rattle.spec.specs.{Elision.elide, Refusals.vowel_byte, Vowels.hard_end}
use Rattle.letters.specs.Places.{last_at, word_at, letter_of, Steady}
use Rattle.letters.proofs.Left.{read_letter, read_mark, read_break, read_end}
use Rattle.letters.proofs.Bytes.{vowel_break, vowel_mark}
use Rattle.laws.proofs.{Classes.cond_app, Classes.either, Elided.names_elide}
use Rattle.stress.specs.Places.{Left, left_at, last_but_one_at, hard_at, facts_at, syllable_at}
use Rattle.naming.specs.Names.{tail_names_of, names_at}
use Rattle.stress.proofs.Left.{start, after_letter, left_letter, left_mark, left_break}
use Rattle.stress.proofs.Whole.{whole_within, whole_first, whole_after}

-- at the start of a word the names from there on are those of the message
start_names : (hard : Bool) (r : Message) → names_of r ≡ tail_names_of (start hard) (facts_of (first_word r)) r
unfolding names_of word_names elide tail_names_of first_word
start_names hard (last w) = names_elide (facts_of w) 0 w
start_names hard (more w x r) = rw (names_elide (facts_of w) 0 w)

module _ (l : Left) (facts : Facts) (x : Letter) where
  -- a letter that is a vowel puts its syllable's name before the rest's
  pub put_names : (r : Message)
      → tail_names_of l facts (put_letter x r)
      ≡ cond (is_vowel x.byte) (name_of (syllable_of facts l.p x (first_word r)) ∷ tail_names_of (after_letter x l) facts r)
      (tail_names_of (after_letter x l) facts r)
  unfolding tail_names_of names_from put_letter first_word
  put_names (last w) = refl
  put_names (more w y r) = cond_app (λ t. t ++ names_of r) (is_vowel x.byte) _ (names_from facts x.byte w)

module _ (m : List ℕ) (steady : Steady m) where
  -- the names from the first place on are all of them
  pub names_start : names_at m 0 ≡ names m
  unfolding names_at names last_at last_but_one_at hard_at word_at
  names_start = rw (whole_first m) (sym (start_names false (read m)))

  -- at the end only an incomplete syllable is left to name
  pub names_end : names_at m (length m) ≡ incomplete (last_at m (length m))
  unfolding names_at tail_names_of names_from
  names_end = rw (read_end m)

  -- a letter that is a vowel names its syllable, another none
  pub names_letter : (i : ℕ) → i < length m → is_break (get_or m i 0) ≡ false → is_mark (get_or m i 0) ≡ false
      → names_at m i ≡ cond (vowel_byte (get_or m i 0)) (name_of (syllable_at m i) ∷ names_at m (suc i)) (names_at m (suc i))
  unfolding names_at vowel_byte letter_of word_at
  names_letter i h b k =
      rw (← whole_within m steady i h b, left_letter m i h b k, read_letter m i h b k)
      (put_names (left_at m i) (facts_at m i) (letter_of m i) (read (drop (suc i) m)))

  -- so a vowel puts a name before the rest's
  pub names_vowel : (i : ℕ) → i < length m → vowel_byte (get_or m i 0) ≡ true
      → names_at m i ≡ name_of (syllable_at m i) ∷ names_at m (suc i)
  names_vowel i h v = rw v at (names_letter i h (vowel_break _ (steady.bytes i) v) (vowel_mark _ (steady.bytes i) v))

  -- a byte that is neither a vowel nor a break names nothing
  pub names_other : (i : ℕ) → i < length m → is_break (get_or m i 0) ≡ false → vowel_byte (get_or m i 0) ≡ false
      → names_at m i ≡ names_at m (suc i)
  unfolding names_at
  names_other i h b v =
      either (is_mark (get_or m i 0)) (λ k. rw (← whole_within m steady i h b, left_mark m i h k, read_mark m i h k))
      (λ k. rw v at (names_letter i h b k))

  -- at a break an incomplete syllable is named
  pub names_break : (i : ℕ) → i < length m → is_break (get_or m i 0) ≡ true → names_at m i ≡ incomplete (last_at m i) ++ names_at m (suc i)
  unfolding names_at tail_names_of names_from word_at
  names_break i h b =
      rw (read_break m i h b, left_break m i h b, whole_after m i b)
      (ap (λ (t : List ℕ). incomplete (last_at m i) ++ t)
      (start_names (is_gap (get_or m i 0) && hard_end (last_but_one_at m i) (last_at m i)) (read (drop (suc i) m))))
