-- The last letter of the word before a place is carried from the left; a letter, a mark and a break each change it in one way, as they
-- change what is read from the place on. All places of an accepted message are steady: a mark stands right after a vowel.
use Rattle.laws.proofs.Kit.{ℕ, zero, suc, ◌<◌, ◌≡◌, refl, sym, ap, ◌∙◌, ⊎_elim, true, false, true≢false, false≢true, List, [], ◌∷◌}
use Rattle.laws.proofs.Kit.{length, get_or, drop, List·getD-eq-default, drop-cons, drop-length, eqb-true}
use Rattle.spec.specs.Letters.{Letter, Message, last, more, put_letter, read, first_word, small, is_mark, is_break, begins_with_mark}
use Rattle.spec.specs.{Alphabet.mark, Refusals.vowel_byte}
use Rattle.laws.proofs.Classes.{refuted, below_or}
use Rattle.letters.specs.Places.{last_at, word_at, letter_of, Steady}

-- a mark is no break
pub mark_within : (b : ℕ) → is_mark b ≡ true → is_break b ≡ false
unfolding is_mark is_break
mark_within b h = rw (eqb-true b mark h)

-- the first word of a message with a letter put before it
pub word_put : (x : Letter) (r : Message) → first_word (put_letter x r) ≡ x ∷ first_word r
unfolding first_word put_letter
word_put x (last w) = refl
word_put x (more w y r) = refl

-- whether a mark follows is told by the next byte, 0 past the end
pub begins_at : (m : List ℕ) (i : ℕ) → begins_with_mark (drop i m) ≡ is_mark (get_or m i 0)
unfolding begins_with_mark is_mark
begins_at [] zero = refl
begins_at [] (suc i) = refl
begins_at (b ∷ m) zero = refl
begins_at (b ∷ m) (suc i) = begins_at m i

module _ (m : List ℕ) (i : ℕ) (h : i < length m) where
  -- a letter is put before what is read after it
  pub read_letter : is_break (get_or m i 0) ≡ false → is_mark (get_or m i 0) ≡ false → read (drop i m) ≡ put_letter (letter_of m i) (read (drop (suc i) m))
  unfolding read letter_of
  read_letter b k = rw (drop-cons m i 0 h, b, k)

  -- a mark is passed over
  pub read_mark : is_mark (get_or m i 0) ≡ true → read (drop i m) ≡ read (drop (suc i) m)
  unfolding read
  read_mark k = rw (drop-cons m i 0 h, mark_within (get_or m i 0) k, k)

  -- a break ends the word
  pub read_break : is_break (get_or m i 0) ≡ true → read (drop i m) ≡ more [] (get_or m i 0) (read (drop (suc i) m))
  unfolding read
  read_break b = rw (drop-cons m i 0 h, b)

-- past the last byte nothing is read
pub read_end : (m : List ℕ) → read (drop (length m) m) ≡ last []
unfolding read
read_end m = rw (drop-length m)

module _ (m : List ℕ) (i : ℕ) where
  -- a letter becomes the last one
  pub last_letter : is_break (get_or m i 0) ≡ false → is_mark (get_or m i 0) ≡ false → last_at m (suc i) ≡ small (get_or m i 0)
  unfolding last_at
  last_letter b k = rw (b, k)

  -- a mark changes nothing
  pub last_mark : is_mark (get_or m i 0) ≡ true → last_at m (suc i) ≡ last_at m i
  unfolding last_at
  last_mark k = rw (mark_within (get_or m i 0) k, k)

  -- after a break there is none
  pub last_break : is_break (get_or m i 0) ≡ true → last_at m (suc i) ≡ 0
  unfolding last_at
  last_break b = rw b

module _ (m : List ℕ) (steady : Steady m) where
  -- no mark stands after a byte that is no vowel
  pub unmarked_after : (i : ℕ) → vowel_byte (get_or m i 0) ≡ false → is_mark (get_or m (suc i) 0) ≡ false
  unfolding is_mark
  unmarked_after i v = refuted _ (λ k. ⊎_elim
      (λ h. true≢false (sym (steady.marks i h k) ∙ v)) (λ o. false≢true (sym (ap is_mark (List·getD-eq-default m 0 o)) ∙ k))
      (below_or (suc i) (length m)))

  -- a letter is the first one of the word from its place on
  pub word_letter : (i : ℕ) → i < length m → is_break (get_or m i 0) ≡ false → is_mark (get_or m i 0) ≡ false
      → word_at m i ≡ letter_of m i ∷ word_at m (suc i)
  unfolding word_at
  word_letter i h b k = rw (read_letter m i h b k) (word_put (letter_of m i) (read (drop (suc i) m)))

  -- a mark is none
  pub word_mark : (i : ℕ) → i < length m → is_mark (get_or m i 0) ≡ true → word_at m i ≡ word_at m (suc i)
  unfolding word_at
  word_mark i h k = rw (read_mark m i h k)

  -- at a break no letter is left
  pub word_break : (i : ℕ) → i < length m → is_break (get_or m i 0) ≡ true → word_at m i ≡ []
  unfolding word_at first_word
  word_break i h b = rw (read_break m i h b)

  -- nor at the end
  pub word_end : word_at m (length m) ≡ []
  unfolding word_at first_word
  word_end = rw (read_end m)
