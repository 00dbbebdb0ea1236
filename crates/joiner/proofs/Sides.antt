-- The two sides of a cut's mark: the codes beside it are the whole tape's, which tell the bits that come from over the cut, and the word after it begins with the letter of the next byte.
use Rattle.laws.proofs.Kit.{ℕ, zero, suc, ◌+◌, ◌-◌, ◌≡◌, refl, sym, ap, ◌∙◌, true, false, ◌&&◌, List, [], ◌∷◌, arith, add-one, eqb, get_or}
use Rattle.laws.proofs.Kit.{drop, eqb-true}
use Rattle.spec.specs.Letters.{read, first_byte, first_word, small, is_mark, is_break}
use Rattle.spec.specs.{Alphabet.gap, Alphabet.pause, Tape.tape, Joints.mark_index, Joints.word_after}
use Rattle.letters.specs.Classes.{letter_at}
use Rattle.letters.proofs.Left.{word_put, unmarked_after}
use Rattle.laws.proofs.{Classes.either, Classes.break_vowel, MarkIndex.before_told, MarkIndex.after_told}
use Rattle.laws.specs.{Parts.changed_after, Parts.changed_before, Beside.is_voiced, Beside.is_high, Beside.is_i_or_e}
use Rattle.joiner.specs.Writing.{Beside}

-- a break is neither и nor э
break_other : (b : ℕ) → is_break b ≡ true → is_i_or_e (small b) ≡ false
unfolding is_break small
break_other b e = either (eqb b gap) (λ q. rw (eqb-true b gap q)) (λ q. rw (eqb-true b pause (rw q at e)))

-- the first letter from a place on where no mark stands
first_told : (m : List ℕ) (i : ℕ) → is_mark (get_or m i 0) ≡ false → is_i_or_e (first_byte (first_word (read (drop i m)))) ≡ is_i_or_e (letter_at m i)
unfolding read first_word first_byte letter_at small
first_told [] zero k = refl
first_told [] (suc i) k = refl
first_told (b ∷ m) zero k = either (is_break b) (λ s. rw s (sym (break_other b s))) (λ s. rw (s, k, word_put _ (read m)))
first_told (b ∷ m) (suc i) k = first_told m i k

module _ {m t : List ℕ} {c at : ℕ} (s : Beside m t c at) where
  -- (a) by the code before the mark
  pub voice_told : is_voiced (get_or t (at - 1) 0) ≡ changed_before m c
  voice_told =
      let e : suc (at - 1) ≡ mark_index m c = omega (arith, s.some, s.place) in
      rw (s.whole.same (at - 1) (omega arith)) (ap (λ (j : ℕ). is_voiced (get_or (0 ∷ tape s.whole.edition m) j 0)) e
      ∙ before_told m s.whole.valid.accepted s.whole.edition c s.break)

  -- (b) by the code after the mark and the next letter
  pub hardness_told : (is_high (get_or t (at + 1) 0) && is_i_or_e (letter_at m (c + 1))) ≡ changed_after m (suc c)
  unfolding word_after
  hardness_told =
      rw (add-one at, add-one c, ← first_told m (suc c) (unmarked_after m s.whole.valid.steady c (break_vowel (get_or m c 0) s.break)), s.whole.same (suc at) (omega arith), s.place)
      (after_told m s.whole.edition c s.break)
