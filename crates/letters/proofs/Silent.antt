-- Which letters are silent can be told from the bytes beside them: elision asks only for consonants, and beside a т or д a byte that is no
-- letter of the word is no consonant, and no mark stands between.
use Rattle.laws.proofs.Kit.{ℕ, zero, suc, ◌+◌, ◌<◌, ◌≤◌, ◌≡◌, refl, sym, ap, ◌∙◌, ⊎_elim, Bool, true, false, ◌&&◌, not, and-false}
use Rattle.laws.proofs.Kit.{false≢true}
use Rattle.laws.proofs.Kit.{List, [], ◌∷◌, ◌++◌, eqb, length, get_or, drop_of_length-le, List·getD-eq-default, eqb-true, ne_eqb, arith}
use Rattle.laws.proofs.Kit.{add-one}
use Rattle.spec.specs.Alphabet.{pause, «д», «з», «к», «н», «р», «с», «т», «ц», «ч», «ш»}
use Rattle.spec.specs.Letters.{read, first_word, first_byte, small, hard_only, paired, soft_only, is_mark, is_break, is_consonant}
use Rattle.spec.specs.Elision.{second_byte, elides, elides_t, elides_d, elides_among}
use Rattle.spec.specs.Tables.{among}
use Rattle.letters.specs.Classes.{class_of, paired_class, t_or_d_class, letter_at, byte_before, elided_at}
use Rattle.letters.specs.Places.{last_at, word_at, letter_of, Steady, consonants_and_signs, Alike}
use Rattle.letters.proofs.Before.{alike_same, alike_break, byte_tells}
use Rattle.laws.proofs.Elided.{other_stays}
use Rattle.letters.proofs.{Bytes.by_class, Bytes.not_both, Bytes.consonant_vowel, Left.unmarked_after, Left.word_letter}
use Rattle.letters.proofs.{Left.word_break, Computed.everything}
use Rattle.laws.proofs.Classes.{either, below_or, among_none}

-- a letter that is no consonant is never silent
plain_stays : (p b c d : ℕ) → is_consonant b ≡ false → elides_among p b c d ≡ false
unfolding elides_among is_consonant among
plain_stays p b c d n = let l = hard_only ++ paired ++ soft_only in rw (among_none l b «т» n refl, among_none l b «д» n refl)

-- a letter is as silent beside alike bytes; the second after it counts only where a consonant stands between
pub alike_elides : (p q b c c' d d' : ℕ) → Alike p q → Alike c c' → (is_consonant c ≡ true → Alike d d')
    → elides_among p b c d ≡ elides_among q b c' d'
unfolding elides_among elides_t elides_d everything
alike_elides p q b c c' d d' f g h =
    rw (
      two «с» «к» refl refl refl,
      two «ш» «т» refl refl refl,
      f.each «с» refl,
      f.each «н» refl,
      f.each «р» refl,
      f.each «з» refl,
      g.each «с» refl,
      g.each «н» refl,
      g.each «ч» refl,
      g.each «ц» refl,
    )
  where
    two : (x y : ℕ) → is_consonant x ≡ true → among consonants_and_signs x ≡ true → among consonants_and_signs y ≡ true
        → (eqb c x && eqb d y) ≡ (eqb c' x && eqb d' y)
    two x y k i j = by (eqb c x) refl
      where
        by : (t : Bool) → eqb c x ≡ t → (t && eqb d y) ≡ (eqb c' x && eqb d' y)
        by true e = rw (← g.each x i, e) ((h (ap is_consonant (eqb-true c x e) ∙ k)).each y j)
        by false e = rw (← g.each x i, e)

-- a byte of another class than т and д is not elided
pub class_spoken : (m : List ℕ) (i : ℕ) → get_or m i 0 < 256 → (class_of (get_or m i 0) ≡ t_or_d_class → ⊥) → elided_at m i ≡ false
unfolding elided_at letter_at
class_spoken m i h n = other_stays _ (small (get_or m i 0)) _ _ ((by_class (get_or m i 0) h).silent ∙ ne_eqb (class_of (get_or m i 0)) t_or_d_class n)

-- the letters after which т and д are elided
abbrev before_silent : List ℕ
before_silent = «с» ∷ «н» ∷ «р» ∷ «з» ∷ []

-- after another letter none is
after_spoken : (p b c d : ℕ) → among before_silent p ≡ false → elides_among p b c d ≡ false
unfolding among elides_among elides_t elides_d
after_spoken p b c d e = simp (no «с» refl, no «н» refl, no «р» refl, no «з» refl, and-false)
  where
    no : (x : ℕ) → among before_silent x ≡ true → eqb p x ≡ false
    no x i = among_none before_silent p x e i

-- all of them are paired, and neither т nor д
class_before_lem : (b : ℕ) → b < 256 → not (eqb (class_of b) paired_class) ≡ true → among before_silent (small b) ≡ false
unfolding everything
class_before_lem b = not_both (λ x. not (eqb (class_of x) paired_class)) (λ x. among before_silent (small x)) b refl

-- so a byte after another class, or first, is not elided
pub before_spoken : (m : List ℕ) (i : ℕ) → ((j : ℕ) → get_or m j 0 < 256) → ((j : ℕ) → i ≡ suc j → class_of (get_or m j 0) ≡ paired_class → ⊥)
    → elided_at m i ≡ false
unfolding among elided_at byte_before letter_at small
before_spoken m zero h n = after_spoken (small pause) _ _ _ refl
before_spoken m (suc i) h n =
    after_spoken (small (get_or m i 0)) _ _ _ (class_before_lem (get_or m i 0) (h i) (rw (ne_eqb (class_of (get_or m i 0)) paired_class (n i refl))))

module _ (m : List ℕ) (steady : Steady m) where
  -- no mark stands after a consonant
  unmarked : (i : ℕ) → is_consonant (small (get_or m i 0)) ≡ true → is_mark (get_or m (suc i) 0) ≡ false
  unmarked i c = unmarked_after m steady i (consonant_vowel (get_or m i 0) (steady.bytes i) c)

  -- past the end there is no letter, and the byte is taken for 0
  past : (j : ℕ) → length m ≤ j → (word_at m j ≡ []) × (letter_at m j ≡ 0)
  unfolding word_at read first_word letter_at small
  past j o = (rw (drop_of_length-le m o), rw (List·getD-eq-default m 0 o))

  -- the first letter from a place on, and the byte there
  alike_at : (j : ℕ) → is_mark (get_or m j 0) ≡ false → Alike (first_byte (word_at m j)) (letter_at m j)
  unfolding first_byte letter_at letter_of
  alike_at j k = ⊎_elim
      (λ h. either (is_break (get_or m j 0)) (λ s. rw (word_break m steady j h s) (alike_break (get_or m j 0) s))
      (λ s. rw (word_letter m steady j h s k) (alike_same (small (get_or m j 0)))))
      (λ o. rw ((past j o).0, (past j o).1) (alike_same 0)) (below_or j (length m))

  -- the second letter from a place on, and the byte after it, where the first is a consonant
  alike_second : (j : ℕ) → is_mark (get_or m j 0) ≡ false → is_consonant (first_byte (word_at m j)) ≡ true
      → Alike (second_byte (word_at m j)) (letter_at m (suc j))
  unfolding everything letter_of
  alike_second j k c = ⊎_elim
      (λ h. either (is_break (get_or m j 0)) (λ s. absurd (false≢true (rw (word_break m steady j h s) at c)))
      (λ s. rw (word_letter m steady j h s k) (alike_at (suc j) (unmarked j (rw (word_letter m steady j h s k) at c)))))
      (λ o. absurd (false≢true (rw (past j o).0 at c))) (below_or j (length m))

  -- which letters are silent can be told from the bytes beside them
  pub elided_at_lem : (i : ℕ) → i < length m → is_break (get_or m i 0) ≡ false → is_mark (get_or m i 0) ≡ false
      → elides (last_at m i) (small (get_or m i 0)) (word_at m (suc i)) ≡ elided_at m i
  unfolding elides elided_at letter_at
  elided_at_lem i h b k = either (is_consonant (small (get_or m i 0))) (λ c.
      let two : i + 2 ≡ suc (suc i) = omega arith in
      let a = (byte_tells m steady i (omega arith)).letter in
      rw (add-one i, two)
      (alike_elides _ _ (small (get_or m i 0)) _ _ _ _ a (alike_at (suc i) (unmarked i c)) (alike_second (suc i) (unmarked i c))))
      (λ c. plain_stays (last_at m i) (small (get_or m i 0)) _ _ c
      ∙ sym (plain_stays (small (byte_before m i)) (small (get_or m i 0)) (letter_at m (i + 1)) (letter_at m (i + 2)) c))
