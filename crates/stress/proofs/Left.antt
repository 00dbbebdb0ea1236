-- The left context of a place is the letters of the word before it and the boundary there, carried from the left. A letter, a mark and a
-- break each change it in one way.
use Rattle.laws.proofs.Kit.{ℕ, suc, ◌<◌, ◌≡◌, refl, sym, ◌∙◌, Bool, true, false, cond, ◌&&◌, ◌||◌, not, List, [], ◌∷◌, length, get_or}
use Rattle.spec.specs.Letters.{Letter, more, put_letter, read, first_word, small, is_mark, is_break, is_gap, begins_with_mark}
use Rattle.spec.specs.{Syllables.has_mark, Vowels.hard_end}
use Rattle.letters.specs.Places.{last_at, letter_of}
use Rattle.letters.proofs.Left.{mark_within, word_put}
use Rattle.stress.specs.Places.{last_but_one_at, hard_at, Left, left_at, mark_from}

-- the left context at the start of a word
abbrev pub start : Bool → Left
start hard = record { p = 0; q = 0; hard = hard }

-- the left context after a letter
abbrev pub after_letter : Letter → Left → Left
after_letter x l = record { p = x.byte; q = l.p; hard = false }

module _ (m : List ℕ) (i : ℕ) (h : i < length m) where
  -- a letter becomes the last one
  pub left_letter : is_break (get_or m i 0) ≡ false → is_mark (get_or m i 0) ≡ false
      → left_at m (suc i) ≡ after_letter (letter_of m i) (left_at m i)
  unfolding last_at last_but_one_at hard_at letter_of
  left_letter b k = rw (b, k)

  -- a mark changes nothing
  pub left_mark : is_mark (get_or m i 0) ≡ true → left_at m (suc i) ≡ left_at m i
  unfolding last_at last_but_one_at hard_at
  left_mark k = rw (mark_within (get_or m i 0) k, k)

  -- a break leaves only whether it is a hard boundary
  pub left_break : is_break (get_or m i 0) ≡ true
      → left_at m (suc i) ≡ record { p = 0; q = 0; hard = is_gap (get_or m i 0) && hard_end (last_but_one_at m i) (last_at m i) }
  unfolding last_at last_but_one_at hard_at
  left_break b = rw b

-- the marks of the first word are those of its letters, but for a mark at its start
pub mark_first : (m : List ℕ) → (begins_with_mark m || has_mark (first_word (read m))) ≡ mark_from m
unfolding read first_word has_mark mark_from begins_with_mark
mark_first [] = refl
mark_first (b ∷ m) = by (is_break b) (is_mark b) refl refl (mark_first m)
  where
    x : Letter
    x = record { byte = small b; stressed = begins_with_mark m }

    by : (t k : Bool) → is_break b ≡ t → is_mark b ≡ k → (begins_with_mark m || has_mark (first_word (read m))) ≡ mark_from m
        → (k || has_mark (first_word (cond t (more [] b (read m)) (cond k (read m) (put_letter x (read m))))))
        ≡ (not t && (k || mark_from m))
    by true true d e r = sym d ∙ mark_within b e
    by true false d e r = refl
    by false true d e r = refl
    by false false d e r = rw (word_put x (read m)) r
