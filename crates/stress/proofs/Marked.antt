-- Whether the word at a place has a mark, as the bytes beside the place tell it: within a word, at its end and at its start. So the bytes
-- tell of the mark what the facts of the whole word say.
use Rattle.laws.proofs.Kit.{ℕ, zero, suc, ◌<◌, ◌≤◌, ◌≡◌, refl, sym, ◌∙◌, true, false, arith, or_assoc, or_comm, or-false, List, length}
use Rattle.laws.proofs.Kit.{get_or, drop, drop-cons, drop-length}
use Rattle.spec.specs.Letters.{is_mark, is_break}
use Rattle.spec.specs.Syllables.{has_mark}
use Rattle.letters.specs.Places.{word_at, Steady}
use Rattle.letters.proofs.Left.{begins_at, unmarked_after}
use Rattle.laws.proofs.Classes.{break_vowel, either}
use Rattle.stress.specs.Places.{mark_before, mark_from, marked_at, facts_at}
use Rattle.stress.proofs.Left.{mark_first}
use Rattle.stress.proofs.Whole.{whole_within, whole_first, whole_after}

module _ (m : List ℕ) (steady : Steady m) where
  -- whether the word has a mark does not change within it
  pub marked_within : (i : ℕ) → i < length m → is_break (get_or m i 0) ≡ false → marked_at m i ≡ marked_at m (suc i)
  unfolding marked_at mark_before mark_from
  marked_within i h b =
      rw (
        drop-cons m i 0 h,
        b,
        ← or_assoc (mark_before m i) (is_mark (get_or m i 0)) (mark_from (drop (suc i) m)),
        or_comm (mark_before m i) (is_mark (get_or m i 0)),
      )

  -- at its end it is told by the bytes before
  pub marked_break : (i : ℕ) → i < length m → is_break (get_or m i 0) ≡ true → marked_at m i ≡ mark_before m i
  unfolding marked_at mark_from
  marked_break i h b = rw (drop-cons m i 0 h, b) (or-false (mark_before m i))

  -- and so at the last
  pub marked_end : marked_at m (length m) ≡ mark_before m (length m)
  unfolding marked_at mark_from
  marked_end = rw (drop-length m) (or-false (mark_before m (length m)))

  -- at the start of a word the mark is told by its letters
  marked_first : (i : ℕ) → mark_before m i ≡ false → is_mark (get_or m i 0) ≡ false → marked_at m i ≡ has_mark (word_at m i)
  unfolding marked_at word_at
  marked_first i b k = rw (b, ← mark_first (drop i m), begins_at m i, k)

  -- so it is after a break
  marked_after : (i : ℕ) → is_break (get_or m i 0) ≡ true → marked_at m (suc i) ≡ has_mark (word_at m (suc i))
  unfolding mark_before
  marked_after i b = marked_first (suc i) (rw b) (unmarked_after m steady i (break_vowel (get_or m i 0) b))

  -- so it is as the facts of the whole word say
  pub facts_marked : (i : ℕ) → i ≤ length m → (facts_at m i).marked ≡ marked_at m i
  unfolding mark_before
  facts_marked zero h = rw (whole_first m) (sym (marked_first 0 refl steady.first))
  facts_marked (suc i) h =
      either (is_break (get_or m i 0)) (λ b. rw (whole_after m i b) (sym (marked_after i b)))
      (λ b. rw (← whole_within m steady i h b) (facts_marked i (omega arith)) ∙ marked_within i h b)
