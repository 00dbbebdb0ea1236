-- The run of the levels' step: a mark makes the vowel before it stressed, the vowel before that is of level 1, and those further left are
-- of level 2, or 1 where the word has no mark. The steps are those that the definition counts.
use Rattle.laws.proofs.Kit.{ℕ, zero, suc, ◌+◌, ◌<◌, ◌≡◌, refl, sym, ap, ◌∙◌, Bool, true, false, true≢false, cond, ◌||◌, not, arith, List}
use Rattle.laws.proofs.Kit.{[], ◌∷◌, length, get_or, drop, drop-length, add-one}
use Rattle.spec.specs.Letters.{is_break, is_mark, begins_with_mark}
use Rattle.spec.specs.{Refusals.vowel_byte, Syllables.next_stressed, Syllables.level_of, LevelSteps.back_at, LevelSteps.back_to}
use Rattle.spec.specs.LevelSteps.{level_steps}
use Rattle.spec.specs.declared.Level.TheVariants.{Stressed, First, Second}
use Rattle.letters.specs.{Classes.class_of, Classes.is_covering_class, Places.Steady, Places.letter_of, Places.word_at}
use Rattle.letters.proofs.Left.{mark_within, begins_at, unmarked_after, word_letter, word_break, word_end}
use Rattle.letters.proofs.{Bytes.vowel_break, Bytes.vowel_mark, Bytes.not_both, Computed.everything}
use Rattle.laws.proofs.{Classes.break_mark, Classes.break_vowel, Classes.either, Classes.where_same, LevelSteps.steps_suffice}
use Rattle.stress.specs.{declared.LevelRun.LevelRun, Places.mark_before, Places.marked_at}
use Rattle.stress.specs.Levels.{level_at, counted_by, numbered, nearly, since_by, end_run, over_vowel, over_mark}
use Rattle.stress.specs.Levels.{over_break, over_letter, steps_of, turn_of, step_over, StepDue, LookDue, Looked, LevelsAt}
use Rattle.stress.proofs.Marked.{marked_within, marked_break, marked_end, facts_marked}

-- a letter of these classes is no vowel, no break and no mark
pub plain_letter : (b : ℕ) → b < 256 → is_covering_class (class_of b) ≡ true
    → (is_break b ≡ false) × (is_mark b ≡ false) × (vowel_byte b ≡ false)
unfolding everything
plain_letter b h c =
    let e = where_same (λ x. is_covering_class (class_of x)) (λ x. is_break x ∷ is_mark x ∷ vowel_byte x ∷ [])
    (λ _. false ∷ false ∷ false ∷ []) [] b refl h c in
    (cc, cc, cc)

-- nor is a mark a vowel
pub mark_vowel : (b : ℕ) → b < 256 → is_mark b ≡ true → vowel_byte b ≡ false
unfolding everything
mark_vowel b = not_both is_mark vowel_byte b refl

-- the count tells the level, as far as it makes a difference
level_nearly : (n : ℕ) (marked : Bool) → numbered (counted_by n marked) ≡ numbered (counted_by (nearly n) marked)
level_nearly zero marked = refl
level_nearly (suc zero) marked = refl
level_nearly (suc (suc n)) marked = refl

level_since : (stressed ahead marked : Bool)
    → numbered (counted_by (since_by stressed ahead) marked) ≡ cond stressed Stressed (cond (ahead || not marked) First Second)
level_since true ahead marked = refl
level_since false true marked = refl
level_since false false true = refl
level_since false false false = refl

-- a vowel is a syllable more
nearly_more : (n : ℕ) (stressed ahead : Bool) → nearly n ≡ since_by stressed ahead → nearly (suc n) ≡ since_by false stressed
nearly_more zero true ahead e = refl
nearly_more zero false true e = omega (arith, e)
nearly_more zero false false e = omega (arith, e)
nearly_more (suc zero) true ahead e = omega (arith, e)
nearly_more (suc zero) false ahead e = refl
nearly_more (suc (suc n)) true ahead e = omega (arith, e)
nearly_more (suc (suc n)) false ahead e = refl

-- the step goes by what the byte is
pub step_by : (P : LevelRun → Type 0) (s : LevelRun) (b : ℕ) → (vowel_byte b ≡ true → P (over_vowel s))
    → (is_mark b ≡ true → P (over_mark s)) → (is_break b ≡ true → P (over_break s))
    → (is_break b ≡ false → is_mark b ≡ false → vowel_byte b ≡ false → P (over_letter s)) → P (step_over s b)
step_by P s b vowel mark break letter =
    either (vowel_byte b) (λ v. rw v (vowel v)) (λ v.
    either (is_mark b) (λ k. rw (v, k) (mark k)) (λ k.
    either (is_break b) (λ x. rw (v, k, x) (break x)) (λ x. rw (v, k, x) (letter x k v))))

-- a letter is one byte more that is looked back over
pub back_letter : (m : List ℕ) (i : ℕ) → is_break (get_or m i 0) ≡ false → is_mark (get_or m i 0) ≡ false
    → back_at m (suc i) ≡ suc (back_at m i)
unfolding back_at
back_letter m i b k = rw (b, k)

-- behind a mark or a break it is the one
pub back_mark : (m : List ℕ) (i : ℕ) → is_mark (get_or m i 0) ≡ true → back_at m (suc i) ≡ 1
unfolding back_at
back_mark m i k = rw (mark_within (get_or m i 0) k, k)

pub back_break : (m : List ℕ) (i : ℕ) → is_break (get_or m i 0) ≡ true → back_at m (suc i) ≡ 1
unfolding back_at
back_break m i b = rw b

-- at a break a word ends
ends_break : (m : List ℕ) (i : ℕ) → is_break (get_or m i 0) ≡ true → back_to m (suc i) ≡ back_at m i + back_to m i
unfolding back_to
ends_break m i b = rw b

-- and within a word none does
ends_within : (m : List ℕ) (i : ℕ) → is_break (get_or m i 0) ≡ false → back_to m (suc i) ≡ back_to m i
unfolding back_to
ends_within m i b = rw b (omega arith)

-- there is room for a step
pub levels_due : {m : List ℕ} {i : ℕ} {s : LevelRun} → Steady m → i < length m → LevelsAt m (suc i) s → StepDue s (get_or m i 0)
levels_due {m} {i} steady h l = record {
  named = steady.named i h;
  steps = omega (arith, l.steps, (steps_suffice m).two, steady.short);
  since = omega (arith, l.most, steady.short);
}

-- the steps can be added up
pub levels_taken : {m : List ℕ} {i : ℕ} {s : LevelRun} → Steady m → LevelsAt m i s → steps_of s < 65536
levels_taken {m} steady l = omega (arith, l.steps, (steps_suffice m).two, steady.short)

-- and then the run stands where it stood
pub levels_turn : {m : List ℕ} {i : ℕ} {s : LevelRun} → LevelsAt m i s → LevelsAt m i (turn_of s)
levels_turn l = record { since = l.since; marked = l.marked; most = l.most; steps = omega (arith, l.steps) }

-- the run that is over took the message's steps
pub levels_done : {m : List ℕ} {s : LevelRun} → LevelsAt m 0 s → steps_of s ≡ level_steps m
unfolding back_to
levels_done l = omega (arith, l.steps)

module _ (m : List ℕ) (steady : Steady m) (i : ℕ) (h : i < length m) where
  module _ {s : LevelRun} (l : LevelsAt m (suc i) s) where
    -- the level that the run gives a vowel is that of pass 2
    pub levels_found : is_break (get_or m i 0) ≡ false → numbered (counted_by s.since s.marked) ≡ level_at m i
    unfolding level_of letter_of
    levels_found b =
        level_nearly s.since s.marked ∙ rw (l.since, l.marked, facts_marked m steady i (omega arith), marked_within m steady i h b)
        (level_since (begins_with_mark (drop (suc i) m)) (next_stressed (word_at m (suc i))) (marked_at m (suc i)))

    -- over a vowel
    over_vowel_lem : vowel_byte (get_or m i 0) ≡ true → LevelsAt m i (over_vowel s)
    unfolding next_stressed letter_of vowel_byte
    over_vowel_lem v =
        let b = vowel_break (get_or m i 0) (steady.bytes i) v in
        let k = vowel_mark (get_or m i 0) (steady.bytes i) v in
        record {
          since = rw (add-one s.since, begins_at m i, k, word_letter m steady i h b k, v)
              (nearly_more s.since (begins_with_mark (drop (suc i) m)) (next_stressed (word_at m (suc i))) l.since);
          marked = l.marked ∙ sym (marked_within m steady i h b);
          most = omega (arith, l.most);
          steps = omega (arith, l.steps, ends_within m i b);
        }

    -- over another letter
    over_letter_lem : is_break (get_or m i 0) ≡ false → is_mark (get_or m i 0) ≡ false → vowel_byte (get_or m i 0) ≡ false
        → LevelsAt m i (over_letter s)
    unfolding next_stressed letter_of vowel_byte
    over_letter_lem b k v =
        let u : begins_with_mark (drop (suc i) m) ≡ false = begins_at m (suc i) ∙ unmarked_after m steady i v in
        record {
          since = l.since ∙ rw (u, begins_at m i, k, word_letter m steady i h b k, v);
          marked = l.marked ∙ sym (marked_within m steady i h b);
          most = omega (arith, l.most);
          steps = omega (arith, l.steps, ends_within m i b);
        }

    -- over a mark
    over_mark_lem : is_mark (get_or m i 0) ≡ true → LevelsAt m i (over_mark s)
    unfolding marked_at mark_before
    over_mark_lem k =
        let b = mark_within (get_or m i 0) k in
        record {
          since = rw (begins_at m i, k);
          marked = sym (marked_within m steady i h b ∙ rw (b, k));
          most = omega arith;
          steps = omega (arith, l.steps, ends_within m i b);
        }

    -- so over every byte of a word
    pub levels_over : is_break (get_or m i 0) ≡ false → LevelsAt m i (step_over s (get_or m i 0))
    levels_over b =
        step_by (LevelsAt m i) s (get_or m i 0) over_vowel_lem over_mark_lem (λ x. absurd (true≢false (sym x ∙ b))) over_letter_lem

    module _ (b : is_break (get_or m i 0) ≡ true) where
      -- at a break another word ends
      over_break_lem : step_over s (get_or m i 0) ≡ over_break s
      over_break_lem = rw (break_vowel (get_or m i 0) b, break_mark (get_or m i 0) b, b)

      -- where the step may be taken ahead
      pub break_due : LookDue m i (step_over s (get_or m i 0))
      break_due = rw over_break_lem (record {
        steady = steady;
        within = omega (arith, h);
        steps = omega (arith, l.steps, (steps_suffice m).two);
        since = refl;
        marked = refl;
      })

      -- after which the run stands there
      pub levels_break : {q : LevelRun} → Looked m i (step_over s (get_or m i 0)) q → LevelsAt m i q
      unfolding next_stressed
      levels_break a =
          let e = ap (λ x. x.steps) over_break_lem in
          let f = ap (λ x. x.before) over_break_lem in
          record {
            since = rw (a.since, begins_at m i, break_mark (get_or m i 0) b, word_break m steady i h b);
            marked = a.marked ∙ sym (marked_break m steady i h b);
            most = omega (arith, a.since, h);
            steps = omega (arith, a.steps, a.before, e, f, l.steps, ends_break m i b);
          }

-- so it may at the message's end
pub end_due : {m : List ℕ} → Steady m → LookDue m (length m) (end_run 0 0 false)
end_due steady = record { steady = steady; within = omega arith; steps = omega arith; since = refl; marked = refl }

-- where the run begins
pub levels_end : {m : List ℕ} → Steady m → {q : LevelRun} → Looked m (length m) (end_run 0 0 false) q → LevelsAt m (length m) q
unfolding next_stressed begins_with_mark level_steps
levels_end {m} steady a = record {
  since = rw (a.since, drop-length m, word_end m steady);
  marked = a.marked ∙ sym (marked_end m steady);
  most = omega (arith, a.since);
  steps = omega (arith, a.steps, a.before);
}
