-- The letter before a place and the hard boundary there, told by the two bytes before it: in a steady message they tell of the last two
-- letters of the word what is asked.
use Rattle.laws.proofs.Kit.{ℕ, zero, suc, ◌-◌, ◌<◌, ◌≤◌, ◌≡◌, refl, sym, ap, ◌∙◌, Bool, true, false, not, List, arith, eqb, length, get_or}
use Rattle.laws.proofs.Kit.{eqb-true}
use Rattle.spec.specs.Alphabet.{«ь»}
use Rattle.spec.specs.Letters.{small, is_break, is_gap, is_mark}
use Rattle.spec.specs.{Vowels.initial, Vowels.hard_end}
use Rattle.letters.specs.Classes.{class_of, gap_class, pause_class, soft_sign_class, is_break_class, byte_before}
use Rattle.letters.specs.Places.{last_at, Steady}
use Rattle.letters.proofs.Bytes.{by_class, not_both, vowel_break, vowel_mark}
use Rattle.letters.proofs.{Before.classes_alike, Before.byte_tells, Computed.everything}
use Rattle.laws.proofs.Classes.{cond_by, either, below_same}
use Rattle.stress.specs.Before.{class_before}
use Rattle.stress.specs.Places.{last_but_one_at, hard_at}
use Rattle.stress.proofs.Raw.{start_class, before_class}
use Rattle.vowels.specs.VowelSounds.{Told, letter_before, hard_before}

-- a gap's class is its own
gap_class_lem : (b : ℕ) → b < 256 → is_gap b ≡ eqb (class_of b) gap_class
unfolding everything
gap_class_lem b h = below_same is_gap (λ x. eqb (class_of x) gap_class) 256 b refl h

-- no byte but a break has it
within_gap : (b : ℕ) → b < 256 → is_break b ≡ false → eqb (class_of b) gap_class ≡ false
unfolding everything
within_gap b h s = not_both (λ x. not (is_break x)) (λ x. eqb (class_of x) gap_class) b refl h (ap not s)

-- only at the start is the byte before a place a pause that is not there
pub past_start : (m : List ℕ) (i : ℕ) {k : ℕ} → k ≡ class_before m i → (k ≡ pause_class → ⊥) → 0 < i
past_start m zero e n = absurd (n (e ∙ start_class m))
past_start m (suc i) e n = omega arith

module _ (m : List ℕ) (steady : Steady m) where
  -- the letter before is told
  pub told_at_lem : (i : ℕ) → i ≤ length m → Told (letter_before m i) (last_at m i)
  unfolding letter_before initial
  told_at_lem i h =
      let b = byte_tells m steady i h in
      let c = (before_class m steady i).break in
      cond_by (λ x. Told x (last_at m i)) (is_break_class (class_before m i))
      (λ e. eqb-true (last_at m i) 0 (b.first ∙ c ∙ e))
      (λ e. (c ∙ e, b))

  -- the two bytes before a place tell whether the word before it ends hard
  end_raw : (i : ℕ) → i ≤ length m
      → hard_end (last_but_one_at m i) (last_at m i) ≡ hard_end (small (byte_before m (i - 1))) (small (byte_before m i))
  unfolding everything last_at last_but_one_at byte_before
  end_raw zero h = refl
  end_raw (suc i) h =
      let b = get_or m i 0 in
      let t = classes_alike (byte_tells m steady (suc i) h).letter in
      let c = by_class b (steady.bytes i) in
      let e : suc i - 1 ≡ i = omega arith in
      rw (t.hard_only, t.paired, t.soft_sign, e)
      (either (eqb (small b) «ь»)
      (λ d. let f = eqb-true (class_of b) soft_sign_class (sym c.soft_sign ∙ d) in
      let s : is_break b ≡ false = rw f at c.break in
      let k : is_mark b ≡ false = rw f at c.mark in
      rw (s, k, (classes_alike (byte_tells m steady i (omega arith)).letter).hard_only))
      (λ d. rw d))

  -- before a mark stands a vowel, and no boundary
  mark_soft : (i : ℕ) → i < length m → is_mark (get_or m i 0) ≡ true → hard_at m i ≡ false
  unfolding hard_at
  mark_soft zero h k = refl
  mark_soft (suc i) h k =
      let v = steady.marks i h k in
      let t = steady.bytes i in
      rw (vowel_break _ t v, vowel_mark _ t v)

  -- whether a hard boundary stands before the place
  pub hard_raw : (i : ℕ) → i ≤ length m → hard_at m i ≡ hard_before m i
  unfolding hard_at byte_before hard_before
  hard_raw zero h = rw (start_class m)
  hard_raw (suc i) h =
      let b = get_or m i 0 in
      let t = steady.bytes i in
      let x : suc i - 1 ≡ i = omega arith in
      let y : suc i - 2 ≡ i - 1 = omega arith in
      let P : Bool → Type 0 = λ t. t ≡ hard_before m (suc i) in
      cond_by P (is_break b) (λ s. rw (gap_class_lem b t, end_raw i (omega arith), x, y)) (λ s.
      cond_by P (is_mark b) (λ k. rw (mark_soft i h k, within_gap b t s)) (λ k. rw (within_gap b t s)))
