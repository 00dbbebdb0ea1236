-- What one step of the run makes of a byte, told by its class: a vowel and another letter by the class alone, and of what is no letter
-- the byte itself tells the mark.
use Rattle.laws.proofs.Kit.{ℕ, ◌<◌, ◌≤◌, ◌≡◌, ◌∙◌, false, arith, lt-leb, ne_eqb}
use Rattle.spec.specs.Letters.{is_mark}
use Rattle.spec.specs.Refusals.{vowel_byte}
use Rattle.letters.specs.Classes.{class_of}
use Rattle.letters.proofs.Bytes.{by_class}
use Rattle.stress.specs.declared.LevelRun.{LevelRun}
use Rattle.stress.specs.Levels.{step_over, over_vowel, over_letter, over_mark, over_break}
use Rattle.stress.proofs.Levelling.{plain_letter}
use Rattle.stress.proofs.Raw.{between_true, vowel_class, break_byte}

module _ {b c : ℕ} (e : c ≡ class_of b) (h : b < 256) where
  -- a byte of the lower classes is no vowel
  quiet : c < 10 → vowel_byte b ≡ false
  quiet l = (by_class b h).vowel ∙ rw (← e, lt-leb 10 c l)

  module _ (s : LevelRun) where
    pub over_vowel_class : 10 ≤ c → over_vowel s ≡ step_over s b
    over_vowel_class l = rw ((by_class b h).vowel ∙ (rw e at (vowel_class h e l)))

    pub over_letter_class : 4 ≤ c → c < 10 → over_letter s ≡ step_over s b
    over_letter_class l n =
        let p = plain_letter b h (rw e at (between_true 4 9 c l (omega (arith, n)))) in
        rw (p.2, p.1, p.0)

    pub over_mark_class : c < 10 → b ≡ 42 → over_mark s ≡ step_over s b
    unfolding is_mark
    over_mark_class n m = rw (quiet n, m)

    pub over_break_class : (class_of b ≡ 0 → ⊥) → c < 4 → (b ≡ 42 → ⊥) → over_break s ≡ step_over s b
    unfolding is_mark
    over_break_class z l n =
        let k = ne_eqb b 42 n in
        rw (quiet (omega (arith, l)), k, break_byte h e z l k)

-- what the step's code cites
pub ruleset steps_by_class = (over_vowel_class, over_letter_class, over_mark_class, over_break_class)
