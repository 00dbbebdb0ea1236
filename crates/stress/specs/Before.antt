-- How the code finds the syllable of a vowel: by the class of the byte before it. These are not the
-- paper's words: `proofs/` shows that they agree with them.
-- Assumes nothing: these are definitions.
use Rattle.std.specs.Prelude.{ℕ, ◌≤◌, ◌≡◌, cond, List, length}
use Rattle.letters.specs.Classes.{class_of, byte_before, is_covering_class}
use Rattle.spec.specs.declared.Cover.{Cover}
use Rattle.spec.specs.declared.Cover.TheVariants.{Bare, Covered}
use Rattle.spec.specs.declared.Level.{Level}
use Rattle.spec.specs.declared.Syllable.{Syllable}

-- the class of the byte before place i
abbrev pub class_before : List ℕ → ℕ → ℕ
class_before m i = class_of (byte_before m i)

-- the byte before place i has class k
pub record Before (m : List ℕ) (i k : ℕ) : Type 0 where
  pub within : i ≤ length m
  pub class : k ≡ class_before m i

-- a syllable is covered after a consonant or a sign
abbrev pub cover_class : ℕ → Cover
cover_class k = cond (is_covering_class k) Covered Bare

-- the syllable of a vowel of this level after a byte of class k
abbrev pub syllable_by : ℕ → Level → Syllable
syllable_by k level = record { cover = cover_class k; level = level }
