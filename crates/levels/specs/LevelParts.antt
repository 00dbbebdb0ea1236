-- A level in the parts that it is spoken in.
-- Assumes nothing: these are definitions.
use Rattle.std.specs.Prelude.{ℕ, ◌*◌, ◌/◌, ◌%◌, ◌≡◌, List, [], ◌∷◌, ◌++◌, ℤ, pos, negsuc}
use Rattle.spec.specs.SpokenLevels.{bytes, hundreds, word_in, thousands}
use Rattle.numerals.specs.Placing.{low_words}
use Rattle.levels.specs.declared.Parts.{Parts}

-- the word that stands before the number's: below zero a minus
unfoldable pub sign_words : ℤ → List (List ℕ)
sign_words (pos n) = []
sign_words (negsuc n) = bytes "ми*нус" ∷ []

-- the parts of a number
pub record Splits (n : ℕ) (p : Parts) : Type 0 where
  pub thousands : p.thousands ≡ n / 1000
  pub hundreds : p.hundreds ≡ n % 1000 / 100 * 100
  pub tens : p.tens ≡ n % 100 / 10 * 10
  pub units : p.units ≡ n % 10

-- the words of the parts
abbrev pub part_words : Parts → List (List ℕ)
part_words p =
    thousands p.thousands ++ (word_in hundreds p.hundreds ++ low_words p.tens p.units)
