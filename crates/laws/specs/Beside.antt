-- The marks of breaks on a tape, and what the codes beside them are asked.
-- Assumes nothing: these are definitions.
use Rattle.std.specs.Prelude.{ℕ, ◌<◌, ◌≡◌, Bool, true, false, not, ◌&&◌, ◌||◌, List, eqb, get_or}
use Rattle.spec.specs.Alphabet.{«и», «э»}
use Rattle.spec.specs.Letters.{between}
use Rattle.spec.specs.Codes.{Ы*, Ы1, Б, З', J, Ц1, Ч1}

-- r is the last index below i where the list passes the test
pub record Last (test : ℕ → Bool) (x : List ℕ) (i r : ℕ) : Type 0 where
  pub below : r < i
  pub here : test (get_or x r 0) ≡ true
  pub past : (j : ℕ) → r < j → j < i → test (get_or x j 0) ≡ false

-- codes of voiced obstruents: the set D, В and В'
abbrev pub is_voiced : ℕ → Bool
is_voiced c = ((between Б З' c && not (eqb c J)) || eqb c Ц1) || eqb c Ч1

-- the sounds of ы
abbrev pub is_high : ℕ → Bool
is_high c = eqb c Ы* || eqb c Ы1

-- the letters that a hard boundary changes
abbrev pub is_i_or_e : ℕ → Bool
is_i_or_e b = eqb b «и» || eqb b «э»
