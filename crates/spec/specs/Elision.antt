-- Paper 01, pass 1, silent letters: which т and д of a word are elided. Each is judged by its
-- neighbours as they are written, elided or not.
-- Assumes nothing: these are definitions.
use Rattle.std.specs.Prelude.{ℕ, Bool, cond, ◌&&◌, ◌||◌, List, [], ◌∷◌, eqb}
use Rattle.spec.specs.Alphabet.{«д», «з», «к», «н», «р», «с», «т», «ц», «ч», «ш»}
use Rattle.spec.specs.Letters.{Letter, first_byte}

-- the byte of the second letter; 0 where there is none
unfoldable pub second_byte : List Letter → ℕ
second_byte [] = 0
second_byte (l ∷ w) = first_byte w

-- Letters in a row, 0 for none. т after p and before c and d: after с before ск or н; after н
-- before ск
unfoldable pub elides_t : ℕ → ℕ → ℕ → Bool
elides_t p c d = (eqb p «с» && (eqb c «с» && eqb d «к» || eqb c «н»)) || (eqb p «н» && (eqb c «с» && eqb d «к»))

-- д after p and before c and d: after р before ч or ц; after з before н or ц; after н before ц, с
-- or шт
unfoldable pub elides_d : ℕ → ℕ → ℕ → Bool
elides_d p c d =
    (eqb p «р» && (eqb c «ч» || eqb c «ц»))
    || ((eqb p «з» && (eqb c «н» || eqb c «ц»)) || (eqb p «н» && (eqb c «ц» || (eqb c «с» || eqb c «ш» && eqb d «т»))))

-- is the letter b elided between p and the letters c and d?
unfoldable pub elides_among : ℕ → ℕ → ℕ → ℕ → Bool
elides_among p b c d = (eqb b «т» && elides_t p c d) || (eqb b «д» && elides_d p c d)

-- is the letter b elided, after p and before the letters w?
unfoldable pub elides : ℕ → ℕ → List Letter → Bool
elides p b w = elides_among p b (first_byte w) (second_byte w)

-- the letters left of w, whose letter before, as written, is p (0 at the start of a word)
unfoldable pub elide_from : ℕ → List Letter → List Letter
elide_from p [] = []
elide_from p (l ∷ w) = cond (elides p l.byte w) (elide_from l.byte w) (l ∷ elide_from l.byte w)

-- pass 1: the letters that later passes see
unfoldable pub elide : List Letter → List Letter
elide w = elide_from 0 w
