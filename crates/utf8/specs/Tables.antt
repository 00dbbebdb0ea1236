-- The rules of the reader's tables and of the writer's.
-- Assumes nothing: these are definitions.
use Rattle.std.specs.Prelude.{ℕ, ◌+◌, ◌*◌, cond, List, [], ◌∷◌}
use Rattle.spec.specs.Alphabet.{gap}
use Rattle.spec.specs.Letters.{between}
use Rattle.spec.specs.Utf8.{octets, sequence, byte_of}
use Rattle.letters.specs.Classes.{tabulate}

-- what a letter begins with that ends with this octet, but for Ё and ё; a gap, with which none
-- begins, where none ends so
unfoldable pub lead_of : ℕ → ℕ
lead_of next = cond (between 0x80 0x8F next) 0xD1 (cond (between 0x90 0xBF next) 0xD0 gap)

unfoldable pub leads : List ℕ
leads = tabulate lead_of 0 256

-- the byte of a letter by its number, less 0x400; 0 where it is none
unfoldable pub letter_of : ℕ → ℕ
letter_of c = byte_of (octets (0x400 + c))

unfoldable pub letters : List ℕ
letters = tabulate letter_of 0 128

-- the two octets of a letter as one number, the first times 256 and the second; 0 where there are
-- not two
unfoldable pub both : List ℕ → ℕ
both [] = 0
both (a ∷ []) = 0
both (a ∷ b ∷ s) = 256 * a + b

-- those of the letters by their bytes, less that of Ё
unfoldable pub sequence_of : ℕ → ℕ
sequence_of j = both (sequence (0xA8 + j))

unfoldable pub sequences : List ℕ
sequences = tabulate sequence_of 0 88
