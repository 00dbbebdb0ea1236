-- Paper 02, request 9, six bits a code: how a tape is packed and unpacked. It holds of any codes up
-- to 63.
-- Assumes nothing: these are definitions.
use Rattle.std.specs.Prelude.{ℕ, ◌+◌, ◌*◌, ◌/◌, ◌%◌, List, [], ◌∷◌, ◌++◌, take}

-- Four codes of six bits in three bytes, the first code in the top bits of the first byte.
unfoldable pub three_of : ℕ → ℕ → ℕ → ℕ → List ℕ
three_of a b c d = (a * 4 + b / 16) ∷ (b % 16 * 16 + c / 4) ∷ (c % 4 * 64 + d) ∷ []

-- The four codes that three bytes hold.
unfoldable pub four_of : ℕ → ℕ → ℕ → List ℕ
four_of x y z = x / 4 ∷ (x % 4 * 16 + y / 16) ∷ (y % 16 * 4 + z / 64) ∷ z % 64 ∷ []

-- What the last group is padded with.
abbrev pub padding : ℕ
padding = 63

-- A tape as bytes: each four codes are a group of three bytes, and the last group is padded.
unfoldable pub pack : List ℕ → List ℕ
pack [] = []
pack (a ∷ []) = three_of a padding padding padding
pack (a ∷ b ∷ []) = three_of a b padding padding
pack (a ∷ b ∷ c ∷ []) = three_of a b c padding
pack (a ∷ b ∷ c ∷ d ∷ t) = three_of a b c d ++ pack t

-- All codes that bytes hold, those of the padding too; bytes that are no whole group hold none.
unfoldable pub unpack : List ℕ → List ℕ
unpack [] = []
unpack (x ∷ []) = []
unpack (x ∷ y ∷ []) = []
unpack (x ∷ y ∷ z ∷ s) = four_of x y z ++ unpack s

-- How many bytes n codes take.
unfoldable pub packed_size : ℕ → ℕ
packed_size n = (n + 3) / 4 * 3

-- The n codes that bytes hold: the padding is none of them.
unfoldable pub codes_in : ℕ → List ℕ → List ℕ
codes_in n s = take n (unpack s)
