-- What the tables of the papers are written with: a class is a list of bytes, a table a list of
-- entries, and bytes of ASCII may be quoted.
-- Assumes nothing: these are definitions.
use Rattle.std.specs.Prelude.{ℕ, Bool, true, false, cond, ◌&&◌, ◌||◌, List, [], ◌∷◌, eqb}
use Prim.Native.Char.{code}
use Prim.Native.String as text

infix 40 ◌gives◌
-- is b one of the list?
unfoldable pub among : List ℕ → ℕ → Bool
among [] b = false
among (x ∷ xs) b = eqb b x || among xs b

-- are two lists the same?
unfoldable pub same : List ℕ → List ℕ → Bool
same [] [] = true
same [] (b ∷ t) = false
same (a ∷ s) [] = false
same (a ∷ s) (b ∷ t) = eqb a b && same s t

-- an entry of a table from letters to codes
pub data Entry : Type 0 where
  ◌gives◌ : ℕ → ℕ → Entry

-- what the first entry for b gives; 0, which is no sound, where there is none
unfoldable pub entry : List Entry → ℕ → ℕ
entry [] b = 0
entry ((x gives c) ∷ es) b = cond (eqb b x) c (entry es b)

-- the bytes of a quoted text
unfoldable pub ascii : text.String → List ℕ
ascii text.[] = []
ascii (text.◌∷◌ c s) = code c ∷ ascii s
