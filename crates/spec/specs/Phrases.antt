-- Paper 01, the paragraph on bytes and messages: a phrase is what lies between pauses.
-- Assumes nothing: these are definitions.
use Rattle.std.specs.Prelude.{ℕ, cond, List, [], ◌∷◌, ◌++◌, eqb}
use Rattle.spec.specs.Alphabet.{pause}

-- a byte put before the first of some phrases
unfoldable pub put_byte : ℕ → List (List ℕ) → List (List ℕ)
put_byte b [] = (b ∷ []) ∷ []
put_byte b (f ∷ fs) = (b ∷ f) ∷ fs

-- the phrases of a message's bytes: a pause ends one, and no phrase has it
unfoldable pub phrases : List ℕ → List (List ℕ)
phrases [] = [] ∷ []
phrases (b ∷ m) = cond (eqb b pause) ([] ∷ phrases m) (put_byte b (phrases m))

-- lists one after the other, with a number between neighbours: phrases with the pause's byte, tapes
-- with its mark
unfoldable pub separated : ℕ → List (List ℕ) → List ℕ
separated x [] = []
separated x (f ∷ []) = f
separated x (f ∷ g ∷ fs) = f ++ (x ∷ separated x (g ∷ fs))
