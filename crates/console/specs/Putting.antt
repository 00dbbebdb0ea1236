-- What the functions that make the text put into it.
-- Assumes nothing: these are definitions.
use Rattle.std.specs.Prelude.{ℕ, ◌+◌, ◌≤◌, ◌≡◌, cond, List, [], ◌∷◌, ◌++◌, ltb, length, take}
use Rattle.std.specs.Prelude.{get_or}
use Rattle.spec.specs.Printed.{decimal}

-- More was put at place at of the text, and ends at place r; what stood before it stands there
-- still.
pub record Appended (more text text' : List ℕ) (at r : ℕ) : Type 0 where
  pub place : r ≡ at + length more
  pub bytes : take r text' ≡ take at text ++ more

-- the code at place i in decimal, and a space where another follows
abbrev pub code_at : List ℕ → ℕ → List ℕ
code_at codes i = decimal (get_or codes i 0) ++ cond (ltb (i + 1) (length codes)) (32 ∷ []) []

-- The first n bytes of a text lie within it, and are n. The second follows from the first, and
-- spares a caller's `&text[..n]` a proof.
abbrev pub IsPrefixLen : ℕ → List ℕ → Type 0
IsPrefixLen n text = (n ≤ length text) × (n ≡ length (take n text))
