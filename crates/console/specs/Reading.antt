-- What was read of bytes that are known, and what is made of it.
-- Assumes nothing: these are definitions.
use Rattle.std.specs.Prelude.{ℕ, ◌<◌, ◌≡◌, List, length, take}
use Rattle.std.specs.Io.KnownBytes.{Consumes, IsAtEnd}
use Rattle.std.specs.Fn.{Once}
use Rattle.std.specs.Borrow.{Bor, MutBor}
use Rattle.std.specs.declared.option.Option.{Option}

-- bytes that were left begin with the first n of the buffer, and lose them
abbrev pub Takes : ℕ → Option (List ℕ) → Option (List ℕ) → List ℕ → Type 0
Takes n old new buffer = Consumes old new (take n buffer)

-- none is left where the buffer has room for one
abbrev pub EndsOrFills : ℕ → Option (List ℕ) → List ℕ → Type 0
EndsOrFills n new buffer = n < length buffer → IsAtEnd new

-- the calls of a function that is lent an input and an array, makes a text at the array's start and
-- answers how long it is
abbrev pub Maker : Type 0 → Type 1
Maker F = Once F (Bor (List ℕ) × (MutBor (List ℕ) × Unit {0})) (ℕ × (MutBor (List ℕ) × Unit {0}))

module _ {F : Type 0} (g : Maker F) (f : F) where
  -- f makes a text of the input, and it is as P says
  pub record Makes (input : List ℕ) (P : List ℕ → Type 0) : Type 0 where
    pub shown : Bor (List ℕ)
    pub shows : shown.now ≡ input
    pub lent : MutBor (List ℕ)
    pub left : MutBor (List ℕ)
    pub size : ℕ
    pub made : g.post f (shown, (lent, tt)) (size, (left, tt))
    pub met : P (take size left.now)
