-- How the code puts words: each behind a gap, but for the first.
-- Assumes nothing: these are definitions.
use Rattle.std.specs.Prelude.{ℕ, ◌+◌, ◌<◌, ◌≤◌, ◌≡◌, cond, List, [], ◌∷◌, ◌++◌, eqb, length}
use Rattle.std.specs.Borrow.{MutBor}
use Rattle.spec.specs.SpokenLevels.{units, teens, tens, word_in}
use Rattle.spec.specs.SpokenLevels.{after_gaps, spaced}
use Rattle.laws.specs.Putting.{Put}
use Rattle.numerals.specs.declared.Words.{Words}

-- words as they are put from a place on: at the start there is no gap before the first
unfoldable pub placed : ℕ → List (List ℕ) → List ℕ
placed at words = cond (eqb at 0) (spaced words) (after_gaps words)

-- of an output that was lent nothing is filled
pub record Begins (out : MutBor (List ℕ)) (w : Words) : Type 0 where
  pub same : w.out.ghost_name ≡ out.ghost_name
  pub output : w.out.now ≡ out.now
  pub none : w.length ≡ 0

-- an output has room for words from a place on
pub record Room (words : List (List ℕ)) (out : List ℕ) (at : ℕ) : Type 0 where
  pub enough : at + length (placed at words) ≤ length out

-- after any word the place is no longer the start
abbrev pub Begun : List (List ℕ) → ℕ → Type 0
Begun [] r = Unit {0}
Begun (w ∷ words) r = 0 < r

-- words were put from place at to place r
pub record Adds (words : List (List ℕ)) (out out' : List ℕ) (at r : ℕ) : Type 0 where
  pub put : Put (placed at words) out out' r at
  pub begun : Begun words r

-- an output of which some is filled has room for words behind that
pub record RoomIn (words : List (List ℕ)) (w : Words) : Type 0 where
  pub room : Room words w.out.now w.length

-- words were put there, and it is the same lent output
pub record AddsIn (words : List (List ℕ)) (w w' : Words) : Type 0 where
  pub adds : Adds words w.out.now w'.out.now w.length w'.length
  pub same : w'.out.ghost_name ≡ w.out.ghost_name

-- the words of tens and units: from 10 to 19 one for both
unfoldable pub low_words : ℕ → ℕ → List (List ℕ)
low_words ten unit =
    cond (eqb ten 10) (word_in teens (10 + unit)) (word_in tens ten ++ word_in units unit)
