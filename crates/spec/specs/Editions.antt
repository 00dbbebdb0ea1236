-- Paper 02, request 8: the two editions of a tape. What the passes make of a message are its
-- sounds, the same in both; an edition is how the sounds are read as codes. Edition 1 is the
-- reading of paper 01. Edition 2, the newer, has И1 where the rows of е, я and а have Э1.
-- Assumes nothing: these are definitions.
use Rattle.std.specs.Prelude.{ℕ, cond, eqb}
use Rattle.spec.specs.Codes.{Э1, И1, ИЭ}
use Rattle.spec.specs.declared.Edition.{Edition}
use Rattle.spec.specs.declared.Edition.TheVariants.{One, Two}

-- the code of the reduced vowel of е, я and а
unfoldable pub reduced : Edition → ℕ
reduced One = Э1
reduced Two = И1

-- the code of a sound or a mark: each but that vowel is its own code
unfoldable pub code_in : Edition → ℕ → ℕ
code_in e c = cond (eqb c ИЭ) (reduced e) c
