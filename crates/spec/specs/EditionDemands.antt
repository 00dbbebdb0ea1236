-- What holds of the two editions of a tape (paper 02, request 8). `both_editions` of crate laws
-- proves it. The demands of paper 00 hold in each edition: Demands has them. The statement here
-- does without the sound ИЭ: it speaks of the two tapes, and of the letters that made their codes.
-- Assumes nothing: these are definitions.
use Rattle.std.specs.Prelude.{ℕ, suc, ◌≡◌, Bool, cond, ◌&&◌, ◌||◌, List, [], ◌∷◌, ◌++◌, eqb, length}
use Rattle.std.specs.Prelude.{take, drop, get_or, replicate}
use Rattle.spec.specs.Alphabet.{«а», «е», «я»}
use Rattle.spec.specs.Letters.{Letter, Message, last, more, read, is_gap}
use Rattle.spec.specs.Tables.{among}
use Rattle.spec.specs.Codes.{Э1, И1}
use Rattle.spec.specs.Elision.{elide}
use Rattle.spec.specs.Counting.{sound_count}
use Rattle.spec.specs.Voicing.{voices}
use Rattle.spec.specs.Tape.{tape}
use Rattle.spec.specs.Joints.{word_before, ends_in_obstruent, live_by_hardness, is_live}
use Rattle.spec.specs.declared.Edition.{Edition}
use Rattle.spec.specs.declared.Edition.TheVariants.{One, Two}

-- The makers of the codes of w, the rest of a word without its silent letters, after the letter p:
-- for each code the letter that made it. A sign makes none, and a vowel with a glide makes both.
unfoldable pub makers_from : ℕ → List Letter → List ℕ
makers_from p [] = []
makers_from p (l ∷ w) = replicate (sound_count p l.byte) l.byte ++ makers_from l.byte w

-- the makers of the codes of a message read: a break makes its mark
unfoldable pub makers_of : Message → List ℕ
makers_of (last w) = makers_from 0 (elide w)
makers_of (more w x r) = makers_from 0 (elide w) ++ (x ∷ makers_of r)

-- the makers of the codes of a message
unfoldable pub makers : List ℕ → List ℕ
makers m = makers_of (read m)

-- the letters whose Э1 the newer edition reads as И1
abbrev pub reducing : List ℕ
reducing = «е» ∷ «я» ∷ «а» ∷ []

-- the newer edition of a code c of edition 1 that b made
unfoldable pub newer : ℕ → ℕ → ℕ
newer b c = cond (among reducing b && eqb c Э1) И1 c

-- the newer edition of a tape of edition 1, given the makers of its codes
unfoldable pub newer_of : List ℕ → List ℕ → List ℕ
newer_of [] t = []
newer_of (b ∷ bs) [] = []
newer_of (b ∷ bs) (c ∷ t) = newer b c ∷ newer_of bs t

-- Paper 01, 'Joints': is the cut at place c live, as the tape of an edition tells it?
unfoldable pub live_in : Edition → List ℕ → ℕ → Bool
live_in e m c =
    is_gap (get_or m c 0)
    && ((ends_in_obstruent (word_before m c)
    && voices (drop (suc (length (tape e (take c m)))) (tape e m)))
    || live_by_hardness m c)

-- Both editions of an accepted message m.
pub record BothEditions (m : List ℕ) : Type 0 where
  -- each code has its maker
  pub made : length (makers m) ≡ length (tape One m)
  -- the two tapes have equal length
  pub lengths : length (tape Two m) ≡ length (tape One m)
  -- edition 2 has И1 at just the places where edition 1 has Э1 and е, я or а made it
  pub differ : tape Two m ≡ newer_of (makers m) (tape One m)
  -- whether a cut is live does not depend on the edition
  pub live : (e : Edition) (c : ℕ) → live_in e m c ≡ is_live m c
