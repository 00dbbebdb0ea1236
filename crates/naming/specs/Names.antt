-- The names from a place of a message on, as a walk from the right leaves them, and what the walk
-- knows there. These are not the paper's words: `proofs/` shows that they agree with them.
-- Assumes nothing: these are definitions.
use Rattle.std.specs.Prelude.{ℕ, ◌≤◌, List, [], ◌∷◌, ◌++◌, drop, length, get_or, ◌≡◌, true, cond}
use Rattle.spec.specs.Letters.{Message, last, more, read, is_break}
use Rattle.spec.specs.Syllables.{Facts, names_from, incomplete, name_of}
use Rattle.spec.specs.Tape.{names_of, names}
use Rattle.stress.specs.Places.{Left, left_at, facts_at, syllable_at}
use Rattle.spec.specs.Refusals.{vowel_byte}
use Rattle.letters.specs.Places.{last_at, Steady}
use Rattle.letters.specs.Classes.{class_of, is_vowel_class}
use Rattle.stress.specs.Levels.{LevelsAt}
use Rattle.naming.specs.declared.NameState.{NameState}
use Rattle.letters.specs.Filling.{MayStep, DidStep}

-- the names of the rest of a word and of what follows it
unfoldable pub tail_names_of : Left → Facts → Message → List ℕ
tail_names_of l facts (last w) = names_from facts l.p w
tail_names_of l facts (more w x r) = names_from facts l.p w ++ names_of r

unfoldable pub names_at : List ℕ → ℕ → List ℕ
names_at m i = tail_names_of (left_at m i) (facts_at m i) (read (drop i m))

-- the names that the byte at place i settles: a vowel's, and at a break the incomplete one's of the
-- word before
unfoldable pub name_piece : List ℕ → ℕ → List ℕ
name_piece m i =
    cond (is_break (get_or m i 0)) (incomplete (last_at m i))
    (cond (vowel_byte (get_or m i 0)) (name_of (syllable_at m i) ∷ []) [])

-- the walk that writes the names
abbrev pub NameReady : List ℕ → List ℕ → ℕ → NameState → Type 0
NameReady m out i v = MayStep (λ j. LevelsAt m j v.levels) (name_piece m i) m out i v.at

abbrev pub Named : List ℕ → List ℕ → List ℕ → ℕ → NameState → NameState → Type 0
Named m out out' i v q = DidStep (λ j. LevelsAt m j q.levels) (name_piece m i) out out' i v.at q.at

-- at a vowel
pub record VowelNamed (m out : List ℕ) (i : ℕ) (v : NameState) : Type 0 where
  pub ready : NameReady m out i v
  pub vowel : is_vowel_class (class_of (get_or m i 0)) ≡ true

-- at the end of a word, where there is room for an incomplete syllable's name
pub record WordEnd (m out : List ℕ) (i at : ℕ) : Type 0 where
  pub within : i ≤ length m
  pub steady : Steady m
  pub room : length (incomplete (last_at m i)) ≤ at
  pub place : at ≤ length out

-- all n names of m may be written at the start of the output
pub record NamesDue (m out : List ℕ) (n : ℕ) : Type 0 where
  pub steady : Steady m
  pub total : n ≡ length (names m)
  pub room : n ≤ length out
