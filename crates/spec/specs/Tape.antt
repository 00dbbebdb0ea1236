-- Paper 01, with paper 02, request 8: the tape of a message by the five passes, in an edition, and
-- its syllable names.
-- Assumes nothing: these are definitions.
use Rattle.std.specs.Prelude.{ℕ, Bool, false, ◌&&◌, List, ◌∷◌, ◌++◌, map}
use Rattle.spec.specs.Letters.{Letter, Message, last, more, read, is_gap}
use Rattle.spec.specs.Codes.{mark_of}
use Rattle.spec.specs.Editions.{code_in}
use Rattle.spec.specs.declared.Edition.{Edition}
use Rattle.spec.specs.Elision.{elide}
use Rattle.spec.specs.Syllables.{facts_of, names_from}
use Rattle.spec.specs.Vowels.{ends_hard}
use Rattle.spec.specs.Phones.{phones_from}
use Rattle.spec.specs.Voicing.{voices, voice}
use Rattle.spec.specs.Palatalization.{palatalize}

-- A word through passes 1 to 5. Two bits come from its neighbours: hard, a hard boundary stands
-- before it; next, the next word of its phrase voices an obstruent before it.
unfoldable pub word_tape : Bool → Bool → List Letter → List ℕ
word_tape hard next w = palatalize (voice next (phones_from hard (facts_of w) 0 (elide w)))

-- The tape of a stretch of a message, given the same two bits for what stands around it. Nothing
-- crosses a pause. Pass 3's hard boundary: a gap, after a word that ends hard.
unfoldable pub segment : Bool → Bool → Message → List ℕ
segment hard next (last w) = word_tape hard next w
segment hard next (more w x r) =
    let rest = segment (is_gap x && ends_hard w) next r in
    word_tape hard (is_gap x && voices rest) w ++ (mark_of x ∷ rest)

-- the sounds and marks that the passes make of a message, around which nothing stands
unfoldable pub sounds : List ℕ → List ℕ
sounds m = segment false false (read m)

-- the tape of a message in an edition: these, each as its code
unfoldable pub tape : Edition → List ℕ → List ℕ
tape e m = map (code_in e) (sounds m)

-- the names of a word, through passes 1 and 2
unfoldable pub word_names : List Letter → List ℕ
word_names w = names_from (facts_of w) 0 (elide w)

-- pass 2, the naming: the names of all words one after the other; a break has none
unfoldable pub names_of : Message → List ℕ
names_of (last w) = word_names w
names_of (more w x r) = word_names w ++ names_of r

unfoldable pub names : List ℕ → List ℕ
names m = names_of (read m)
