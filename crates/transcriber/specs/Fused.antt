-- All five passes of a word as one recursion over its letters as written, from the right, as the
-- code goes. These are not the paper's words: `proofs/Fused.antt` shows that they agree with the
-- passes one after the other.
-- Assumes nothing: these are definitions.
use Rattle.std.specs.Prelude.{ℕ, Bool, false, cond, List, [], ◌∷◌, ◌++◌}
use Rattle.spec.specs.Letters.{Letter, first_byte, is_sign, is_vowel}
use Rattle.spec.specs.Elision.{elides}
use Rattle.spec.specs.Syllables.{Facts, syllable_of}
use Rattle.spec.specs.Phones.{softens}
use Rattle.vowels.specs.VowelSounds.{vowel_codes}
use Rattle.consonants.specs.Following.{Following, following}
use Rattle.consonants.specs.Sounds.{consonant_code}

-- the codes of the letter l after p and before w, whose sounds are told by f
unfoldable pub letter_codes : Bool → Facts → ℕ → Letter → List Letter → Following → List ℕ
letter_codes hard facts p l w f =
    cond (elides p l.byte w) []
    (cond (is_sign l.byte) []
    (cond (is_vowel l.byte) (vowel_codes hard p l.byte (syllable_of facts p l w))
    (consonant_code l.byte (softens (first_byte w)) f ∷ [])))

-- the codes of w, the rest of a word after the letter p as written
unfoldable pub fused_from : Bool → Facts → Bool → ℕ → List Letter → List ℕ
fused_from hard facts next p [] = []
fused_from hard facts next p (l ∷ w) =
    let t = fused_from false facts next l.byte w in
    letter_codes hard facts p l w (following next t) ++ t
