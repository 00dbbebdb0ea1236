-- The class of each byte, by which the code judges it, and the letters beside a place. These are
-- not the paper's words: `proofs/` shows that they agree with them.
-- Assumes nothing: these are definitions.
use Rattle.std.specs.Prelude.{ℕ, zero, suc, ◌+◌, ◌%◌, Bool, cond, ◌||◌, List, [], ◌∷◌, eqb, leb}
use Rattle.std.specs.Prelude.{get_or}
use Rattle.spec.specs.Alphabet.{gap, pause, «д», «и», «н», «о», «с», «т», «ц», «ч», «ш», «ъ», «ь»}
use Rattle.spec.specs.Tables.{among}
use Rattle.spec.specs.Letters.{between, small, is_mark, is_hard_only, is_paired, is_soft_only}
use Rattle.spec.specs.Letters.{is_vowel}
use Rattle.spec.specs.{Elision.elides_among, Vowels.iotated}

-- The classes, as numbers; 0 is that of a byte which no message may have. Signs, consonants and
-- vowels are ranges, and the vowels that palatalize come last. A stress mark
abbrev pub mark_class : ℕ
mark_class = 1

-- a gap
abbrev pub gap_class : ℕ
gap_class = 2

-- a pause
abbrev pub pause_class : ℕ
pause_class = 3

-- ъ
abbrev pub hard_sign_class : ℕ
hard_sign_class = 4

-- ь
abbrev pub soft_sign_class : ℕ
soft_sign_class = 5

-- the hard-only consonants
abbrev pub hard_only_class : ℕ
hard_only_class = 6

-- the paired ones, but for т and д
abbrev pub paired_class : ℕ
paired_class = 7

-- т and д, which may be elided
abbrev pub t_or_d_class : ℕ
t_or_d_class = 8

-- the soft-only consonants
abbrev pub soft_only_class : ℕ
soft_only_class = 9

-- the other vowels, а у ы э
abbrev pub plain_vowel_class : ℕ
plain_vowel_class = 10

-- о
abbrev pub vowel_o_class : ℕ
vowel_o_class = 11

-- е ё ю я
abbrev pub iotated_class : ℕ
iotated_class = 12

-- и
abbrev pub vowel_i_class : ℕ
vowel_i_class = 13

-- the class of a small letter; 0 for no letter
unfoldable pub letter_class : ℕ → ℕ
letter_class s =
    cond (eqb s «ъ») hard_sign_class
    (cond (eqb s «ь») soft_sign_class
    (cond (is_hard_only s) hard_only_class
    (cond (eqb s «т» || eqb s «д») t_or_d_class
    (cond (is_paired s) paired_class
    (cond (is_soft_only s) soft_only_class
    (cond (eqb s «о») vowel_o_class
    (cond (among iotated s) iotated_class
    (cond (eqb s «и») vowel_i_class
    (cond (is_vowel s) plain_vowel_class 0)))))))))

-- how many classes there are
abbrev pub class_count : ℕ
class_count = 14

-- the class of a byte
unfoldable pub class_of : ℕ → ℕ
class_of b =
    cond (is_mark b) mark_class
    (cond (eqb b gap) gap_class (cond (eqb b pause) pause_class (letter_class (small b))))

abbrev pub is_break_class : ℕ → Bool
is_break_class c = between gap_class pause_class c

abbrev pub is_sign_class : ℕ → Bool
is_sign_class c = between hard_sign_class soft_sign_class c

abbrev pub is_consonant_class : ℕ → Bool
is_consonant_class c = between hard_only_class soft_only_class c

-- a consonant's or a sign's, which covers a syllable
abbrev pub is_covering_class : ℕ → Bool
is_covering_class c = between hard_sign_class soft_only_class c

abbrev pub is_vowel_class : ℕ → Bool
is_vowel_class c = between plain_vowel_class vowel_i_class c

abbrev pub is_softening_class : ℕ → Bool
is_softening_class c = leb iotated_class c

abbrev pub is_letter_class : ℕ → Bool
is_letter_class c = leb hard_sign_class c

abbrev pub class_at : List ℕ → ℕ → ℕ
class_at m i = class_of (get_or m i 0)

-- f at i, i + 1, .., n places
unfoldable pub tabulate : (ℕ → ℕ) → ℕ → ℕ → List ℕ
tabulate f i zero = []
tabulate f i (suc n) = f i ∷ tabulate f (suc i) n

-- the code's table of classes
unfoldable pub classes : List ℕ
classes = tabulate class_of 0 256

-- the small letter of the byte at place i; 0 past the end
unfoldable pub letter_at : List ℕ → ℕ → ℕ
letter_at m i = small (get_or m i 0)

-- the byte before place i; a pause at the start of the message
unfoldable pub byte_before : List ℕ → ℕ → ℕ
byte_before m zero = pause
byte_before m (suc i) = get_or m i 0

-- is the letter at place i silent, judged by the bytes beside it?
unfoldable pub elided_at : List ℕ → ℕ → Bool
elided_at m i =
    elides_among (small (byte_before m i)) (letter_at m i) (letter_at m (i + 1)) (letter_at m (i + 2))

-- the letters before which one may be elided
abbrev pub follows_elided : ℕ → Bool
follows_elided c = eqb c «с» || (eqb c «н» || (eqb c «ч» || (eqb c «ц» || eqb c «ш»)))

-- the bytes of т and д
abbrev pub is_t_or_d : ℕ → Bool
is_t_or_d b = eqb b «т» || (eqb b 0xD2 || (eqb b «д» || eqb b 0xC4))

-- the small letter of a byte among а to я; 0 for any other byte, ё too
abbrev pub fold_of : ℕ → ℕ
fold_of b = cond (leb 0xC0 b) (b % 32 + 0xE0) 0

-- how many codes the byte at place i loses by elision
abbrev pub silent_at : List ℕ → ℕ → ℕ
silent_at m i = cond (elided_at m i) 1 0
