-- The counts of codes and names letter by letter are the lengths of the tape and of the naming, for every message: passes 4 and 5 give each
-- sound one code, and pass 1 takes away only letters that are then counted none and change nothing about the letter after them.
use Rattle.laws.proofs.Kit.{ℕ, ◌+◌, ◌≡◌, refl, ap, ◌∙◌, Bool, false, cond, ◌&&◌, List, [], ◌∷◌, ◌++◌}
use Rattle.laws.proofs.Kit.{arith, length, length-append, map, sym}
use lib.ListN.{length-map, replicate, length-replicate}
use Rattle.spec.specs.Alphabet.{«е», «ё», «и», «о», «ю», «я»}
use Rattle.spec.specs.Letters.{Letter, Message, last, more, read, plain_vowels, softening_vowels, is_gap, is_sign, is_vowel}
use Rattle.spec.specs.Elision.{elide_from, elide}
use Rattle.spec.specs.Syllables.{Facts, facts_of, cover_after, syllable_of, names_from}
use Rattle.spec.specs.Vowels.{glides, ends_hard}
use Rattle.spec.specs.Phones.{Phone, vowel_phones, phones_of, phones_from}
use Rattle.spec.specs.Tape.{word_tape, segment, sounds, word_names, names_of, names}
use Rattle.spec.specs.Counting.{sound_count, codes_left, names_left, code_count_from, name_count_from, code_count, name_count}
use Rattle.spec.specs.{Tables.among, Voicing.voices, declared.Cover.Cover}
use Rattle.laws.proofs.Classes.{either, among_none}
use Rattle.laws.proofs.{Elided.elide_cases, Elided.phones_free, Elided.names_elide, Word.sounds_length}

-- a letter that is no vowel has no glide
no_glide : (p : ℕ) (cover : Cover) (b : ℕ) → is_vowel b ≡ false → glides p cover b ≡ false
unfolding glides is_vowel among
no_glide p cover b n =
    let other = among_none (plain_vowels ++ softening_vowels) b in
    rw (other «е» n refl, other «ё» n refl, other «ю» n refl, other «я» n refl, other «и» n refl, other «о» n refl)

-- a letter that stays makes each of its sounds, which are as many as are counted
pub letter_makers : (hard : Bool) (facts : Facts) (p : ℕ) (l : Letter) (w : List Letter)
    → map (λ (x : Phone). x.letter) (phones_of hard facts p l w) ≡ replicate (sound_count p l.byte) l.byte
unfolding phones_of vowel_phones sound_count syllable_of
letter_makers hard facts p l w = either (is_sign l.byte) (λ s. rw s) (λ s. rw s (either (is_vowel l.byte)
    (λ v. rw v (either (glides p (cover_after p) l.byte) (λ g. rw g) (λ g. rw g)))
    (λ v. rw (v, no_glide p (cover_after p) l.byte v))))

letter_count : (hard : Bool) (facts : Facts) (p : ℕ) (l : Letter) (w : List Letter)
    → length (phones_of hard facts p l w) ≡ sound_count p l.byte
letter_count hard facts p l w =
    sym (length-map (phones_of hard facts p l w) (λ (x : Phone). x.letter)) ∙ ap length (letter_makers hard facts p l w)
    ∙ length-replicate (sound_count p l.byte) l.byte

-- the sounds of the rest of a word after pass 1 are as many as are counted of its letters as written
phones_count : (hard : Bool) (facts : Facts) (p : ℕ) (w : List Letter) → length (phones_from hard facts p (elide_from p w)) ≡ codes_left p w
unfolding elide_from phones_from codes_left
phones_count hard facts p [] = refl
phones_count hard facts p (l ∷ w) =
    let s = phones_count false facts l.byte w in
    elide_cases (λ t v. length (phones_from hard facts p v) ≡ cond t 0 (sound_count p l.byte) + codes_left l.byte w) p l w
    (λ g n. rw (phones_free hard false facts p l.byte (elide_from l.byte w) n) (omega (arith, s)))
    (rw (length-append, letter_count hard facts p l (elide_from l.byte w), s))

-- so are the codes of a word
word_count : (hard next : Bool) (w : List Letter) → length (word_tape hard next w) ≡ codes_left 0 w
unfolding word_tape elide
word_count hard next w = sounds_length next _ ∙ phones_count hard (facts_of w) 0 w

-- and of a stretch of a message
segment_count : (hard next : Bool) (r : Message) → length (segment hard next r) ≡ code_count_from 0 r
unfolding segment code_count_from
segment_count hard next (last w) = word_count hard next w
segment_count hard next (more w x r) =
    let k = is_gap x && ends_hard w in
    rw (length-append, word_count hard (is_gap x && voices (segment k next r)) w, segment_count k next r)

-- The tape of every message is as long as its codes are counted.
pub tape_count : (m : List ℕ) → length (sounds m) ≡ code_count m
unfolding sounds code_count
tape_count m = segment_count false false (read m)

-- the names of the rest of a word are as many as are counted
names_left_lem : (facts : Facts) (p : ℕ) (w : List Letter) → length (names_from facts p w) ≡ names_left p w
unfolding names_from names_left
names_left_lem facts p [] = refl
names_left_lem facts p (l ∷ w) =
    let s = names_left_lem facts l.byte w in
    either (is_vowel l.byte) (λ v. rw v (omega (arith, s))) (λ v. rw v (omega (arith, s)))

-- pass 1 changes no name, so those of a word are, too
word_names_count : (w : List Letter) → length (word_names w) ≡ names_left 0 w
unfolding word_names elide
word_names_count w = ap length (names_elide (facts_of w) 0 w) ∙ names_left_lem (facts_of w) 0 w

-- and those of a message read
names_of_count : (r : Message) → length (names_of r) ≡ name_count_from 0 r
unfolding names_of name_count_from
names_of_count (last w) = word_names_count w
names_of_count (more w x r) = rw (length-append, word_names_count w, names_of_count r)

-- The naming of every message is as long as its names are counted.
pub names_count : (m : List ℕ) → length (names m) ≡ name_count m
unfolding names name_count
names_count m = names_of_count (read m)
