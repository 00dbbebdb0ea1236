-- How long a tape and a naming can be: a letter makes at most two codes and one name, a break one code, and a message has no more letters
-- and breaks than bytes.
use Rattle.laws.proofs.Kit.{ℕ, suc, ◌+◌, ◌*◌, ◌≤◌, ◌≡◌, refl, ap, Bool, true, false, ◌&&◌, ◌||◌, List, [], ◌∷◌, ◌++◌, arith, length}
use Rattle.laws.proofs.Kit.{length-append}
use Rattle.spec.specs.Letters.{Letter, Message, last, more, read, put_letter, is_gap, is_break, is_mark, is_sign, is_vowel, is_consonant}
use Rattle.spec.specs.Letters.{plain_vowels, softening_vowels}
use Rattle.spec.specs.Syllables.{Facts, facts_of, incomplete, names_from}
use Rattle.spec.specs.Tape.{word_tape, segment, sounds, word_names, names_of, names}
use Rattle.spec.specs.{Elision.elides, Elision.elide_from, Elision.elide, Phones.phones_from, Vowels.ends_hard, Voicing.voices}
use Rattle.spec.proofs.Computed.{everything}
use Rattle.laws.proofs.{Classes.cond_both, Classes.either, Classes.among_same, Word.phones_cases, Word.sounds_length}

-- the letters and breaks of a message
abbrev pub size_of : Message → ℕ
size_of (last w) = length w
size_of (more w x r) = suc (length w + size_of r)

-- a letter more
put_size : (l : Letter) (r : Message) → size_of (put_letter l r) ≡ suc (size_of r)
unfolding put_letter
put_size l (last w) = refl
put_size l (more w x r) = omega arith

-- are no more than its bytes
pub read_size : (m : List ℕ) → size_of (read m) ≤ length m
unfolding read
read_size [] = omega arith
read_size (b ∷ m) =
    let h = read_size m in
    either (is_break b) (λ q. rw q (omega arith)) (λ q. rw q
    (either (is_mark b) (λ t. rw t (omega arith)) (λ t. rw (t, put_size) (omega arith))))

-- pass 1 only takes letters away
elide_size : (p : ℕ) (w : List Letter) → length (elide_from p w) ≤ length w
unfolding elide_from
elide_size p [] = omega arith
elide_size p (l ∷ w) =
    let r = elide_size l.byte w in
    cond_both (λ v. length v ≤ suc (length w)) (elides p l.byte w) {x = elide_from l.byte w} {y = l ∷ elide_from l.byte w} (omega arith)
    (omega arith)

-- a letter makes at most two sounds
phones_size : (hard : Bool) (facts : Facts) (p : ℕ) (w : List Letter) → length (phones_from hard facts p w) ≤ 2 * length w
unfolding phones_from
phones_size hard facts p [] = omega arith
phones_size hard facts p (l ∷ w) =
    let h = phones_size false facts l.byte w in
    phones_cases (λ xs. length (xs ++ phones_from false facts l.byte w) ≤ 2 * suc (length w)) hard facts p l w (λ _. omega arith)
    (λ _ _. (omega arith, omega arith)) (λ _ _. omega arith)

word_size : (hard next : Bool) (w : List Letter) → length (word_tape hard next w) ≤ 2 * length w
unfolding word_tape elide
word_size hard next w =
    omega (
      arith,
      sounds_length next (phones_from hard (facts_of w) 0 (elide_from 0 w)),
      phones_size hard (facts_of w) 0 (elide_from 0 w),
      elide_size 0 w,
    )

segment_size : (hard next : Bool) (r : Message) → length (segment hard next r) ≤ 2 * size_of r
unfolding segment
segment_size hard next (last w) = word_size hard next w
segment_size hard next (more w x r) =
    let k = is_gap x && ends_hard w in
    simp length-append (omega (arith, word_size hard (is_gap x && voices (segment k next r)) w, segment_size k next r))

-- So a tape is at most twice as long as its message.
pub tape_size : (m : List ℕ) → length (sounds m) ≤ 2 * length m
unfolding sounds
tape_size m = omega (arith, segment_size false false (read m), read_size m)

-- a word that ends in a vowel has no incomplete syllable
vowel_complete : (b : ℕ) → is_vowel b ≡ true → incomplete b ≡ []
unfolding everything
vowel_complete b h = among_same incomplete (λ _. []) (plain_vowels ++ softening_vowels) b refl h

-- one that does not has one
incomplete_one : (p : ℕ) → length (incomplete p) ≤ 1
unfolding incomplete
incomplete_one p = cond_both (λ (v : List ℕ). length v ≤ 1) (is_consonant p || is_sign p) (omega arith) (omega arith)

-- a word's names are no more than its letters: a letter that is no vowel names nothing but an incomplete syllable
names_from_size : (facts : Facts) (p : ℕ) (w : List Letter) → length (names_from facts p w) ≤ length w + length (incomplete p)
unfolding names_from
names_from_size facts p [] = omega arith
names_from_size facts p (l ∷ w) =
    let h = names_from_size facts l.byte w in
    either (is_vowel l.byte) (λ v. rw v (omega (arith, ap length (vowel_complete l.byte v))))
    (λ v. rw v (omega (arith, incomplete_one l.byte)))

word_names_size : (w : List Letter) → length (word_names w) ≤ length w
unfolding everything
word_names_size w = omega (arith, names_from_size (facts_of w) 0 (elide_from 0 w), elide_size 0 w)

names_of_size : (r : Message) → length (names_of r) ≤ size_of r
unfolding names_of
names_of_size (last w) = word_names_size w
names_of_size (more w x r) = simp length-append (omega (arith, word_names_size w, names_of_size r))

-- A message has no more names than bytes.
pub names_size : (m : List ℕ) → length (names m) ≤ length m
unfolding names
names_size m = omega (arith, names_of_size (read m), read_size m)
