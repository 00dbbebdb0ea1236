-- The codes of a tape. Every letter of an accepted message is one of the alphabet, so each code of its words is a sound, 1 to 13 or 16 to
-- 56, and the marks on its tape are those of its breaks.
use Rattle.laws.proofs.Kit.{ℕ, suc, ◌+◌, ◌-◌, ◌<◌, ◌≡◌, refl, sym, ap, ◌∙◌, Bool, true, false, cond, not, ◌&&◌, ◌||◌, map, eqb}
use Rattle.laws.proofs.Kit.{and_parts, and-true, or-false, true≢false, List, [], ◌∷◌, ◌++◌, arith, length, take, drop, get_or}
use Rattle.laws.proofs.Kit.{length-take, length-drop, take-length, get_or-take, get_or-drop, not-false}
use Rattle.spec.specs.Letters.{Letter, Message, last, more, read, put_letter, hard_only, paired, soft_only, plain_vowels, softening_vowels}
use Rattle.spec.specs.Letters.{obstruents, is_gap, is_break, is_mark, is_paired, is_consonant, is_sign, is_vowel, is_obstruent}
use mathlib.Core.List.{map-append}
use Rattle.spec.specs.Alphabet.{«а», «и», «э»}
use Rattle.spec.specs.Codes.{J, Э1, mark_of, is_mark_code, is_sound_code, is_sound, is_code}
use Rattle.spec.specs.Syllables.{Facts, facts_of, syllable_of, name_in, name_of, is_name, incomplete, names_from}
use Rattle.spec.specs.Vowels.{vowel_sound, ends_hard}
use Rattle.spec.specs.Phones.{Phone, written_code, phones_from}
use Rattle.spec.specs.Voicing.{Tone, voiced, voiceless, asWritten, voiced_code, voiceless_code, voices, tone_of, toned, codes_of, voice_one}
use Rattle.spec.specs.Voicing.{voice}
use Rattle.spec.specs.{Editions.code_in, EditionDemands.reducing, declared.Edition.Edition}
use Rattle.spec.specs.Tape.{word_tape, segment, sounds, tape, word_names, names_of, names}
use Rattle.spec.specs.Refusals.{consonant_byte, sign_byte, vowel_byte, letter_byte, row3, rows, fits_in, NoneFits}
use Rattle.spec.specs.Joints.{joined_from, joined, marks_of, break_marks}
use Rattle.spec.specs.{Tables.among, Elision.elides, Elision.elide_from, Elision.elide, Palatalization.is_soft, Palatalization.palatalize}
use Rattle.spec.specs.{declared.Cover.Cover, declared.Cover.TheVariants.Bare, declared.Cover.TheVariants.Covered}
use Rattle.spec.specs.{declared.Syllable.Syllable, declared.Level.Level, declared.Level.TheVariants.Stressed}
use Rattle.spec.specs.{declared.Level.TheVariants.First, declared.Level.TheVariants.Second}
use Rattle.spec.proofs.Computed.{everything}
use Rattle.laws.proofs.Classes.{cond_both, mark_both, cond_app, cond_same, either, refuted, among_same, vowel_single, vowel_quiet}
use Rattle.laws.proofs.Classes.{EachOf, each_append}
use Rattle.laws.proofs.Editions.{sound_code, own_code, mark_own}
use Rattle.laws.proofs.{Word.phones_cases, Accepted.Passes, Accepted.none_passes}
use Rattle.laws.specs.Beside.{is_voiced}
use Rattle.std.specs.List.{AllZip}
use Rattle.std.proofs.lemmas.List.Elements.{All-from_recursion, All-get_or}

-- a claim on each code of a tape, or on each name
abbrev pub Each : (ℕ → Bool) → List ℕ → Type 0
Each f t = EachOf (λ c. f c ≡ true) t

pub each_at : (f : ℕ → Bool) (t : List ℕ) (j : ℕ) → Each f t → j < length t → f (get_or t j 0) ≡ true
each_at f t j s h = All-get_or (λ c. f c ≡ true) t j 0 h (All-from_recursion (λ c. f c ≡ true) t s)

-- a letter of the alphabet
unfoldable pub spells : ℕ → Bool
spells b = is_consonant b || (is_sign b || is_vowel b)

-- a word of such letters
abbrev pub Spelled : List Letter → Type 0
Spelled w = EachOf (λ (l : Letter). spells l.byte ≡ true) w

-- pass 1 only takes letters away
pub elide_spelled : (p : ℕ) (w : List Letter) → Spelled w → Spelled (elide_from p w)
unfolding elide_from
elide_spelled p [] s = tt
elide_spelled p (l ∷ w) s = let r = elide_spelled l.byte w s.1 in cond_both Spelled (elides p l.byte w) r (s.0, r)

-- The code c of a letter b passes a test, and so does its palatalized one where the letter has one.
unfoldable pub both : (ℕ → Bool) → ℕ → ℕ → Bool
both f b c = f c && (not (is_paired b) || f (suc c))

-- pass 5: only a letter that has a palatalized sound is palatalized
pub soft_both : (f : ℕ → Bool) (x : Phone) (n c : ℕ) → both f x.letter c ≡ true → f (cond (is_soft x n) (suc c) c) ≡ true
unfolding both is_soft
soft_both f x n c h =
    let e = and_parts (f c) _ h in
    either (is_soft x n) (λ s. rw s (rw (and_parts (is_paired x.letter) _ s).0 at e.1)) (λ s. rw s e.0)

-- The letter b may make the sound c: ИЭ is made by а, е and я alone, and they make no Э1.
unfoldable pub makes : ℕ → ℕ → Bool
makes b c = cond (among reducing b) (is_sound c && not (eqb c Э1)) (is_sound_code c)

-- and the sound is no voiced obstruent's
abbrev plain : ℕ → ℕ → Bool
plain b c = makes b c && not (is_voiced c)

-- The sound c that pass 3 gives a letter b is one that it makes, and none of a voiced obstruent unless the letter is an obstruent; and so
-- is its palatalized one.
unfoldable pub fine : ℕ → ℕ → Bool
fine b c = both (makes b) b c && (is_obstruent b || both (λ x. not (is_voiced x)) b c)

-- each of these sounds is so
abbrev pub Fine : List Phone → Type 0
Fine xs = EachOf (λ (x : Phone). fine x.letter x.code ≡ true) xs

-- a vowel has no palatalized sound and is no obstruent
vowel_fine : (b c : ℕ) → is_vowel b ≡ true → plain b c ≡ true → fine b c ≡ true
unfolding fine both
vowel_fine b c v h = simp (vowel_single b v, vowel_quiet b v, and-true) h

-- pass 3: a vowel makes its sound, whatever stands around it
vowel_plain : (hard : Bool) (p : ℕ) (s : Syllable) (b : ℕ) → is_vowel b ≡ true → plain b (vowel_sound hard p s b) ≡ true
unfolding everything is_sound_code makes
vowel_plain hard p s b h = among_same (λ x. plain x (vowel_sound hard p s x)) (λ _. true) (plain_vowels ++ softening_vowels) b
    (each s.level refl) h
  where
    each : (level : Level) → s.level ≡ level
        → map (λ x. plain x (vowel_sound hard p s x)) (plain_vowels ++ softening_vowels)
        ≡ map (λ _. true) (plain_vowels ++ softening_vowels)
    each Stressed e = rw e (simp (cond_app (plain «и»), cond_same))
    each First e = rw e (simp (cond_app (plain «а»), cond_app (plain «э»), cond_same))
    each Second e = rw e (simp (cond_app (plain «а»), cond_app (plain «э»), cond_same))

pub vowel_makes : (hard : Bool) (p : ℕ) (s : Syllable) (b : ℕ) → is_vowel b ≡ true → makes b (vowel_sound hard p s b) ≡ true
vowel_makes hard p s b h = (and_parts (makes b (vowel_sound hard p s b)) _ (vowel_plain hard p s b h)).0

-- so the sound of another vowel than а, е and я is its own code
pub vowel_own : (e : Edition) (hard : Bool) (p : ℕ) (s : Syllable) (b : ℕ) → is_vowel b ≡ true → among reducing b ≡ false
    → code_in e (vowel_sound hard p s b) ≡ vowel_sound hard p s b
unfolding makes
vowel_own e hard p s b h n = own_code e (vowel_sound hard p s b) (rw n at (vowel_makes hard p s b h))

-- a glide is made by any vowel
glide_plain : (b : ℕ) → plain b J ≡ true
unfolding makes is_sound_code
glide_plain b = simp cond_same

-- what a letter makes is a sound
pub made_sound : (b c : ℕ) → makes b c ≡ true → is_sound c ≡ true
unfolding makes
made_sound b c h = either (among reducing b) (λ q. (and_parts (is_sound c) _ (rw q at h)).0) (λ q. rw (rw q at h))

-- a consonant's sound as written
written_fine : (b : ℕ) → is_consonant b ≡ true → fine b (written_code b) ≡ true
unfolding everything is_sound_code makes fine both
written_fine b h = among_same (λ x. fine x (written_code x)) (λ _. true) (hard_only ++ paired ++ soft_only) b refl h

-- pass 3, over a word: a letter of the alphabet is a sign, a vowel or a consonant
phones_fine : (hard : Bool) (facts : Facts) (p : ℕ) (w : List Letter) → Spelled w → Fine (phones_from hard facts p w)
unfolding phones_from spells is_sound_code
phones_fine hard facts p [] s = tt
phones_fine hard facts p (l ∷ w) s =
    let r = phones_fine false facts l.byte w s.1 in
    phones_cases (λ xs. Fine (xs ++ phones_from false facts l.byte w)) hard facts p l w (λ _. r)
    (λ v _. let x = vowel_fine l.byte _ v (vowel_plain hard p (syllable_of facts p l w) l.byte v) in
    ((vowel_fine l.byte J v (glide_plain l.byte), (x, r)), (x, r)))
    (λ v n. (written_fine l.byte (rw (n, v, or-false) at s.0), r))

pub word_fine : (hard : Bool) (w : List Letter) → Spelled w → Fine (phones_from hard (facts_of w) 0 (elide w))
unfolding elide
word_fine hard w s = phones_fine hard (facts_of w) 0 (elide_from 0 w) (elide_spelled 0 w s)

-- pass 4: an obstruent's sound before any other
toned_made : (tone : Tone) (b c : ℕ) → is_obstruent b ≡ true → both (makes b) b c ≡ true → both (makes b) b (toned tone b c) ≡ true
unfolding everything is_sound_code makes both
toned_made voiced b c h f = among_same (λ x. both (makes x) x (voiced_code x)) (λ _. true) obstruents b refl h
toned_made voiceless b c h f = among_same (λ x. both (makes x) x (voiceless_code x)) (λ _. true) obstruents b refl h
toned_made asWritten b c h f = f

-- a claim on each sound and the letter that made it
abbrev pub EachBy : (ℕ → ℕ → Bool) → List ℕ → List ℕ → Type 0
EachBy f bs t = AllZip (λ b c. f b c ≡ true) bs t

each_by : (f : ℕ → ℕ → Bool) (g : ℕ → Bool) → ((b c : ℕ) → f b c ≡ true → g c ≡ true) → (bs t : List ℕ) → EachBy f bs t → Each g t
each_by f g h [] [] s = tt
each_by f g h [] (c ∷ t) s = absurd s
each_by f g h (b ∷ bs) [] s = absurd s
each_by f g h (b ∷ bs) (c ∷ t) s = (h b c s.0, each_by f g h bs t s.1)

-- the letters of sounds
abbrev pub letters_of : List Phone → List ℕ
letters_of xs = map (λ (x : Phone). x.letter) xs

-- passes 4 and 5, over a word
fine_made : (next : Bool) (xs : List Phone) → Fine xs → EachBy makes (letters_of xs) (palatalize (voice next xs))
unfolding palatalize voice voice_one fine
fine_made next [] f = tt
fine_made next (x ∷ xs) f =
    let s = (and_parts (both (makes x.letter) x.letter x.code) _ f.0).0 in
    let t = toned_made (tone_of next (codes_of (voice next xs))) x.letter x.code in
    (soft_both (makes x.letter) _ _ _ (either (is_obstruent x.letter) (λ q. rw q (t q s)) (λ q. rw q s)), fine_made next xs f.1)

-- Every sound of a word of the alphabet's letters is one that its letter makes.
pub word_made : (hard next : Bool) (w : List Letter) → Spelled w
    → EachBy makes (letters_of (phones_from hard (facts_of w) 0 (elide w))) (word_tape hard next w)
unfolding word_tape
word_made hard next w s = fine_made next (phones_from hard (facts_of w) 0 (elide w)) (word_fine hard w s)

pub word_sounds : (hard next : Bool) (w : List Letter) → Spelled w → Each is_sound (word_tape hard next w)
word_sounds hard next w s =
    each_by makes is_sound made_sound (letters_of (phones_from hard (facts_of w) 0 (elide w))) (word_tape hard next w)
    (word_made hard next w s)

-- a message of such words
abbrev pub Spells : Message → Type 0
Spells (last w) = Spelled w
Spells (more w x r) = Spelled w × Spells r

put_spells : (l : Letter) (r : Message) → spells l.byte ≡ true → Spells r → Spells (put_letter l r)
unfolding put_letter
put_spells l (last w) s r = (s, r)
put_spells l (more w x q) s r = ((s, r.0), r.1)

-- number 3 fits no byte, so each letter is one of the alphabet
pub read_spells : (m : List ℕ) → ((i : ℕ) → i < length m → row3 [] (get_or m i 0) [] ≡ false) → Spells (read m)
unfolding read row3 letter_byte consonant_byte sign_byte vowel_byte spells
read_spells [] n = tt
read_spells (b ∷ m) n =
    let r = read_spells m (λ i l. n (suc i) (omega arith)) in
    either (is_break b) (λ q. rw q (tt, r)) (λ q. rw q (either (is_mark b) (λ t. rw t r) (λ t.
    rw t (put_spells _ (read m) (not-false _ (rw (q, t, or-false) at (n 0 (omega arith)))) r))))

-- so it is in every stretch of an accepted message
pub part_spells : (m : List ℕ) → Passes m → (a n : ℕ) → Spells (read (take n (drop a m)))
unfolding fits_in rows row3
part_spells m p a n =
    read_spells (take n (drop a m)) (λ i l.
    let k = simp (length-take, length-drop) at l in
    rw (get_or-take n (drop a m) i 0 (omega arith), get_or-drop) (p.rows (a + i) (omega arith) 3))

-- a sound is no mark of a break, so sounds have no mark among them
sounds_unmarked : (s : List ℕ) → Each is_sound s → marks_of s ≡ []
unfolding marks_of is_mark_code is_sound_code among
sounds_unmarked [] h = refl
sounds_unmarked (c ∷ s) h =
    rw (refuted (is_mark_code c) (λ q. true≢false (sym h.0 ∙ among_same is_sound (λ _. false) (0 ∷ 63 ∷ []) c refl (simp or-false q))))
    (sounds_unmarked s h.1)

-- and a break's mark is one
pub marks_mark : (x : ℕ) (t : List ℕ) → marks_of (mark_of x ∷ t) ≡ mark_of x ∷ marks_of t
unfolding marks_of is_mark_code
marks_mark x t = mark_both (λ c. marks_of (c ∷ t) ≡ c ∷ marks_of t) x refl refl

-- the marks of a message's breaks
unfoldable pub marks_in : Message → List ℕ
marks_in (last w) = []
marks_in (more w x r) = mark_of x ∷ marks_in r

pub read_marks : (m : List ℕ) → marks_in (read m) ≡ break_marks m
unfolding read break_marks marks_in put_letter
read_marks [] = refl
read_marks (b ∷ m) = simp (cond_app marks_in, put, cond_same, read_marks m)
  where
    put : (l : Letter) (r : Message) → marks_in (put_letter l r) ≡ marks_in r
    put l (last w) = refl
    put l (more w x r) = refl

-- marks of tapes laid end to end
pub marks_append : (s t : List ℕ) → marks_of (s ++ t) ≡ marks_of s ++ marks_of t
unfolding marks_of
marks_append [] t = refl
marks_append (c ∷ s) t = rw (marks_append s t) (sym (cond_app (λ (x : List ℕ). x ++ marks_of t) (is_mark_code c) _ _))

-- the marks on the tape of a stretch
segment_marks : (h n : Bool) (r : Message) → Spells r → marks_of (segment h n r) ≡ marks_in r
unfolding segment marks_in
segment_marks h n (last w) s = sounds_unmarked _ (word_sounds h n w s)
segment_marks h n (more w x r) s =
    rw (marks_append, sounds_unmarked _ (word_sounds h _ w s.0), marks_mark, segment_marks (is_gap x && ends_hard w) n r s.1)

-- The marks on the tape of bytes are those of their breaks, in order, whatever stands around them.
pub bytes_marks : (h n : Bool) (p : List ℕ) → Spells (read p) → marks_of (segment h n (read p)) ≡ break_marks p
bytes_marks h n p s = segment_marks h n (read p) s ∙ read_marks p

-- marks of bytes laid end to end
pub breaks_append : (p q : List ℕ) → break_marks (p ++ q) ≡ break_marks p ++ break_marks q
unfolding break_marks
breaks_append [] q = refl
breaks_append (b ∷ p) q = rw (breaks_append p q) (sym (cond_app (λ (x : List ℕ). x ++ break_marks q) (is_break b) _ _))

-- a stretch without a break is one word, so its codes are sounds
pub segment_sounds : (h n : Bool) (r : Message) → Spells r → marks_in r ≡ [] → Each is_sound (segment h n r)
unfolding segment marks_in
segment_sounds h n (last w) s e = word_sounds h n w s
segment_sounds h n (more w x r) s e = absurd (omega (arith, ap length e))

-- bytes without a break have no break's mark
pub unbroken : (p : List ℕ) → ((i : ℕ) → i < length p → is_break (get_or p i 0) ≡ false) → break_marks p ≡ []
unfolding break_marks
unbroken [] n = refl
unbroken (b ∷ p) n = rw (n 0 (omega arith)) (unbroken p (λ i l. n (suc i) (omega arith)))

-- Of a tape in an edition:
module _ (e : Edition) where
  -- the codes of sounds are codes
  read_codes : (t : List ℕ) → Each is_sound t → Each is_code (map (code_in e) t)
  unfolding is_code
  read_codes [] s = tt
  read_codes (c ∷ t) s = (rw (sound_code e c s.0), read_codes t s.1)

  -- and a break's mark is one
  mark_code : (x : ℕ) → is_code (mark_of x) ≡ true
  unfolding is_code is_sound_code is_mark_code
  mark_code x = mark_both (λ c. is_code c ≡ true) x refl refl

  segment_codes : (h n : Bool) (r : Message) → Spells r → Each is_code (map (code_in e) (segment h n r))
  unfolding segment
  segment_codes h n (last w) s = read_codes (word_tape h n w) (word_sounds h n w s)
  segment_codes h n (more w x r) s =
      let v = is_gap x && voices (segment (is_gap x && ends_hard w) n r) in
      rw (map-append, mark_own) (each_append _ (map (code_in e) (word_tape h v w)) _
      (read_codes (word_tape h v w) (word_sounds h v w s.0)) (mark_code x, segment_codes (is_gap x && ends_hard w) n r s.1))

  -- so are those of each tape of an accepted message, whole or in parts
  module _ (m : List ℕ) (p : Passes m) where
    stretch_codes : (a n : ℕ) → Each is_code (tape e (take n (drop a m)))
    unfolding tape sounds
    stretch_codes a n = segment_codes false false (read (take n (drop a m))) (part_spells m p a n)

    joined_codes : (a : ℕ) (cuts : List ℕ) → Each is_code (joined_from (tape e) m a cuts)
    unfolding joined_from
    joined_codes a [] = rw (take-length (drop a m)) at (stretch_codes a (length (drop a m)))
    joined_codes a (c ∷ cuts) = each_append _ (tape e (take (c - a) (drop a m))) _ (stretch_codes a (c - a))
        (mark_code (get_or m c 0), joined_codes (suc c) cuts)

  -- Every code that the joiner writes for an accepted message is a sound's or a mark, and with no cuts that is the transcriber's tape.
  pub codes_written : (m cuts : List ℕ) (i : ℕ) → NoneFits m → i < length (joined e m cuts) → is_code (get_or (joined e m cuts) i 0) ≡ true
  unfolding joined
  codes_written m cuts i f h = each_at is_code (joined e m cuts) i (joined_codes m (none_passes m f) 0 cuts) h

-- each name of a syllable
name_in_lem : (cover : Cover) (level : Level) → is_name (name_in cover level) ≡ true
unfolding is_name name_in
name_in_lem Covered Stressed = refl
name_in_lem Bare Stressed = refl
name_in_lem Covered First = refl
name_in_lem Bare First = refl
name_in_lem Covered Second = refl
name_in_lem Bare Second = refl

names_each : (facts : Facts) (p : ℕ) (w : List Letter) → Each is_name (names_from facts p w)
unfolding names_from incomplete name_of is_name
names_each facts p [] = cond_both (Each is_name) (is_consonant p || is_sign p) (refl, tt) tt
names_each facts p (l ∷ w) = let r = names_each facts l.byte w in cond_both (Each is_name) (is_vowel l.byte) (name_in_lem _ _, r) r

names_of_each : (r : Message) → Each is_name (names_of r)
unfolding names_of word_names
names_of_each (last w) = names_each (facts_of w) 0 (elide w)
names_of_each (more w x r) = each_append _ (names_from (facts_of w) 0 (elide w)) _ (names_each (facts_of w) 0 (elide w)) (names_of_each r)

-- Every name is 1 to 7.
pub names_written : (m : List ℕ) (i : ℕ) → i < length (names m) → is_name (get_or (names m) i 0) ≡ true
unfolding names
names_written m i h = each_at is_name (names m) i (names_of_each (read m)) h
