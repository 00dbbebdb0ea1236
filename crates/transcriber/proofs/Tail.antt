-- The tape from a place on: what the byte there puts before what comes after it. A place's tape is what the walk from the right has written
-- when it stands there.
use Rattle.laws.proofs.Kit.{ℕ, suc, ◌<◌, ◌≡◌, refl, sym, ap, Bool, true, false, ◌&&◌, List, [], ◌∷◌, ◌++◌, append_assoc, append-nil, length}
use Rattle.laws.proofs.Kit.{get_or, drop}
use Rattle.spec.specs.Letters.{Letter, Message, last, more, put_letter, read, first_word, is_mark, is_break, is_gap}
use Rattle.spec.specs.Syllables.{Facts, facts_of}
use Rattle.spec.specs.Voicing.{voices}
use Rattle.spec.specs.Tape.{segment, sounds}
use Rattle.spec.specs.{Codes.mark_of, Vowels.ends_hard_from, Vowels.ends_hard}
use Rattle.letters.specs.Places.{last_at, word_at, letter_of, Steady}
use Rattle.letters.proofs.Left.{mark_within, word_put, read_letter, read_mark, read_break, read_end}
use Rattle.laws.proofs.Stretch.{voices_over_lem}
use Rattle.stress.specs.Places.{Left, left_at, last_but_one_at, hard_at, facts_at}
use Rattle.transcriber.specs.Places.{tail_tape, tail_next, tail_word, tape_at, following_at, codes_at}
use Rattle.transcriber.specs.Fused.{letter_codes, fused_from}
use Rattle.consonants.specs.Following.{following_end, put_before, following, voices_over}
use Rattle.consonants.proofs.Following.{voices_following, put_append}
use Rattle.stress.proofs.Left.{start, after_letter, left_letter, left_mark, left_break}
use Rattle.stress.proofs.Whole.{whole_within, whole_first, whole_after}
use Rattle.transcriber.proofs.Fused.{word_fused}

-- at the start of a word its stretch is the tape of what follows
start_tape : (hard : Bool) (r : Message) → segment hard false r ≡ tail_tape (start hard) (facts_of (first_word r)) r
unfolding segment tail_tape first_word ends_hard
start_tape hard (last w) = word_fused hard false w
start_tape hard (more w x r) = rw (word_fused hard _ w)

-- what stands after the rest of a word
unfoldable pub tail_rest : Left → Message → List ℕ
tail_rest l (last w) = []
tail_rest l (more w x r) = mark_of x ∷ segment (is_gap x && ends_hard_from l.q l.p w) false r

-- the tape is the codes of the rest of the word, and what stands after it
pub word_rest : (l : Left) (facts : Facts) (r : Message) → tail_tape l facts r ≡ tail_word l facts r ++ tail_rest l r
unfolding tail_tape tail_word tail_next first_word tail_rest
word_rest l facts (last w) = sym (append-nil (fused_from l.hard facts false l.p w))
word_rest l facts (more w x r) = refl

module _ (l : Left) (facts : Facts) (x : Letter) where
  -- the left context after the letter x
  abbrev after : Left
  after = after_letter x l

  -- the codes of the letter x before a message
  abbrev put_codes : Message → List ℕ
  put_codes r = letter_codes l.hard facts l.p x (first_word r) (following (tail_next after r) (tail_word after facts r))

  -- a letter put before the rest changes nothing about the word after, nor of what stands after its word
  pub put_after : (r : Message) → (tail_next l (put_letter x r) ≡ tail_next after r) × (tail_rest l (put_letter x r) ≡ tail_rest after r)
  unfolding tail_next tail_rest put_letter ends_hard_from
  put_after (last w) = (refl, refl)
  put_after (more w y r) = (refl, refl)

  -- its codes stand before those of the rest of the word
  pub put_word : (r : Message) → tail_word l facts (put_letter x r) ≡ put_codes r ++ tail_word after facts r
  unfolding tail_word fused_from
  put_word r = rw (word_put x r, (put_after r).0)

  -- so they come before what follows it
  pub put_following : (r : Message) → following (tail_next l (put_letter x r)) (tail_word l facts (put_letter x r))
      ≡ put_before (put_codes r) (following (tail_next after r) (tail_word after facts r))
  put_following r = rw ((put_after r).0, put_word r) (put_append (put_codes r) (tail_word after facts r) (following_end (tail_next after r)))

  -- and stand before the rest's tape
  pub put_tape : (r : Message) → tail_tape l facts (put_letter x r) ≡ put_codes r ++ tail_tape after facts r
  put_tape r = rw (word_rest l facts (put_letter x r), word_rest after facts r, put_word r, (put_after r).1) (append_assoc (put_codes r) (tail_word after facts r) (tail_rest after r))

-- what stands after a word voices nothing in it, being a mark or nothing
voices_word : (l : Left) (cs : List ℕ) (r : Message) → voices (cs ++ tail_rest l r) ≡ voices cs
unfolding tail_rest
voices_word l cs (last w) = rw append-nil
voices_word l cs (more w x r) = voices_over_lem cs (segment (is_gap x && ends_hard_from l.q l.p w) false r) x

-- so a stretch voices as the sounds of its first word do
voices_start : (hard : Bool) (r : Message) → let l = start hard in
    voices (segment hard false r) ≡ voices_over (following (tail_next l r) (tail_word l (facts_of (first_word r)) r))
voices_start hard r =
    let l = start hard in
    let w = tail_word l (facts_of (first_word r)) r in
    rw (start_tape hard r, word_rest l (facts_of (first_word r)) r, voices_word l w r) (voices_following (tail_next l r) w)

module _ (m : List ℕ) (steady : Steady m) where
  -- the whole tape is the tape at the first place
  pub tape_start : tape_at m 0 ≡ sounds m
  unfolding tape_at sounds last_at last_but_one_at hard_at word_at
  tape_start = rw (whole_first m) (sym (start_tape false (read m)))

  -- nothing is left at the end
  pub tape_end : tape_at m (length m) ≡ []
  unfolding tape_at tail_tape fused_from
  tape_end = rw (read_end m)

  -- a letter's codes stand before the rest's
  pub tape_letter : (i : ℕ) → i < length m → is_break (get_or m i 0) ≡ false → is_mark (get_or m i 0) ≡ false → tape_at m i ≡ codes_at m i ++ tape_at m (suc i)
  unfolding tape_at codes_at following_at word_at
  tape_letter i h b k =
      rw (← whole_within m steady i h b, left_letter m i h b k, read_letter m i h b k)
      (put_tape (left_at m i) (facts_at m i) (letter_of m i) (read (drop (suc i) m)))

  -- a mark makes no code
  pub tape_mark : (i : ℕ) → i < length m → is_mark (get_or m i 0) ≡ true → tape_at m i ≡ tape_at m (suc i)
  unfolding tape_at
  tape_mark i h k = rw (← whole_within m steady i h (mark_within (get_or m i 0) k), left_mark m i h k, read_mark m i h k)

  -- a break makes its own
  pub tape_break : (i : ℕ) → i < length m → is_break (get_or m i 0) ≡ true → tape_at m i ≡ mark_of (get_or m i 0) ∷ tape_at m (suc i)
  unfolding tape_at tail_tape fused_from ends_hard_from word_at
  tape_break i h b =
      rw (read_break m i h b, left_break m i h b, whole_after m i b)
      (ap (λ (t : List ℕ). mark_of (get_or m i 0) ∷ t) (start_tape _ (read (drop (suc i) m))))

  -- a letter's codes come before what follows it
  pub following_letter : (i : ℕ) → i < length m → is_break (get_or m i 0) ≡ false → is_mark (get_or m i 0) ≡ false
      → following_at m i ≡ put_before (codes_at m i) (following_at m (suc i))
  unfolding following_at codes_at word_at
  following_letter i h b k =
      rw (← whole_within m steady i h b, left_letter m i h b k, read_letter m i h b k)
      (put_following (left_at m i) (facts_at m i) (letter_of m i) (read (drop (suc i) m)))

  -- a mark changes nothing
  pub following_mark : (i : ℕ) → i < length m → is_mark (get_or m i 0) ≡ true → following_at m i ≡ following_at m (suc i)
  unfolding following_at
  following_mark i h k = rw (← whole_within m steady i h (mark_within (get_or m i 0) k), left_mark m i h k, read_mark m i h k)

  -- before a break the word has no sound left, and over a gap what comes after it voices or not
  pub following_break : (i : ℕ) → i < length m → is_break (get_or m i 0) ≡ true
      → following_at m i ≡ following_end (is_gap (get_or m i 0) && voices_over (following_at m (suc i)))
  unfolding following_at word_at tail_next tail_word fused_from first_word ends_hard_from
  following_break i h b =
      let l = left_break m i h b in
      let p = ap (λ (x : Left). x.p) l in
      let hard = ap (λ (x : Left). x.hard) l in
      rw (read_break m i h b, l, p, hard, whole_after m i b, voices_start)

  -- at the end nothing voices
  pub following_end_lem : following_at m (length m) ≡ following_end false
  unfolding following_at tail_next tail_word fused_from first_word
  following_end_lem = rw (read_end m)
