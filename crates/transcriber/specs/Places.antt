-- The tape from a place of a message on, as a walk from the right leaves it. These are not the
-- paper's words: `proofs/` shows that they agree with them.
-- Assumes nothing: these are definitions.
use Rattle.std.specs.Prelude.{ℕ, suc, Bool, false, ◌&&◌, List, ◌∷◌, ◌++◌, drop}
use Rattle.spec.specs.Letters.{Message, last, more, read, first_word, is_gap}
use Rattle.spec.specs.Codes.{mark_of}
use Rattle.spec.specs.Syllables.{Facts}
use Rattle.spec.specs.Vowels.{ends_hard_from}
use Rattle.spec.specs.Voicing.{voices}
use Rattle.spec.specs.Tape.{segment}
use Rattle.letters.specs.Places.{word_at, letter_of}
use Rattle.stress.specs.Places.{Left, left_at, facts_at}
use Rattle.consonants.specs.Following.{Following, following}
use Rattle.transcriber.specs.Fused.{letter_codes, fused_from}

-- the codes of the rest of a word, w, and of what follows it, after the letters of the left context
unfoldable pub tail_tape : Left → Facts → Message → List ℕ
tail_tape l facts (last w) = fused_from l.hard facts false l.p w
tail_tape l facts (more w x r) =
    let rest = segment (is_gap x && ends_hard_from l.q l.p w) false r in
    fused_from l.hard facts (is_gap x && voices rest) l.p w ++ (mark_of x ∷ rest)

-- the bit of the word after, and the codes of this word's rest alone
unfoldable pub tail_next : Left → Message → Bool
tail_next l (last w) = false
tail_next l (more w x r) =
    is_gap x && voices (segment (is_gap x && ends_hard_from l.q l.p w) false r)

unfoldable pub tail_word : Left → Facts → Message → List ℕ
tail_word l facts r = fused_from l.hard facts (tail_next l r) l.p (first_word r)

-- At a place: the tape from there on, and what follows a letter before it in its word
unfoldable pub tape_at : List ℕ → ℕ → List ℕ
tape_at m i = tail_tape (left_at m i) (facts_at m i) (read (drop i m))

unfoldable pub following_at : List ℕ → ℕ → Following
following_at m i =
    let r = read (drop i m) in
    following (tail_next (left_at m i) r) (tail_word (left_at m i) (facts_at m i) r)

-- the codes that the letter at place i puts before the rest's
unfoldable pub codes_at : List ℕ → ℕ → List ℕ
codes_at m i =
    let l = left_at m i in
    letter_codes l.hard (facts_at m i) l.p (letter_of m i) (word_at m (suc i))
    (following_at m (suc i))
