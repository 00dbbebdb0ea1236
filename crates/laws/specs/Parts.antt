-- The parts of a message, and what a cut at a break changes in them, in terms of the whole
-- message's passes (paper 01, 'Joints').
-- Assumes nothing: these are definitions.
use Rattle.std.specs.Prelude.{ℕ, zero, suc, ◌-◌, ◌≡◌, ◌⊎◌, Bool, true, false, ◌&&◌, List, length}
use Rattle.std.specs.Prelude.{take, drop, get_or}
use Rattle.spec.specs.Letters.{read, first_word, is_gap, is_break}
use Rattle.spec.specs.Joints.{word_before, ends_in_obstruent, begins_with_i_or_e}
use Rattle.spec.specs.{Voicing.voices, Vowels.ends_hard, Tape.segment}

-- the bytes from place a up to place c
abbrev pub part : List ℕ → ℕ → ℕ → List ℕ
part m a c = take (c - a) (drop a m)

-- a part may begin at a: at the message's start, or just after a break
abbrev pub Begins : List ℕ → ℕ → Type 0
Begins m zero = Unit {0}
Begins m (suc c) = is_break (get_or m c 0) ≡ true

-- a part may end at e: at the message's end, or at a break
abbrev pub Ends : List ℕ → ℕ → Type 0
Ends m e = (is_break (get_or m e 0) ≡ true) ⊎ (e ≡ length m)

-- does a hard boundary stand before place a of the whole message?
unfoldable pub hard_at : List ℕ → ℕ → Bool
hard_at m zero = false
hard_at m (suc c) = is_gap (get_or m c 0) && ends_hard (word_before m c)

-- the whole message's tape from place a on
unfoldable pub onward : List ℕ → ℕ → List ℕ
onward m a = segment (hard_at m a) false (read (drop a m))

-- does the whole message voice an obstruent before the break at place c?
unfoldable pub voiced_at : List ℕ → ℕ → Bool
voiced_at m c = is_gap (get_or m c 0) && voices (onward m (suc c))

-- 'Joints', (b): does a hard boundary change the first code from place a on?
unfoldable pub changed_after : List ℕ → ℕ → Bool
changed_after m a = hard_at m a && begins_with_i_or_e (first_word (read (drop a m)))

-- 'Joints', (a): does a voicing sound change the last code before the break at place c?
unfoldable pub changed_before : List ℕ → ℕ → Bool
changed_before m c = voiced_at m c && ends_in_obstruent (word_before m c)
