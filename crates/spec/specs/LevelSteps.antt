-- Paper 02, request 3: the levels of pass 2 are found by a step that reads at most one byte. How
-- many steps a message takes, and that four for each byte suffice.
-- Assumes nothing: these are definitions.
use Rattle.std.specs.Prelude.{ℕ, zero, suc, ◌+◌, ◌*◌, ◌≤◌, ◌≡◌, false, cond, ◌||◌, List, length}
use Rattle.std.specs.Prelude.{get_or}
use Rattle.spec.specs.Letters.{is_break, is_mark}

-- how many bytes stand before place i, back to the last mark or break, and with it
unfoldable pub back_at : List ℕ → ℕ → ℕ
back_at m zero = 0
back_at m (suc i) = cond (is_break (get_or m i 0) || is_mark (get_or m i 0)) 1 (suc (back_at m i))

-- so many in all before the breaks that stand before place i: those of the words that end there
unfoldable pub back_to : List ℕ → ℕ → ℕ
back_to m zero = 0
back_to m (suc i) = cond (is_break (get_or m i 0)) (back_at m i) 0 + back_to m i

-- The steps that find all levels of m: over each byte one, and at each word's end, which is a break
-- or the message's end, one for each byte back to and with the word's last mark or the break before
-- it.
unfoldable pub level_steps : List ℕ → ℕ
level_steps m = length m + (back_at m (length m) + back_to m (length m))

-- no vowel of the message is marked
abbrev pub Unmarked : List ℕ → Type 0
Unmarked m = (i : ℕ) → is_mark (get_or m i 0) ≡ false

-- four steps for each byte of m suffice, as the request asks; the true bound is two, which every
-- message with no mark takes
pub record StepsSuffice (m : List ℕ) : Type 0 where
  pub four : level_steps m ≤ 4 * length m
  pub two : level_steps m ≤ 2 * length m
  pub most : Unmarked m → level_steps m ≡ 2 * length m
