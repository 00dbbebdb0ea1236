-- The words of a level are those of its sign and of its parts, put from the start on.
use Rattle.laws.proofs.Kit.{ℕ, zero, suc, ◌*◌, ◌/◌, ◌%◌, ◌<◌, ◌≤◌, ◌≡◌, refl, sym, ◌∙◌, true, false, true≢false, false≢true, List, [], ◌∷◌}
use Rattle.laws.proofs.Kit.{◌++◌}
use Rattle.laws.proofs.Kit.{arith, length, le-ltb}
use lib.IntN.{ℤ, pos, negsuc, nat_abs}
use lib.Signed.{lt_z}
use Rattle.spec.specs.SpokenLevels.{bytes, below_hundred, number_words, level_words, spoken}
use Rattle.spec.proofs.Computed.{everything}
use Rattle.laws.proofs.Classes.{below_same}
use Rattle.laws.specs.Putting.{Put}
use Rattle.std.specs.Borrow.{MutBor}
use Rattle.numerals.specs.declared.Words.{Words}
use Rattle.numerals.specs.Placing.{placed, Begins, RoomIn, AddsIn, low_words}
use Rattle.levels.specs.LevelParts.{sign_words, Splits, part_words}
use Rattle.levels.specs.declared.Parts.{Parts}

-- What is spoken of a level: an output that has room for it has room for the level's words where nothing is filled yet,
pub level_room : (level : ℤ) {out : MutBor (List ℕ)} {w : Words} → Begins out w → length (spoken level) ≤ length out.now
    → RoomIn (level_words level) w
unfolding placed spoken
level_room level b h = record { room = record { enough = rw (b.none, b.output) (omega arith) } }

-- and when they are put it is.
pub level_put : (level : ℤ) {out : MutBor (List ℕ)} {w v : Words} {out' : List ℕ} {r : ℕ} → Begins out w → AddsIn (level_words level) w v
    → v.out.now ≡ out' → r ≡ v.length → Put (spoken level) out.now out' r 0
unfolding placed spoken
level_put level b p e f = rw (← e, f) (rw (b.none, b.output) at p.adds.put)

-- the word before a number, by the level's sign
pub sign_below : (level : ℤ) → lt_z level (pos 0) ≡ true → sign_words level ≡ bytes "ми*нус" ∷ []
unfolding sign_words
sign_below (pos n) e = absurd (false≢true (sym (le-ltb n 0 (omega arith)) ∙ e))
sign_below (negsuc n) e = refl

pub sign_above : (level : ℤ) → lt_z level (pos 0) ≡ false → sign_words level ≡ []
unfolding sign_words
sign_above (pos n) e = refl
sign_above (negsuc n) e = absurd (true≢false e)

-- a level that is not zero has this word and the number's
pub sign_words_lem : (level : ℤ) → (level ≡ pos 0 → ⊥) → level_words level ≡ sign_words level ++ number_words (nat_abs level)
unfolding level_words sign_words
sign_words_lem (pos zero) z = absurd (z refl)
sign_words_lem (pos (suc n)) z = refl
sign_words_lem (negsuc n) z = refl

-- tens and units have the words of the number below 100
low_words_lem : (k : ℕ) → k < 100 → low_words (k / 10 * 10) (k % 10) ≡ below_hundred k
unfolding everything low_words
low_words_lem k h = below_same (λ n. low_words (n / 10 * 10) (n % 10)) below_hundred 100 k refl h

-- the words of its parts are the number's
pub parts_words : {n : ℕ} {p : Parts} → Splits n p → part_words p ≡ number_words n
unfolding number_words
parts_words {n} s =
    let u : n % 10 ≡ n % 100 % 10 = omega arith in
    rw (s.thousands, s.hundreds, s.tens, s.units, u, low_words_lem (n % 100) (omega arith)) refl
