-- Signed numbers as the machine holds them: a level of the range and its parts fit their type, so what is computed is what is meant.
use Rattle.laws.proofs.Kit.{suc, ◌≡◌, refl, sym, ap, ◌∙◌, ⊎_elim, true, false, true≢false, false≢true, ◌||◌, arith, leb}
use Rattle.laws.proofs.Kit.{le-leb, lt-leb, le-ltb, lt-ltb}
use lib.IntN.{ℤ, pos, negsuc, nat_abs, ◌-ℤ◌}
use lib.Signed.{lt_z}
use mir.Syntax.{w32}
use mir.Val.{SFits, to_z, of_z}
use mir.ValLaws.{to_z-of_z}
use Rattle.spec.specs.SpokenLevels.{InRange}
use Rattle.laws.proofs.Classes.{below_or}

-- what is near zero fits,
pub near_fits : (z : ℤ) → InRange z → SFits w32 z
near_fits (pos n) h = record { sfits = omega arith }
near_fits (negsuc n) h = record { sfits = omega arith }

-- and is read as it was written
pub near_same : (z : ℤ) → InRange z → to_z w32 (of_z w32 z) ≡ z
near_same z h = to_z-of_z w32 z (near_fits z h)

-- two tests tell what is outside the range
pub outside_told : (z : ℤ) → (lt_z z (negsuc 9998) || lt_z (pos 9999) z) ≡ leb 10000 (nat_abs z)
outside_told (pos n) = refl
outside_told (negsuc n) =
    ⊎_elim (λ h. rw (lt-ltb 9998 n h, le-leb 10000 (suc n) (omega arith)))
    (λ h. rw (le-ltb 9998 n h, lt-leb 10000 (suc n) (omega arith))) (below_or 9998 n)

-- below zero the number is turned round,
pub turned : (z : ℤ) → lt_z z (pos 0) ≡ true → pos 0 -ℤ z ≡ pos (nat_abs z)
turned (pos n) e = absurd (false≢true (sym (le-ltb n 0 (omega arith)) ∙ e))
turned (negsuc n) e = ap pos (omega arith)

-- else it is as it was
pub kept : (z : ℤ) → lt_z z (pos 0) ≡ false → z ≡ pos (nat_abs z)
kept (pos n) e = refl
kept (negsuc n) e = absurd (true≢false e)

-- a level whose bits are all 0 is zero
pub zero_told : (z : ℤ) → InRange z → of_z w32 z ≡ 0 → z ≡ pos 0
zero_told z h e = sym (near_same z h) ∙ ap (to_z w32) e
