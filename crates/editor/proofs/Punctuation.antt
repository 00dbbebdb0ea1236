-- The code asks whether a byte is in a list: one for a pause and the marks that become one, one for a gap and its marks. The definition's
-- tests are the same.
use Rattle.laws.proofs.Kit.{ℕ, ◌≡◌, sym, ◌∙◌, true, false, ◌||◌, or_comm, or-true, or-false, true≢false, ◌∷◌, eqb, eqb-true}
use Rattle.spec.specs.{Alphabet.gap, Alphabet.pause, Tables.among, Letters.is_break, Editing.pause_marks, Editing.gap_marks}
use Rattle.spec.specs.{Editing.replaced}
use Rattle.spec.proofs.Computed.{everything}
use Rattle.laws.proofs.Classes.{either}
use Rattle.laws.specs.Edited.{breaks}

-- a byte stands for a break
pub break_told : (b : ℕ) → breaks b ≡ (among (pause ∷ pause_marks) b || among (gap ∷ gap_marks) b)
unfolding replaced is_break among
break_told b = either (among pause_marks b) (λ p. rw (p, or-true (eqb b pause)))
    (λ p. either (among gap_marks b) (λ g. rw (p, g, or-true (eqb b gap), or-true (eqb b pause || false)))
    (λ g. rw (p, g) (simp or-false (or_comm (eqb b gap) (eqb b pause)))))

-- no mark of a gap is a pause
gap_no_pause : (b : ℕ) → among gap_marks b ≡ true → eqb b pause ≡ false
unfolding everything
gap_no_pause b g = either (eqb b pause) (λ e. absurd (true≢false (sym g ∙ rw (eqb-true b pause e)))) (λ e. e)

-- a byte stands for a pause
pub pause_told : (b : ℕ) → eqb (replaced b) pause ≡ among (pause ∷ pause_marks) b
unfolding replaced among
pause_told b = either (among pause_marks b) (λ p. rw (p, or-true (eqb b pause)))
    (λ p. either (among gap_marks b) (λ g. rw (p, g, gap_no_pause b g)) (λ g. rw (p, g) (simp or-false)))
