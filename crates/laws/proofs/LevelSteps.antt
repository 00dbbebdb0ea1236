-- How many steps find the levels of a message: the bytes that words' ends look back over are apart from each other, so no byte is stepped
-- over more than twice.
use Rattle.laws.proofs.Kit.{ℕ, zero, suc, ◌+◌, ◌≤◌, ◌≡◌, refl, List, arith, length, get_or}
use Rattle.spec.specs.Letters.{is_break, is_mark}
use Rattle.spec.specs.LevelSteps.{back_at, back_to, level_steps, Unmarked, StepsSuffice}
use Rattle.laws.proofs.Classes.{either}

-- the bytes looked back over from a place and from the breaks before it are no more than all before it
pub back_most : (m : List ℕ) (i : ℕ) → back_at m i + back_to m i ≤ i
unfolding back_at back_to
back_most m zero = omega arith
back_most m (suc i) =
    let h = back_most m i in
    either (is_break (get_or m i 0)) (λ b. rw b (omega (arith, h)))
    (λ b. either (is_mark (get_or m i 0)) (λ k. rw (b, k) (omega (arith, h))) (λ k. rw (b, k) (omega (arith, h))))

-- and where there is no mark they are all of them
back_all : (m : List ℕ) → Unmarked m → (i : ℕ) → back_at m i + back_to m i ≡ i
unfolding back_at back_to
back_all m u zero = refl
back_all m u (suc i) =
    let h = back_all m u i in
    either (is_break (get_or m i 0)) (λ b. rw b (omega (arith, h))) (λ b. rw (b, u i) (omega (arith, h)))

-- so two steps for each byte suffice
pub steps_suffice : (m : List ℕ) → StepsSuffice m
unfolding level_steps
steps_suffice m =
    let h = back_most m (length m) in
    record { four = omega (arith, h); two = omega (arith, h); most = λ u. omega (arith, back_all m u (length m)) }
