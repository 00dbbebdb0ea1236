use Rattle.laws.proofs.Kit.{ℕ, ◌<◌, ◌≤◌, ◌≡◌, refl, sym, ◌∙◌, false, true≢false, ⊎_elim, List, add-one, arith, eq-eqb, ne_eqb}
use Rattle.laws.proofs.Kit.{length, List·getD-eq-default, drop-cons, drop_of_length-le}
use Rattle.spec.specs.{Letters.is_break, Joints.row12, Joints.bad_cut_from, Joints.bad_cut}
use Rattle.laws.proofs.Classes.{below_or}
use Rattle.joiner.specs.Writing.{cuts_checked}
use Rattle.joiner.proofs.join.check_cuts.Goals as goal

-- a cut that number 12 does not fit is within the message
within : (m : List ℕ) (least c : ℕ) → row12 m least c ≡ false → c < length m
unfolding row12 is_break
within m least c e = ⊎_elim (λ h. h) (λ (h : length m ≤ c). absurd (true≢false (rw (List·getD-eq-default m 0 h) at e))) (below_or c (length m))

pub loop-k-init : goal.loop-k-init
unfolding bad_cut
loop-k-init c = refl

pub returns-then-is_bad : goal.returns-then-is_bad
unfolding bad_cut_from cuts_checked
returns-then-is_bad c =
    let here = rw (drop-cons {A = ℕ} _ _ 0 c.loop-k-test.true, sym c.is_bad.ensures ∙ c.if-is_bad.true) at c.loop-k.invariant in
    rw (← here, ne_eqb c.loop-k.k (length c.args.cuts.now) (λ e. omega (arith, e, c.loop-k-test.true))) refl

pub overflow_add-least : goal.overflow_add-least
overflow_add-least c = omega (arith, within _ _ _ (sym c.is_bad.ensures ∙ c.if-is_bad.false))

pub loop-k-preserved : goal.loop-k-preserved
unfolding bad_cut_from
loop-k-preserved c = simp add-one (rw (drop-cons {A = ℕ} _ _ 0 c.loop-k-test.true, sym c.is_bad.ensures ∙ c.if-is_bad.false) at c.loop-k.invariant)

pub returns : goal.returns
unfolding bad_cut_from cuts_checked
returns c =
    let all = rw (drop_of_length-le _ c.loop-k-test.false) at c.loop-k.invariant in
    let e : c.loop-k.k ≡ length c.args.cuts.now = omega arith in
    rw (← all, eq-eqb _ _ e) refl
