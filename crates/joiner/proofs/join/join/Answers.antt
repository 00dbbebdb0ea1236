-- The refusals come in the definition's order, and else the second tape is written, which is as long as the message's.
use Rattle.laws.proofs.Kit.{◌≡◌, sym, ◌∙◌, rules}
use Rattle.spec.specs.{Refusals.check_of, Answers.join_answer}
use Rattle.message.proofs.Answering.{answered_refused}
use Rattle.joiner.proofs.Answering.{join_cut, join_short, tape_due, join_written}
use Rattle.joiner.proofs.join.join.Goals as goal
use Rattle.joiner.proofs.join.join.Goals.{After-check_cuts, In_ok-check_cuts}
use Rattle.joiner.specs.Writing.{cuts_checked}
use Rattle.std.proofs.lemmas.Result.{err_from_is_err_and}
use Rattle.std.proofs.Common.{Ok}

-- the check accepted and the list is good
accepted : (c : After-check_cuts) → check_of c.args.m.now ≡ Ok c.in-Ok.counts
accepted c = sym c.check-checked.ensures.answer ∙ c.in-Ok.is

good : (c : In_ok-check_cuts) → cuts_checked c.args.m.now c.args.cuts.now ≡ Ok tt
good c = sym c.check_cuts.ensures ∙ c.in_ok-check_cuts.was

pub write_joined-counted-requires : goal.write_joined-counted-requires
write_joined-counted-requires c = tape_due _ _ _ (accepted (goal.at.write_joined-counted-requires c).After-check_cuts)
    (good (goal.at.write_joined-counted-requires c).In_ok-check_cuts) c.if-out-n.false (λ j. search rules)

pub returns : goal.returns
returns c =
    let j = c.write_joined-counted in
    join_written _ _ _ (accepted (goal.at.returns c).After-check_cuts) (good (goal.at.returns c).In_ok-check_cuts)
    c.if-out-n.false _ j.new.out j.result j.ensures

pub returns-in_default : goal.returns-in_default
unfolding join_answer
returns-in_default c = rw (c.refused.ensures, c.check-checked.ensures.answer) (answered_refused _ _ (sym c.check-checked.ensures.answer ∙ c.in_default.is))

pub returns-in_err-check_cuts : goal.returns-in_err-check_cuts
returns-in_err-check_cuts c =
    let p = err_from_is_err_and c.from_residual.result c.from_residual.ensures.1 in
    let bad = sym c.check_cuts.ensures ∙ c.in_err-check_cuts.was in
    rw (p.1, p.2) (join_cut _ _ _ (accepted (goal.at.returns-in_err-check_cuts c).After-check_cuts) _ bad)

pub returns-then-out-n : goal.returns-then-out-n
returns-then-out-n c = join_short _ _ _ (accepted (goal.at.returns-then-out-n c).After-check_cuts)
    (good (goal.at.returns-then-out-n c).In_ok-check_cuts) _ c.if-out-n.true
