-- A message that the check accepts has as many names as the check counted, and all of them are put where there is room.
use Rattle.laws.proofs.Kit.{◌≡◌, sym, ◌∙◌, refl, rules, length}
use Rattle.spec.specs.{Refusals.check_of, Tape.names, Answers.name_answer, Answers.after_check, Answers.output_after}
use Rattle.laws.proofs.Accepted.{accepted_counts}
use Rattle.laws.proofs.Promises.{promised}
use Rattle.letters.proofs.Steadiness.{accepted_steady}
use Rattle.message.proofs.Answering.{answered_short, answered_written}
use Rattle.naming.proofs.name.Goals as goal
use Rattle.naming.proofs.name.Goals.{In_ok-n}
use Rattle.std.proofs.Common.{Ok, Err}
use Rattle.std.proofs.lemmas.Result.{err_from_is_err_and}

-- the message is accepted with the counts that were read
accepted : (c : In_ok-n) → check_of c.args.m.now ≡ Ok c.in_ok-n.field-0
accepted c = sym c.check.ensures.answer ∙ c.in_ok-n.was

-- so its names are counted
counted : (c : In_ok-n) → c.in_ok-n.field-0.names ≡ length (names c.args.m.now)
counted c = (accepted_counts c.args.m.now c.in_ok-n.field-0 (accepted c)).1

pub fill_names-requires : goal.fill_names-requires
fill_names-requires c =
    let k = (goal.at.fill_names-requires c).In_ok-n in
    record { steady = accepted_steady c.args.m.now _ (accepted k) (λ j. search rules); total = counted k; room = c.if-out-n.false }

pub returns-in_err-n : goal.returns-in_err-n
unfolding name_answer after_check output_after
returns-in_err-n c =
    let e : check_of c.args.m.now ≡ Err c.in_err-n.field-0.0 = sym c.check.ensures.answer ∙ c.in_err-n.was in
    let p = err_from_is_err_and c.from_residual.result c.from_residual.ensures.1 in
    rw (e, p.1, p.2) (promised _ _ _ _ _ refl refl)

pub returns-then-out-n : goal.returns-then-out-n
unfolding name_answer
returns-then-out-n c =
    let k = (goal.at.returns-then-out-n c).In_ok-n in
    answered_short (accepted k) (counted k) c.if-out-n.true

pub returns : goal.returns
unfolding name_answer
returns c =
    let k = (goal.at.returns c).In_ok-n in
    answered_written (accepted k) (counted k) c.if-out-n.false c.fill_names.ensures.0
