-- The check's refusal is answered, then a lent output that is too short; an accepted message is steady and has as many codes as the check counted, so its tape is written.
use Rattle.laws.proofs.Kit.{◌≡◌, sym, ◌∙◌, arith, length}
use Rattle.spec.specs.{Tape.tape, Refusals.check_of, Answers.tape_answer}
use Rattle.laws.proofs.{Accepted.accepted_counts, Editions.tape_length}
use Rattle.message.proofs.Answering.{answered_refused, answered_short, answered_written}
use Rattle.transcriber.proofs.Promised.{tape_first}
use Rattle.transcriber.proofs.tape.transcribe.Goals as goal
use Rattle.transcriber.proofs.tape.transcribe.Goals.{In-Ok}
use Rattle.std.proofs.Common.{Ok}

-- the message is accepted
accepted : (c : In-Ok) → check_of c.args.m.now ≡ Ok c.in-Ok.counts
accepted c = sym c.check-checked.ensures.answer ∙ c.in-Ok.is

-- with as many codes as its tape
counted : (c : In-Ok) → let s = c.args in
    c.in-Ok.counts.codes ≡ length (tape s.e s.m.now)
counted c = let s = c.args in
    (accepted_counts s.m.now c.in-Ok.counts (accepted c)).0 ∙ sym (tape_length s.e s.m.now)

pub write_tape-requires : goal.write_tape-requires
write_tape-requires c =
    let n = c.in-Ok.counts in
    record {
      counts = n;
      accepted = accepted (goal.at.write_tape-requires c).In-Ok;
      room = omega (arith, (accepted_counts _ n (accepted (goal.at.write_tape-requires c).In-Ok)).0);
      place = c.if-out-n.false;
    }

pub returns-in_default : goal.returns-in_default
unfolding tape_answer
returns-in_default c = rw (c.refused.ensures, c.check-checked.ensures.answer) (answered_refused _ _ (sym c.check-checked.ensures.answer ∙ c.in_default.is))

pub returns-then-out-n : goal.returns-then-out-n
unfolding tape_answer
returns-then-out-n c = answered_short (accepted (goal.at.returns-then-out-n c).In-Ok) (counted (goal.at.returns-then-out-n c).In-Ok) c.if-out-n.true

pub returns : goal.returns
unfolding tape_answer
returns c = answered_written (accepted (goal.at.returns c).In-Ok) (counted (goal.at.returns c).In-Ok) c.if-out-n.false (tape_first (counted (goal.at.returns c).In-Ok) c.write_tape.ensures)
