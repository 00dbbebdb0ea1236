-- The check's refusal is answered, then the book's, then a buffer that is too short; and else the record is written behind the book.
use Rattle.laws.proofs.Kit.{◌≤◌, ◌≡◌, sym, ◌∙◌, arith, length}
use Rattle.spec.specs.{Tape.sounds, Refusals.check_of}
use Rattle.laws.proofs.{Accepted.accepted_counts, Accepted.accepted_passes, Sizes.tape_size}
use Rattle.book.proofs.Promised.{add_unchecked, add_refused, add_short, add_written}
use Rattle.std.proofs.lemmas.Result.{err_from_is_err_and}
use Rattle.std.proofs.Common.{Ok}
use Rattle.book.proofs.adding.append.Goals as goal
use Rattle.book.proofs.adding.append.Goals.{In_ok-counts}

-- the message is accepted
accepted : (c : In_ok-counts) → check_of c.args.addition.message.now ≡ Ok c.in_ok-counts.counts
accepted c = sym c.check.ensures.answer ∙ c.in_ok-counts.was

-- with as many codes as its tape, which are few
counted : (c : In_ok-counts) → c.in_ok-counts.counts.codes ≡ length (sounds c.args.addition.message.now)
counted c = (accepted_counts c.args.addition.message.now c.in_ok-counts.counts (accepted c)).0

few : (c : In_ok-counts) → c.in_ok-counts.counts.codes ≤ 8192
few c =
    let m = c.args.addition.message.now in
    omega (arith, counted c, tape_size m, (accepted_passes m c.in_ok-counts.counts (accepted c)).short)

pub returns-in_err-counts : goal.returns-in_err-counts
returns-in_err-counts c =
    let p = err_from_is_err_and c.from_residual.result c.from_residual.ensures.1 in
    rw (p.1, p.2) (add_unchecked _ _ _ (sym c.check.ensures.answer ∙ c.in_err-counts.was))

pub returns-in_err-judge : goal.returns-in_err-judge
returns-in_err-judge c =
    let p = err_from_is_err_and c.from_residual-in_err-judge.result c.from_residual-in_err-judge.ensures.1 in
    let a = accepted (goal.at.returns-in_err-judge c).In_ok-counts in
    rw (p.1, p.2) (add_refused _ _ _ a c.book_end-end.ensures c.judge.ensures c.in_err-judge.was)

pub overflow_add-total-2 : goal.overflow_add-total-2
overflow_add-total-2 c = omega (arith, c.book_end-end.ensures.inside, few (goal.at.overflow_add-total-2 c).In_ok-counts)

pub returns-then-buffer-total : goal.returns-then-buffer-total
returns-then-buffer-total c =
    let a = accepted (goal.at.returns-then-buffer-total c).In_ok-counts in
    add_short _ _ _ a c.book_end-end.ensures c.judge.ensures c.in_ok-judge.was c.if-buffer-total.true

pub write_record-length-requires : goal.write_record-length-requires
write_record-length-requires c =
    let p = (goal.at.write_record-length-requires c).In_ok-counts in
    record {
      counts = c.in_ok-counts.counts;
      accepted = accepted p;
      codes = counted p;
      few = omega (arith, few p);
      number = omega arith;
      room = c.if-buffer-total.false;
    }

pub returns : goal.returns
returns c =
    let a = accepted (goal.at.returns c).In_ok-counts in
    let h = c.if-buffer-total.false in
    add_written _ _ _ a c.book_end-end.ensures c.judge.ensures c.in_ok-judge.was h c.write_record-length.ensures
