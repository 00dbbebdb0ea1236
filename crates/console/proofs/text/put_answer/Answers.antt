-- The transcriber is lent as many codes as any tape has, so it answers the tape or a refusal of the message; each has room in the text.
use Rattle.laws.proofs.Kit.{◌≤◌, arith, ◌≡◌, refl, sym, ◌∙◌, [], length}
use Rattle.spec.specs.{Tape.tape, Answers.tape_answer, Printed.printed_answer}
use Rattle.spec.specs.declared.Edition.TheVariants.{One}
use Rattle.console.proofs.Texts.{answer_refused, Spoken, answer_written}
use Rattle.console.proofs.text.put_answer.Goals as goal
use Rattle.std.proofs.Common.{Err}
use Rattle.console.proofs.text.put_answer.Goals.{In-Ok, In-Err}

-- the codes that are printed
written : (c : In-Ok) → Spoken c.args.m.now c.transcribe.new.out c.in-Ok.w.length
written c = answer_written c.args.m.now refl c.transcribe.ensures c.in-Ok.is c.transcribe.auto.out

-- a refusal is short, and its text is the answer's
refused : (c : In-Err) → let text = printed_answer (Err c.in-Err.r) [] in
    (printed_answer (tape_answer One c.args.m.now 8192) (tape One c.args.m.now) ≡ text) × (length text ≤ 20)
refused c = answer_refused c.args.m.now _ (sym c.in-Err.is ∙ c.transcribe.ensures.answer)

pub slice_bounds-codes-end : goal.slice_bounds-codes-end
slice_bounds-codes-end c = omega (arith, (written (goal.at.slice_bounds-codes-end c).In-Ok).short, c.transcribe.auto.out)

pub slice_bounds-put_codes-end : goal.slice_bounds-put_codes-end
slice_bounds-put_codes-end c = sym (written (goal.at.slice_bounds-put_codes-end c).In-Ok).size

pub put_codes-requires : goal.put_codes-requires
put_codes-requires c = let w = written (goal.at.put_codes-requires c).In-Ok in omega (arith, w.short, w.size)

pub put_refusal-requires : goal.put_refusal-requires
put_refusal-requires c = omega (arith, (refused (goal.at.put_refusal-requires c).In-Err).1)

pub returns-in-Ok : goal.returns-in-Ok
returns-in-Ok c =
    let w = written (goal.at.returns-in-Ok c).In-Ok in
    record {
      appended = rw w.text c.put_codes.ensures.appended;
      upper_bound = omega (arith, c.put_codes.ensures.upper_bound, w.short, w.size);
    }

pub returns-in-Err : goal.returns-in-Err
returns-in-Err c =
    let f = refused (goal.at.returns-in-Err c).In-Err in
    record { appended = rw f.0 c.put_refusal.ensures; upper_bound = omega (arith, c.put_refusal.ensures.place, f.1) }
