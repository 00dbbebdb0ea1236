-- The reader puts what is read, which is edited and spoken; where it refuses, its refusal is put.
use Rattle.laws.proofs.Kit.{◌≤◌, ◌≡◌, ap, ◌∙◌, [], arith, length}
use Rattle.spec.specs.Editing.{edited}
use Rattle.spec.specs.Utf8.{decoded}
use Rattle.spec.specs.Printed.{printed_answer, text_answer}
use Rattle.console.proofs.Texts.{Part}
use Rattle.speak.proofs.Texts.{read_part, read_short, text_spoken, text_refused}
use Rattle.speak.proofs.text.put_read.Goals as goal
use Rattle.speak.proofs.text.put_read.Goals.{In-Ok, In-Err}
use Rattle.std.proofs.Common.{Err}

-- what the reader put
read : (c : In-Ok) → Part (decoded c.args.t.now) c.read_utf8.new.out c.in-Ok.w.length
read c = read_part c.args.t.now c.read_utf8.ensures c.requires.0 c.in-Ok.is

-- what it refused
refused : (c : In-Err)
    → (text_answer c.args.t.now ≡ Err c.in-Err.r) × (length (printed_answer (Err c.in-Err.r) []) ≤ 40)
refused c = text_refused c.args.t.now c.read_utf8.ensures c.requires.0 c.requires.0 c.in-Err.is

pub slice_bounds-read-end : goal.slice_bounds-read-end
slice_bounds-read-end c = (read (goal.at.slice_bounds-read-end c).In-Ok).within

pub slice_bounds-edit_read-end : goal.slice_bounds-edit_read-end
slice_bounds-edit_read-end c = (read (goal.at.slice_bounds-edit_read-end c).In-Ok).size

pub edit_read-n-requires : goal.edit_read-n-requires
edit_read-n-requires c =
    omega (arith, read_short c.args.t.now c.read_utf8.ensures c.requires.0 (read (goal.at.edit_read-n-requires c).In-Ok), c.requires.0)

pub put_refusal-requires : goal.put_refusal-requires
put_refusal-requires c = omega (arith, (refused (goal.at.put_refusal-requires c).In-Err).1, c.requires.1)

pub returns-in-Ok-clause-appended : goal.returns-in-Ok-clause-appended
unfolding printed_answer
returns-in-Ok-clause-appended c =
    let t = c.edit_read-n.ensures.plain_after ∙ ap edited (read (goal.at.returns-in-Ok-clause-appended c).In-Ok).bytes in
    rw (text_spoken c.args.t.now c.read_utf8.ensures c.requires.0 c.in-Ok.is)
    (rw t at c.put_answer.ensures.appended)

pub returns-in-Err : goal.returns-in-Err
unfolding printed_answer
returns-in-Err c =
    let f = refused (goal.at.returns-in-Err c).In-Err in
    record { appended = rw f.0 c.put_refusal.ensures; upper_bound = omega (arith, c.put_refusal.ensures.place, f.1) }
