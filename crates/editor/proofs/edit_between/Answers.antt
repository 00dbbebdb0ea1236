-- An output as long as the text is long enough; a shorter one is held against the length of what is edited.
use Rattle.laws.proofs.Kit.{◌≤◌, ◌≡◌, arith, length}
use Rattle.laws.proofs.Edited.{walk_length}
use Rattle.laws.specs.Edited.{edit_from}
use Rattle.laws.proofs.{Promises.promised_short, Promises.promised_written, Putting.put_first_lem}
use Rattle.editor.proofs.edit_between.Goals as goal

pub returns-then-out-n : goal.returns-then-out-n
returns-then-out-n c = promised_short c.measure-n.ensures 0 c.if-out-n.true

pub write_edited-length-requires : goal.write_edited-length-requires
write_edited-length-requires c =
    (record { last = c.last_word-last.ensures; word = c.requires }, grind (arith, walk_length 0 c.args.text.now))

pub returns : goal.returns
returns c =
    let n : c.write_edited-length.result ≡ length (edit_from 0 c.args.text.now) = omega (arith, c.write_edited-length.ensures.place) in
    let room : length (edit_from 0 c.args.text.now) ≤ length c.args.out.now = grind (arith, walk_length 0 c.args.text.now) in
    promised_written n 0 (omega arith) (put_first_lem _ _ _ _ _ n c.write_edited-length.ensures)
