-- The editor, lent as much as it is given, puts the edited text and refuses nothing.
use Rattle.speak.proofs.Texts.{edit_part, edit_written}
use Rattle.speak.proofs.text.edit_read.Goals as goal

pub unwrap-requires : goal.unwrap-requires
unwrap-requires c = rw (edit_written c.args.m.now c.edit.ensures c.requires)

pub returns : goal.returns
returns c =
    let p = edit_part c.args.m.now c.edit.ensures c.requires c.unwrap.ensures in
    record { prefix_len = (p.within, p.size); plain_after = p.bytes }
