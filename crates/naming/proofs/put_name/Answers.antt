-- The class before and the run tell the syllable, and its name is put.
use Rattle.naming.proofs.Namings.{vowel_piece, vowel_room}
use Rattle.naming.proofs.put_name.Goals as goal

pub put-requires : goal.put-requires
put-requires c = let a = c.requires in (vowel_room a.ready a.vowel, a.ready.place)

pub returns : goal.returns
returns c =
    let a = c.requires in
    rw (vowel_piece a.ready a.vowel c.level_of.ensures)
    (rw (c.name_of.ensures, c.syllable_by-s.ensures, c.class_before.ensures) at c.put.ensures)
