-- A break puts its mark; what stands left of it is voiceless at a pause, and told by the first sound after it at a gap.
use Rattle.laws.proofs.Kit.{refl, true, false, eq-eqb, ne_eqb}
use Rattle.transcriber.proofs.Walking.{break_room, break_looks, break_steps}
use Rattle.transcriber.proofs.tape.put_break.Goals as goal

pub look_back-levels-requires : goal.look_back-levels-requires
look_back-levels-requires c = let p = c.requires in break_looks p.ready p.passed

pub put-requires : goal.put-requires
put-requires c = let a = c.requires.ready in (break_room a, a.ready.place)

pub returns-then-c-eq-PAUSE : goal.returns-then-c-eq-PAUSE
returns-then-c-eq-PAUSE c =
    let a = c.requires in
    break_steps a.ready true (eq-eqb _ 3 c.if-c-eq-PAUSE.true) refl a.passed c.look_back-levels.ensures c.put.ensures

pub put-requires-2 : goal.put-requires-2
put-requires-2 c = let a = c.requires.ready in (break_room a, a.ready.place)

pub returns : goal.returns
returns c =
    let a = c.requires in
    break_steps a.ready false (ne_eqb _ 3 c.if-c-eq-PAUSE.false) c.sound_over_gap-sound.ensures a.passed c.look_back-levels.ensures c.put-2.ensures
