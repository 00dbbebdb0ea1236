-- The end of the last word is settled before the loop.
use Rattle.laws.proofs.Kit.{◌≡◌, ◌∙◌, arith}
use Rattle.laws.proofs.Putting.{put_rest, put_first_lem}
use Rattle.letters.proofs.Filling.{writing_ready, writing_more}
use Rattle.stress.proofs.Levelling.{levels_done, levels_taken}
use Rattle.naming.proofs.{Namings.end_ends, Namings.naming_none, Names.names_start}
use Rattle.naming.proofs.fill_names.Goals as goal

pub returns : goal.returns
returns c =
    let l = c.loop-i in
    let e : l.i ≡ 0 = omega arith in
    let k = rw (e, names_start c.args.m.now c.requires.steady) at l.invariant.put in (
      rw (put_rest _ _ _ _ _ c.requires.room c.put_end-at.ensures) at (put_first_lem _ _ _ _ _ c.requires.total k),
      c.steps_taken.ensures ∙ levels_done (rw e at l.invariant.stands),
    )

pub put_end-at-requires : goal.put_end-at-requires
put_end-at-requires c = end_ends c.requires

pub loop-i-init : goal.loop-i-init
loop-i-init c = naming_none c.requires (rw c.at_word_end.ensures at c.look_back-levels.ensures) c.put_end-at.ensures

pub step-v-requires : goal.step-v-requires
step-v-requires c = writing_ready c.loop-i.invariant c.loop-i-test.true

pub loop-i-preserved : goal.loop-i-preserved
loop-i-preserved c = writing_more c.loop-i.invariant c.loop-i-test.true c.step-v.ensures

pub steps_taken-requires : goal.steps_taken-requires
steps_taken-requires c = levels_taken c.requires.steady c.loop-i.invariant.stands
