-- Each turn puts the piece of its byte before the rest; at the start of the message all pieces are the tape.
use Rattle.laws.proofs.Kit.{suc, ◌≡◌, ap, ◌∙◌, arith, length}
use mathlib.Core.List.{map, map-append}
use lib.ListN.{length-map}
use Rattle.spec.specs.{Editions.code_in, Tape.tape}
use Rattle.laws.proofs.Putting.{put_none}
use Rattle.transcriber.specs.{Places.tape_at, Walk.piece_at}
use Rattle.letters.proofs.Filling.{writing_ready, writing_more}
use Rattle.stress.proofs.Levelling.{levels_done, levels_taken}
use Rattle.transcriber.proofs.{Tail.tape_start, Tail.tape_end, Walking.piece_step, Walking.stands_end, Walking.ready_read}
use Rattle.transcriber.proofs.{Walking.ready_begun}
use Rattle.transcriber.proofs.tape.walk.Goals as goal

pub loop-i-init : goal.loop-i-init
loop-i-init c =
    let m = c.args.m.now in
    let e = c.args.e in
    let y = c.requires.steady in
    record {
      pieces = record {
        steady = y;
        step = λ i h. ap (map (code_in e)) (piece_step m y i h) ∙ map-append (code_in e) (piece_at m i) (tape_at m (suc i));
        whole = omega (arith, ap length (tape_start m y), length-map (tape_at m 0) (code_in e));
      };
      stands = stands_end y (rw c.at_word_end.ensures at c.look_back.ensures);
      within = omega arith;
      room = c.requires.room;
      place = c.requires.place;
      put = rw (tape_end m y) (put_none _ _);
    }

pub returns : goal.returns
unfolding tape
returns c =
    let e : c.loop-i.i ≡ 0 = omega (arith, c.loop-i-test.false) in
    (rw (e, tape_start c.args.m.now c.requires.steady) at c.loop-i.invariant.put, levels_done (rw e at c.loop-i.invariant.stands.levels))

pub begun-requires : goal.begun-requires
begun-requires c = levels_taken c.requires.steady c.loop-i.invariant.stands.levels

pub step-r-requires : goal.step-r-requires
step-r-requires c = rw c.begun.ensures (ready_begun (ready_read c.args.e (writing_ready c.loop-i.invariant c.loop-i-test.true)))

pub loop-i-preserved : goal.loop-i-preserved
loop-i-preserved c = writing_more c.loop-i.invariant c.loop-i-test.true (rw c.begun.ensures at c.step-r.ensures)
