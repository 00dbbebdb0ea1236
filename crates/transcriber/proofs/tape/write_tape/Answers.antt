-- An accepted message is steady, so the walk puts the tape and counts the steps.
use Rattle.laws.proofs.Kit.{arith, rules}
use Rattle.laws.proofs.{Accepted.accepted_passes, LevelSteps.steps_suffice}
use Rattle.letters.proofs.Steadiness.{accepted_steady}
use Rattle.transcriber.proofs.tape.write_tape.Goals as goal

pub walk-r-requires : goal.walk-r-requires
walk-r-requires c =
    let p = c.requires in
    record {
      steady = accepted_steady _ p.counts p.accepted (λ j. search rules);
      room = p.room;
      place = p.place;
    }

pub steps_taken-requires : goal.steps_taken-requires
steps_taken-requires c =
    let p = c.requires in let m = c.args.m.now in
    omega (arith, c.walk-r.ensures.1, (steps_suffice m).two, (accepted_passes m p.counts p.accepted).short)
