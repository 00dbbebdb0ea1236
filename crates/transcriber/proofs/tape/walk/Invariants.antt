-- The walk so far is carried by one record, to which each step adds the piece of its byte; over the whole message it puts the tape. The measure is the place.
use Rattle.laws.proofs.Kit.{length}
use mathlib.Core.List.{map}
use Rattle.spec.specs.{Editions.code_in, Tape.sounds}
use Rattle.transcriber.specs.{Places.tape_at, Walk.Stands, Walk.piece_at}
use Rattle.letters.proofs.Filling.{Writing}
use Rattle.transcriber.proofs.tape.walk.Given as goal

abbrev pub invariant-loop-i : goal.invariant-loop-i
invariant-loop-i l = Writing (λ j. Stands l.m j l.r) l.m (λ j. map (code_in l.e) (tape_at l.m j)) (λ j. map (code_in l.e) (piece_at l.m j)) (length (sounds l.m)) l.initial.out l.out l.end l.i
    l.r.at
