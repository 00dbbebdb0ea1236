-- The transcriber has said what it must, in numbers that are small; what is said in 32 bits is the same, of the edition that the caller
-- names.
use Rattle.laws.proofs.Bounds.{tape_small}
use Rattle.capi.proofs.govorun_transcribe.Goals as goal

pub say-requires : goal.say-requires
say-requires c = rw c.transcribe.ensures.answer (tape_small _ _ _)

pub returns : goal.returns
returns c =
    record {
      answer = c.transcribe.result;
      promise = rw c.edition_of.ensures at c.transcribe.ensures;
      said = c.say.ensures;
    }
