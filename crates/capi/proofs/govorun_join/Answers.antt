-- The joiner has said what it must, in numbers that are small; what is said in 32 bits is the same, of the edition that the caller names.
use Rattle.laws.proofs.Bounds.{join_small}
use Rattle.capi.proofs.govorun_join.Goals as goal

pub say-requires : goal.say-requires
say-requires c = rw c.join.ensures.answer (join_small _ _ _ _)

pub returns : goal.returns
returns c =
    record {
      answer = c.join.result;
      promise = rw c.edition_of.ensures at c.join.ensures;
      said = c.say.ensures;
    }
