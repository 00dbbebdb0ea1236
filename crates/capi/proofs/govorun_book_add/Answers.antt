-- A listener's addition is carried on, and who is no listener is turned away.
use Rattle.laws.proofs.Kit.{refl, sym}
use Rattle.spec.specs.Answers.{output_after}
use Rattle.laws.proofs.Promises.{promised}
use Rattle.capi.proofs.govorun_book_add.Goals as goal

pub returns-in-Some : goal.returns-in-Some
unfolding output_after
returns-in-Some c =
    record {
      answer = c.add.result;
      promise = rw (sym c.in-Some.ensures) (rw c.edition_of.ensures at c.add.ensures);
      said = c.from.ensures;
    }

pub returns-in-None : goal.returns-in-None
unfolding output_after
returns-in-None c =
    record {
      answer = _;
      promise = rw (sym c.in-None.ensures, c.not_for_listener.ensures) (promised _ _ _ _ _ refl refl);
      said = c.from-in-None.ensures;
    }
