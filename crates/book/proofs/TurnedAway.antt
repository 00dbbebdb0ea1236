-- An addition by anyone but dispatch is turned away, whatever else there is to say against it.
use Rattle.laws.proofs.Kit.{ℕ, ◌≡◌, refl, false, List}
use Rattle.spec.specs.Listeners.{may_write, withheld}
use Rattle.spec.specs.Book.{book_storage, after_listener, NewPhrase, add_answer, AddPromise}
use Rattle.spec.specs.{Answers.output_after, declared.Listener.Listener, declared.Refusal.Refusal}
use Rattle.laws.proofs.Promises.{promised}
use Rattle.std.proofs.Common.{Err}

pub turned_away : (l : Listener) (buffer : List ℕ) (used : ℕ) (x : NewPhrase) (r : Refusal) → may_write l ≡ false → r ≡ withheld
    → AddPromise book_storage l buffer used x buffer (Err r)
unfolding add_answer after_listener output_after
turned_away l buffer used x r e w = rw (e, w) (promised _ _ _ _ _ refl refl)
