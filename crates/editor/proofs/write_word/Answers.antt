-- The word is copied, and the break that the run behind it becomes is put behind it.
use Rattle.laws.proofs.Kit.{arith}
use Rattle.editor.proofs.Walking.{goes_word, piece_put}
use Rattle.editor.proofs.write_word.Goals as goal

pub returns : goal.returns
returns c =
    let e = c.copy_word-word.ensures in
    let f = c.read_run-run.ensures in
    (goes_word _ e.value f, piece_put _ e.value f (omega (arith, e.value, c.requires.1)) e.put)
