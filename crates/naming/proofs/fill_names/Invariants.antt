-- The invariant says that the names from the place on are in the output, and how the run of the levels stands there; each turn puts the
-- names of one byte before them.
use Rattle.stress.specs.Levels.{LevelsAt}
use Rattle.naming.specs.Names.{names_at, name_piece}
use Rattle.letters.proofs.Filling.{Writing}
use Rattle.naming.proofs.fill_names.Given as goal

abbrev pub invariant-loop-i : goal.invariant-loop-i
invariant-loop-i l =
    Writing (λ j. LevelsAt l.m j l.v.levels) l.m (names_at l.m) (name_piece l.m) l.n l.initial.out l.out l.n l.i l.v.at
