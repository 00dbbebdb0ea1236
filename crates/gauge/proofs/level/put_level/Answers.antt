-- The words are put, and the transcriber's answer for them; where the level is refused, its refusal.
use Rattle.laws.proofs.Kit.{◌≤◌, ◌≡◌, arith, refl, [], length}
use lib.ListN.{replicate}
use mir.Syntax.{w32}
use mir.ValLaws.{to_z-of_z}
use Rattle.spec.specs.SpokenLevels.{spoken, LevelPromise}
use Rattle.spec.specs.Printed.{printed_answer, spoken_answer}
use Rattle.console.proofs.Texts.{Part}
use Rattle.gauge.proofs.Texts.{level_part, level_spoken, level_refused}
use Rattle.gauge.proofs.level.put_level.Goals as goal
use Rattle.gauge.proofs.level.put_level.Goals.{After-speak_level, In-Ok, In-Err}
use Rattle.std.proofs.Common.{Err}

-- the level was spoken as it is, lent room for the words of any
promise : (c : After-speak_level) → LevelPromise c.args.level (replicate 54 0) c.speak_level.new.out c.speak_level.result
promise c = rw (to_z-of_z w32 c.args.level c.ranges.level) at c.speak_level.ensures

-- the words that were put
words : (c : In-Ok) → Part (spoken c.args.level) c.speak_level.new.out c.in-Ok.w.length
words c = level_part c.args.level (promise (goal.at.In-Ok c).After-speak_level) refl c.in-Ok.is

-- what was refused
refused : (c : In-Err)
    → (spoken_answer c.args.level ≡ Err c.in-Err.r) × (length (printed_answer (Err c.in-Err.r) []) ≤ 40)
refused c = level_refused c.args.level (promise (goal.at.In-Err c).After-speak_level) refl c.in-Err.is

pub slice_bounds-words-end : goal.slice_bounds-words-end
slice_bounds-words-end c = (words (goal.at.slice_bounds-words-end c).In-Ok).within

pub slice_bounds-put_answer-end : goal.slice_bounds-put_answer-end
slice_bounds-put_answer-end c = (words (goal.at.slice_bounds-put_answer-end c).In-Ok).size

pub put_refusal-requires : goal.put_refusal-requires
put_refusal-requires c = omega (arith, (refused (goal.at.put_refusal-requires c).In-Err).1, c.requires)

pub returns-in-Ok-clause-appended : goal.returns-in-Ok-clause-appended
unfolding printed_answer
returns-in-Ok-clause-appended c =
    let p = promise (goal.at.returns-in-Ok-clause-appended c).After-speak_level in
    rw (level_spoken c.args.level p refl c.in-Ok.is)
    (rw (words (goal.at.returns-in-Ok-clause-appended c).In-Ok).bytes at c.put_answer.ensures.appended)

pub returns-in-Err : goal.returns-in-Err
unfolding printed_answer
returns-in-Err c =
    let f = refused (goal.at.returns-in-Err c).In-Err in
    record { appended = rw f.0 c.put_refusal.ensures; upper_bound = omega (arith, c.put_refusal.ensures.place, f.1) }
