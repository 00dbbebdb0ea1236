-- The code that the table gives is the consonant's, and it is what stands right of the letter before; a silent letter puts nothing.
use Rattle.laws.proofs.Kit.{◌≡◌, sym, ◌∙◌, false}
use Rattle.letters.specs.Classes.{elided_at}
use Rattle.transcriber.proofs.Walking.{run_ready, consonant_before, elided_steps, consonant_room, consonant_steps}
use Rattle.transcriber.proofs.tape.put_consonant.Goals as goal
use Rattle.transcriber.proofs.tape.put_consonant.Goals.{Else-is_silent}

-- a letter that is not silent
heard : (c : Else-is_silent) → elided_at c.args.m.now c.args.i ≡ false
heard c = sym c.is_silent.ensures ∙ c.if-is_silent.false

pub step-levels-requires : goal.step-levels-requires
step-levels-requires c = run_ready c.requires.ready

pub returns-then-is_silent : goal.returns-then-is_silent
returns-then-is_silent c = elided_steps c.requires (sym c.is_silent.ensures ∙ c.if-is_silent.true) c.seen_over.ensures c.step-levels.ensures

pub consonant_code-code-requires : goal.consonant_code-code-requires
consonant_code-code-requires c = consonant_before c.requires

pub put-requires : goal.put-requires
put-requires c = let a = c.requires in (consonant_room a (heard (goal.at.put-requires c).Else-is_silent) c.consonant_code-code.ensures, a.ready.place)

pub returns : goal.returns
returns c = consonant_steps c.requires (heard (goal.at.returns c).Else-is_silent) c.consonant_code-code.ensures c.step-levels.ensures c.put.ensures
