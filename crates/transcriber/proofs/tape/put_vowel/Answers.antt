-- The codes that are put are the vowel's, and their first is what stands right of the letter before.
use Rattle.transcriber.proofs.Walking.{run_ready, vowel_ready, vowel_room, vowel_steps}
use Rattle.transcriber.proofs.tape.put_vowel.Goals as goal

pub step-levels-requires : goal.step-levels-requires
step-levels-requires c = run_ready c.requires.ready

pub vowel_at-vowel-requires : goal.vowel_at-vowel-requires
vowel_at-vowel-requires c = vowel_ready c.requires c.level_of-level.ensures

pub put_sung-at-requires : goal.put_sung-at-requires
put_sung-at-requires c = let a = c.requires in (vowel_room a c.vowel_at-vowel.ensures, a.ready.place)

pub returns : goal.returns
returns c = vowel_steps c.requires c.vowel_at-vowel.ensures c.first_code.ensures c.sound_of-sound.ensures c.step-levels.ensures c.put_sung-at.ensures
