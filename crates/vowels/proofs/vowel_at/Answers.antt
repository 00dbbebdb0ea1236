-- The syllable, the sound and the glide are those of the vowel in its word, since the class of the byte before tells the letter before.
use Rattle.vowels.proofs.VowelSounds.{sung_by}
use Rattle.vowels.proofs.vowel_at.Goals as goal

pub returns : goal.returns
returns c = sung_by c.requires c.class_before.ensures c.syllable_by-s.ensures c.vowel_code-code.ensures c.has_glide-glide.ensures
