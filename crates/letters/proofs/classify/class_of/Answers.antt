-- The table has the class of each byte.
use Rattle.laws.proofs.Kit.{◌≡◌, arith, refl}
use Rattle.letters.specs.declared.classify.TheConstants.{CLASSES}
use Rattle.letters.specs.Classes.{classes}
use Rattle.letters.proofs.Computed.{everything}
use Rattle.letters.proofs.Tabulated.{class_read}
use Rattle.letters.proofs.classify.class_of.Goals as goal

the_rule : CLASSES ≡ classes
unfolding everything
the_rule = refl

pub returns : goal.returns
returns c = class_read CLASSES _ the_rule (omega (arith, c.ranges.b))
