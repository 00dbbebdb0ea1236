use Rattle.std.proofs.Common.{rules, tests, leb, ◌&&◌, ◌∙◌}
use Rattle.std.proofs.lemmas.Iterator.{YieldsList-from_slice}
use Rattle.std.proofs.lemmas.Iterator.Search.{all_from_yields_List}
use Rattle.gauge.proofs.Numbers.{digits_all}
use Rattle.gauge.proofs.level.are_digits.Goals as goal

pub returns : goal.returns
returns c =
    all_from_yields_List (λ b. leb 48 b && leb b 57) _ _ _ c.all.ensures.ran (YieldsList-from_slice c.args.t.now cc)
    (λ x b q k. search (rules, tests))
    ∙ digits_all c.args.t.now
