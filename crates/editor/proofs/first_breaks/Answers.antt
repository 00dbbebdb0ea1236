use Rattle.std.proofs.Common.{rules, tests}
use Rattle.std.proofs.lemmas.Iterator.{YieldsList-from_slice}
use Rattle.std.proofs.lemmas.Iterator.Consumers.{count_from_yields_List}
use Rattle.std.proofs.lemmas.Iterator.Search.{YieldsList-from_take_while}
use Rattle.std.proofs.lemmas.List.Folds.{length-prefix_len}
use Rattle.laws.proofs.Kit.{◌∙◌, sym}
use Rattle.laws.specs.Edited.{breaks}
use Rattle.editor.proofs.Walking.{leading_prefix}
use Rattle.editor.proofs.first_breaks.Goals as goal

pub returns : goal.returns
returns c =
    let t = c.args.text.now in
    count_from_yields_List c.take_while.result _ c.count.ensures.ran
    (YieldsList-from_take_while _ breaks (YieldsList-from_slice t (cc)) c.take_while.ensures.closure c.take_while.ensures.done
    (λ x b q k. search (rules, tests)))
    ∙ length-prefix_len breaks t ∙ sym (leading_prefix breaks t)
