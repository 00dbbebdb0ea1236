-- The record's own head tells.
use Rattle.laws.proofs.Kit.{◌∙◌, refl, sym, get_or-drop}
use Rattle.spec.specs.Book.{set_place, length_place}
use Rattle.records.proofs.Walks.{pair_behind}
use Rattle.book.proofs.lookup.tell.Goals as goal

pub returns-in-Some : goal.returns-in-Some
returns-in-Some c =
    let i = c.in-Some.i in
    let hears = sym c.may_hear.ensures ∙ c.if-may_hear.true in
    let size = c.pair_at.ensures.0 ∙ pair_behind c.args.book.now i length_place in
    rw (c.in-Some.is, get_or-drop i c.args.book.now set_place 0, hears, size) refl
