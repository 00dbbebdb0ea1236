-- The table has the first octet of a letter for its second, but for Ё and ё, which are asked for then.
use Rattle.laws.proofs.Kit.{◌<◌, ◌≡◌, refl, sym, ◌∙◌, arith, eq-eqb, ne_eqb}
use Rattle.utf8.specs.declared.tables.TheConstants.{LEADS}
use Rattle.utf8.specs.Tables.{leads}
use Rattle.utf8.proofs.Computed.{everything}
use Rattle.utf8.proofs.Sequences.{leads_read, pair_taken}
use Rattle.utf8.proofs.tables.is_letter.Goals as goal

the_rule : LEADS ≡ leads
unfolding everything
the_rule = refl

pub returns-then-next-lead : goal.returns-then-next-lead
returns-then-next-lead c =
    let h : c.args.next < 256 = omega (arith, c.ranges.next) in
    rw (pair_taken _ _ h c.requires, eq-eqb _ _ (sym (leads_read the_rule h) ∙ c.if-next-lead.true))

pub returns : goal.returns
returns c =
    let h : c.args.next < 256 = omega (arith, c.ranges.next) in
    rw (pair_taken _ _ h c.requires, ne_eqb _ _ (λ e. c.if-next-lead.false (leads_read the_rule h ∙ e)))
