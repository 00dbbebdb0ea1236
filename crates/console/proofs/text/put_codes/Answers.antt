use Rattle.laws.proofs.Kit.{suc, arith, add-one, length-append}
use Rattle.console.proofs.Texts.{put_over, to_size, printed_all}
use Rattle.console.proofs.text.put_codes.Goals as goal

pub put_code-at-requires : goal.put_code-at-requires
put_code-at-requires c =
    let z = to_size c.args.codes.now (λ j. omega (arith, c.type_inv.codes j)) (suc c.loop-i.i) in
    (c.loop-i-test.true, omega (arith, rw length-append at z, c.loop-i.invariant.1.place, c.requires))

pub loop-i-preserved : goal.loop-i-preserved
loop-i-preserved c = (omega arith, rw (add-one c.loop-i.i) (put_over c.loop-i.invariant.1 c.put_code-at.ensures))

pub returns-clause-appended : goal.returns-clause-appended
returns-clause-appended c = rw (printed_all c.args.codes.now c.loop-i.i (omega arith)) at c.loop-i.invariant.1

pub returns-clause-upper_bound : goal.returns-clause-upper_bound
returns-clause-upper_bound c =
    let z = to_size c.args.codes.now (λ j. omega (arith, c.type_inv.codes j)) c.loop-i.i in
    omega (arith, c.loop-i.invariant.1.place)
