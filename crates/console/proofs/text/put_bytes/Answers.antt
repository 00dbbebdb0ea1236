use Rattle.laws.proofs.Kit.{arith, add-one, take-suc, take_all, length-take-le}
use Rattle.console.proofs.Texts.{put_none, put_over}
use Rattle.console.proofs.text.put_bytes.Goals as goal

pub loop-byte-init : goal.loop-byte-init
loop-byte-init c = (omega arith, put_none _ _)

pub put-end-requires : goal.put-end-requires
put-end-requires c =
    omega (
      arith,
      c.loop-byte.invariant.1.place,
      length-take-le c.loop-byte.byte-index c.args.bytes.now c.loop-byte.invariant.0,
    )

pub loop-byte-preserved : goal.loop-byte-preserved
loop-byte-preserved c =
    let seam = put_over c.loop-byte.invariant.1 c.put-end.ensures in
    (omega arith, rw (add-one c.loop-byte.byte-index, take-suc c.args.bytes.now c.loop-byte.byte-index 0 c.loop-byte-test.true) seam)

pub returns : goal.returns
returns c = rw (take_all c.loop-byte.byte-index c.args.bytes.now c.loop-byte-test.false) at c.loop-byte.invariant.1
