-- Each piece is put after those before it, and there is room for all.
use Rattle.laws.proofs.Kit.{arith, []}
use Rattle.spec.specs.{Tables.ascii, Printed.printed_answer}
use Rattle.console.proofs.Texts.{put_over, refusal_length}
use Rattle.console.proofs.text.put_refusal.Goals as goal

pub put_bytes-end-requires : goal.put_bytes-end-requires
put_bytes-end-requires c = omega (arith, refusal_length c.args.r [])

pub put_decimal-end-requires : goal.put_decimal-end-requires
put_decimal-end-requires c = omega (arith, refusal_length c.args.r [], c.put_bytes-end.ensures.place)

pub put_bytes-end-requires-2 : goal.put_bytes-end-requires-2
put_bytes-end-requires-2 c = omega (arith, refusal_length c.args.r [], c.put_bytes-end.ensures.place, c.put_decimal-end.ensures.place)

pub put_decimal-requires : goal.put_decimal-requires
put_decimal-requires c =
    omega (
      arith,
      refusal_length c.args.r [],
      c.put_bytes-end.ensures.place,
      c.put_decimal-end.ensures.place,
      c.put_bytes-end-2.ensures.place,
    )

pub returns : goal.returns
unfolding printed_answer ascii
returns c =
    put_over c.put_bytes-end.ensures (put_over c.put_decimal-end.ensures (put_over c.put_bytes-end-2.ensures c.put_decimal.ensures))
