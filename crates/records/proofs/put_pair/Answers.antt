-- The two bytes stand at the place, and what is behind them stays.
use Rattle.laws.proofs.Kit.{arith, drop-drop, refl, ◌+◌, ◌-◌, ◌/◌, ◌%◌, ◌≡◌}
use Rattle.spec.specs.Book.{two_bytes}
use Rattle.records.proofs.put_pair.Goals as goal

pub returns : goal.returns
unfolding two_bytes
returns c =
    let two : c.args.i + 2 - c.args.i ≡ 2 = omega arith in
    let high : c.args.n / 256 % 256 ≡ c.args.n / 256 = omega arith in
    let rest = drop-drop 2 c.args.i c.args.out.now in
    record { place = refl; bytes = rw (two, c.copy_from_slice.ensures.after, c.to_le_bytes.ensures, high, rest) refl }
