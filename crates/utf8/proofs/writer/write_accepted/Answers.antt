-- An output of two octets for each byte is long enough; a shorter one is held against the length of what is written.
use Rattle.laws.proofs.Kit.{◌≤◌, ◌≡◌, arith, length}
use Rattle.spec.specs.Utf8.{encoded}
use Rattle.laws.proofs.{Accepted.none_passes, Utf8.encoded_size, Utf8.accepted_rows, Promises.promised_short, Promises.promised_written}
use Rattle.laws.proofs.{Putting.put_first_lem}
use Rattle.utf8.proofs.writer.write_accepted.Goals as goal
use Rattle.utf8.proofs.writer.write_accepted.Goals.{Joined-out-m, then-out-m+else-out-n, else-out-m}

-- there is room where the message is written
room : (c : Joined-out-m) → length (encoded c.args.m.now) ≤ length c.args.out.now
room c =
    elim c.if-out-m.branch [
      | then-out-m+else-out-n w ↦ omega arith
      | else-out-m w ↦ omega (arith, encoded_size c.args.m.now)
    ]

pub measure-n-requires : goal.measure-n-requires
measure-n-requires c = (accepted_rows _ c.requires, (none_passes _ c.requires).short)

pub returns-then-out-n : goal.returns-then-out-n
returns-then-out-n c = promised_short c.measure-n.ensures 0 (omega (arith, c.if-out-n.true))

pub write_octets-length-requires : goal.write_octets-length-requires
write_octets-length-requires c =
    (accepted_rows _ c.requires, room (goal.at.write_octets-length-requires c).Joined-out-m)

pub returns : goal.returns
returns c =
    let n : c.write_octets-length.result ≡ length (encoded c.args.m.now) = omega (arith, c.write_octets-length.ensures.place) in
    promised_written n 0 (omega (arith, room (goal.at.returns c).Joined-out-m)) (put_first_lem _ _ _ _ _ n c.write_octets-length.ensures)
