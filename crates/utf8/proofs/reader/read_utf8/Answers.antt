-- The text is measured, so what is left to read decides number 13, and the room number 11; then it is copied.
use Rattle.laws.proofs.Kit.{ℕ, ◌≡◌, ◌≤◌, List, arith, length}
use Rattle.spec.specs.Utf8.{read_to}
use Rattle.laws.proofs.{Utf8.read_most, Promises.promised_short, Promises.promised_written, Putting.put_first_lem}
use Rattle.utf8.proofs.Answering.{answered_unreadable, answered_read}
use Rattle.utf8.proofs.reader.read_utf8.Goals as goal

-- all of the text is readable
whole : (t : List ℕ) (n : ℕ) → n ≡ read_to t → length t ≤ n → read_to t ≡ length t
whole t n e h = omega (arith, e, h, read_most t)

pub returns-then-extent-text : goal.returns-then-extent-text
returns-then-extent-text c = answered_unreadable _ c.measure-extent.ensures.octets c.if-extent-text.true

pub returns-then-out-length : goal.returns-then-out-length
returns-then-out-length c = rw (answered_read _ _ (whole _ _ c.measure-extent.ensures.octets (omega arith)))
    (promised_short c.measure-extent.ensures.bytes 0 c.if-out-length.true)

pub returns : goal.returns
returns c =
    let n = c.measure-extent.ensures.bytes in
    rw (answered_read _ _ (whole _ _ c.measure-extent.ensures.octets (omega arith)))
    (promised_written n 0 c.if-out-length.false (put_first_lem _ _ _ _ _ n c.copy.ensures))
