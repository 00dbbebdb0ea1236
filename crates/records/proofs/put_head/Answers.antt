-- Mark, number, set and length are put one behind the other.
use Rattle.laws.proofs.Kit.{arith}
use Rattle.spec.specs.Book.{record_mark, two_bytes, head_of}
use Rattle.laws.proofs.Putting.{put_behind}
use Rattle.records.proofs.put_head.Goals as goal

pub returns : goal.returns
unfolding record_mark two_bytes head_of
returns c =
    let size = put_behind (omega arith) c.put_byte-length_place.ensures c.put_pair.ensures in
    let number = put_behind (omega arith) c.put_pair-set_place.ensures size in
    put_behind (omega arith) c.put_pair-number_place.ensures number
