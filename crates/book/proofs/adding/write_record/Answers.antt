-- The head is put, and the tape right behind it.
use Rattle.laws.proofs.Kit.{ℕ, ◌+◌, ◌-◌, ◌≤◌, ◌≡◌, sym, ◌∙◌, arith, List, length}
use Rattle.spec.specs.Book.{book_storage, NewPhrase, phrase_of, record_mark, two_bytes, head_of, record_of}
use Rattle.spec.specs.{Tape.sounds, Tape.tape, Layers.TapePromise}
use Rattle.laws.specs.Putting.{Put}
use Rattle.laws.proofs.{Putting.put_behind, Putting.put_tape, Editions.tape_length}
use Rattle.book.specs.Entries.{asked}
use Rattle.book.proofs.adding.write_record.Goals as goal

-- a head put, and the tape right before a place that is as far behind it as the tape is long, are the record put
put_record : (x : NewPhrase) {out out₁ out₂ : List ℕ} {i at n steps : ℕ} → at + n ≤ length out → n ≡ length (sounds x.message)
    → Put (head_of book_storage x.number x.set n) out out₁ at i → TapePromise x.edition x.message out₁ out₂ (at + n) steps
    → Put (record_of book_storage (phrase_of book_storage x)) out out₂ (at + n) i
unfolding record_of
put_record x {at} {n} h e p t =
    let size : length (tape x.edition x.message) ≡ n = tape_length x.edition x.message ∙ sym e in
    let start : at + n - length (tape x.edition x.message) ≡ at = omega (arith, size) in
    rw size (put_behind h p (rw start at (put_tape (omega (arith, e)) t)))

pub write_tape-requires : goal.write_tape-requires
unfolding record_mark two_bytes head_of
write_tape-requires c =
    let p = c.put_head.ensures in
    record {
      counts = c.requires.counts;
      accepted = c.requires.accepted;
      room = omega (arith, p.place, c.requires.codes);
      place = omega (arith, p.place, c.requires.room);
    }

pub returns : goal.returns
unfolding record_mark two_bytes head_of
returns c =
    let p = c.put_head.ensures in
    put_record (asked c.args.addition) (omega (arith, p.place, c.requires.room)) c.requires.codes p c.write_tape.ensures
