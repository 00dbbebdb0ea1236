-- An accepted message is heard: its first letter is no sign and is not elided, so it has a sound.
use Rattle.laws.proofs.Kit.{ℕ, ◌<◌, ◌≡◌, sym, ◌∙◌, Bool, false, and-true, true≢false, List, [], ◌∷◌, arith, length, length-append}
use Rattle.spec.specs.Letters.{Letter, Message, last, more, read, put_letter, is_sign}
use Rattle.spec.specs.Refusals.{none, first, sign_byte, row4, row5, row6, rows, fits_in, before_at}
use Rattle.spec.specs.{Elision.elide_from, Elision.elide, Syllables.facts_of, Phones.phones_from, Tape.word_tape, Tape.segment, Tape.sounds}
use Rattle.laws.proofs.{Accepted.Passes, Word.first_kept, Word.phones_cases, Word.sounds_length}

-- a word that begins with a letter that is no sign; its first letter is not elided
word_heard : (h n : Bool) (l : Letter) (w : List Letter) → is_sign l.byte ≡ false → 0 < length (word_tape h n (l ∷ w))
unfolding word_tape elide elide_from phones_from
word_heard h n l w s =
    let v = elide_from l.byte w in
    let k = phones_cases (λ xs. 0 < length xs) h (facts_of (l ∷ w)) 0 l v (λ q. absurd (true≢false (sym q ∙ s)))
    (λ _ _. (omega arith, omega arith)) (λ _ _. omega arith) in
    rw (first_kept l.byte w, sounds_length) (simp length-append (omega (arith, k)))

-- and so a message
segment_heard : (h n : Bool) (l : Letter) (r : Message) → is_sign l.byte ≡ false → 0 < length (segment h n (put_letter l r))
unfolding segment put_letter
segment_heard h n l (last w) s = word_heard h n l w s
segment_heard h n l (more w x r) s = simp length-append (omega arith)

-- Numbers 4, 5 and 6 leave a letter that is no sign as the first byte, so an accepted message has a code.
pub tape_heard : (m : List ℕ) → Passes m → 0 < length (sounds m)
unfolding sounds read before_at fits_in rows row4 row5 row6 none first sign_byte
tape_heard [] p = absurd (omega (arith, p.some))
tape_heard (b ∷ m) p =
    let c = p.rows 0 (omega arith) in
    rw (rw and-true at (c 4), rw and-true at (c 5)) (segment_heard false false _ (read m) (rw and-true at (c 6)))
