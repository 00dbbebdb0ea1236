-- The tape of a stretch of a message: a break splits it in two, since nothing but the two bits crosses a break; and what the bits change,
-- by its first and last word.
use Rattle.laws.proofs.Kit.{ℕ, ◌≡◌, refl, ap, Bool, true, false, ◌&&◌, List, [], ◌∷◌, ◌++◌, append_assoc, arith, length, length-append}
use Rattle.spec.specs.Letters.{Letter, Message, last, more, read, put_letter, begins_with_mark, first_word, last_word, is_gap, is_break}
use Rattle.spec.specs.{Tables.among, Codes.mark_of, Codes.is_voicing, Vowels.ends_hard, Voicing.voices, Tape.segment}
use Rattle.spec.specs.Joints.{ends_in_obstruent, begins_with_i_or_e}
use Rattle.laws.proofs.{Classes.mark_both, Classes.cond_app, Classes.break_mark, Word.last_code_from, Word.word_length, Word.word_quiet}
use Rattle.laws.proofs.{Word.word_firm}

-- the message a, the break x, and the message b, read as one
unfoldable pub meet : Message → ℕ → Message → Message
meet (last w) x b = more w x b
meet (more w y r) x b = more w y (meet r x b)

-- it begins as a
pub first_meet : (a : Message) (x : ℕ) (b : Message) → first_word (meet a x b) ≡ first_word a
unfolding meet first_word
first_meet (last w) x b = refl
first_meet (more w y r) x b = refl

-- it ends as b
pub last_meet : (a : Message) (x : ℕ) (b : Message) → last_word (meet a x b) ≡ last_word b
unfolding meet last_word
last_meet (last w) x b = refl
last_meet (more w y r) x b = last_meet r x b

-- a break after bytes is no stress mark on their last letter
mark_before_break : (p s : List ℕ) (x : ℕ) → is_break x ≡ true → begins_with_mark (p ++ (x ∷ s)) ≡ begins_with_mark p
unfolding begins_with_mark
mark_before_break [] s x e = break_mark x e
mark_before_break (b ∷ p) s x e = refl

-- a letter put before two messages is put before the first one
put_meet : (l : Letter) (a : Message) (x : ℕ) (b : Message) → put_letter l (meet a x b) ≡ meet (put_letter l a) x b
unfolding put_letter meet
put_meet l (last w) x b = refl
put_meet l (more w y r) x b = refl

-- reading bytes with a break in them: what stands before it, the break, what stands after it
pub read_join : (p s : List ℕ) (x : ℕ) → is_break x ≡ true → read (p ++ (x ∷ s)) ≡ meet (read p) x (read s)
unfolding read meet
read_join [] s x e = rw e
read_join (b ∷ p) s x e = rw (read_join p s x e, mark_before_break p s x e, put_meet) (simp (cond_app (λ (z : Message). meet z x (read s))))

-- a break's mark is no voicing sound, and neither is nothing, so a word is followed by the same voice with or without what stands behind
-- the break
pub voices_over_lem : (t u : List ℕ) (x : ℕ) → voices (t ++ (mark_of x ∷ u)) ≡ voices t
unfolding voices is_voicing among
voices_over_lem [] u x = mark_both (λ c. is_voicing c ≡ false) x refl refl
voices_over_lem (c ∷ t) u x = refl

-- The tape of two stretches with a break between them: each with the bits that come from the other, and the mark of the break.
pub segment_join : (h n : Bool) (a : Message) (x : ℕ) (b : Message)
    → let t = segment (is_gap x && ends_hard (last_word a)) n b in
    segment h n (meet a x b) ≡ segment h (is_gap x && voices t) a ++ (mark_of x ∷ t)
unfolding meet segment last_word
segment_join h n (last w) x b = refl
segment_join h n (more w y r) x b =
    let k = is_gap y && ends_hard w in
    let t = segment (is_gap x && ends_hard (last_word r)) n b in
    let s = segment k (is_gap x && voices t) r in
    rw (segment_join k n r x b, voices_over_lem s t x, append_assoc)

-- the length depends on neither bit
pub segment_length : (h h' n n' : Bool) (a : Message) → length (segment h n a) ≡ length (segment h' n' a)
unfolding segment
segment_length h h' n n' (last w) = word_length h h' n n' w
segment_length h h' n n' (more w x r) =
    let k = is_gap x && ends_hard w in
    let v : Bool → Bool = λ b. is_gap x && voices (segment k b r) in
    simp length-append (omega (arith, word_length h h' (v n) (v n') w, segment_length k k n n' r))

-- what follows changes nothing unless it voices an obstruent at the end of the last word
pub segment_quiet : (h n : Bool) (a : Message) → (n && ends_in_obstruent (last_word a)) ≡ false → segment h false a ≡ segment h n a
unfolding segment last_word
segment_quiet h false a e = refl
segment_quiet h true (last w) e = word_quiet h false true w e
segment_quiet h true (more w x r) e = rw (segment_quiet (is_gap x && ends_hard w) true r e)

-- a tape that ends as t, after a mark
pub last_append : (c d : ℕ) (s t : List ℕ) → last_code_from c (s ++ (d ∷ t)) ≡ last_code_from d t
unfolding last_code_from
last_append c d [] t = refl
last_append c d (x ∷ s) t = last_append x d s t

-- what stands before changes nothing unless it is a hard boundary and the first word begins with и or unmarked э
pub segment_firm : (h n : Bool) (a : Message) → (h && begins_with_i_or_e (first_word a)) ≡ false → segment false n a ≡ segment h n a
unfolding segment first_word
segment_firm false n a e = refl
segment_firm true n (last w) e = word_firm false true n w e
segment_firm true n (more w x r) e =
    ap (λ (t : List ℕ). t ++ (mark_of x ∷ segment (is_gap x && ends_hard w) n r)) (word_firm false true _ w e)
