-- Reading and writing undo each other: a row's octets are read as its byte whatever follows them, and what is read has its row's octets. So
-- a text can be cut in one way only.
use Rattle.laws.proofs.Kit.{ℕ, ◌+◌, ◌*◌, ◌<◌, ◌≤◌, ◌≡◌, ◌≢◌, refl, sym, ap, ◌∙◌, true, false, cond, true≢false, false≢true, List, []}
use Rattle.laws.proofs.Kit.{◌∷◌, ◌++◌, append_assoc, append-nil, map, arith, eqb, leb, length, drop, length-append}
use Rattle.laws.proofs.Kit.{take-append-drop, length-take-le, eq-eqb, eqb-true, ne_eqb, leb-true, leb-false, lt-leb}
use Rattle.laws.proofs.Kit.{not-true, or-true, and-false}
use Rattle.spec.specs.Letters.{small, hard_only, paired, soft_only, signs, plain_vowels, softening_vowels, is_consonant, is_sign, is_vowel}
use Rattle.spec.specs.Letters.{is_break, is_mark}
use Rattle.spec.specs.Alphabet.{gap, pause, mark}
use Rattle.spec.specs.Tables.{among, same}
use Rattle.spec.specs.Refusals.{consonant_byte, sign_byte, vowel_byte, letter_byte, row3, rows, fits_in, before_at, NoneFits}
use Rattle.spec.specs.Utf8.{octets, is_character, WellFormed, ended, begun, Character, ◌is◌, characters, row_bytes, has_row}
use Rattle.spec.specs.Utf8.{sequence_in, byte_in, sequence, byte_of, is_taken, encoded, decoded, read_to, AllRows, RunOf, StopsAt}
use Rattle.spec.proofs.Computed.{everything}
use Rattle.laws.proofs.Classes.{either, refuted, cond_both, among_same, below_same}
use Rattle.laws.proofs.Accepted.{ClearFrom, places_clear, none_passes}
use Rattle.std.proofs.lemmas.List.{nil_from_length}
use Rattle.std.proofs.lemmas.Grind.{common_steps}

-- a row's octets are read as its byte, whatever follows them
pub row_read : (b : ℕ) (t : List ℕ) → has_row b ≡ true → decoded (sequence b ++ t) ≡ b ∷ decoded t
unfolding everything
row_read b [] h = among_same (λ x. decoded (sequence x ++ [])) (λ x. x ∷ []) (row_bytes characters) b refl h
row_read b (c ∷ t) h = among_same (λ x. decoded (sequence x ++ (c ∷ t))) (λ x. x ∷ decoded (c ∷ t)) (row_bytes characters) b refl h

-- sequences that are told to be the same are
same_equal : (s t : List ℕ) → same s t ≡ true → s ≡ t
unfolding same
same_equal [] [] e = refl
same_equal [] (b ∷ t) e = absurd (false≢true e)
same_equal (a ∷ s) [] e = absurd (false≢true e)
same_equal (a ∷ s) (b ∷ t) e =
    either (eqb a b) (λ q. rw (eqb-true a b q, same_equal s t (rw q at e)) refl) (λ q. absurd (false≢true (rw q at e)))

-- the byte and the number of a row
abbrev byte : Character → ℕ
byte (x is c) = x

abbrev number : Character → ℕ
number (x is c) = c

-- a byte that is found for octets has a row
found_row : (rows : List Character) (s : List ℕ) → eqb (byte_in rows s) 0 ≡ false → among (row_bytes rows) (byte_in rows s) ≡ true
unfolding byte_in row_bytes among
found_row [] s e = absurd (true≢false e)
found_row (x is c ∷ rows) s e =
    either (same s (octets c)) (λ q. rw (q, eq-eqb x x refl)) (λ q. rw (q, found_row rows s (rw q at e), or-true (eqb (byte_in rows s) x)))

-- and the octets are that row's
found_octets : (rows : List Character) (s : List ℕ) → map (λ r. sequence (byte r)) rows ≡ map (λ r. octets (number r)) rows
    → eqb (byte_in rows s) 0 ≡ false
    → sequence (byte_in rows s) ≡ s
unfolding byte_in
found_octets [] s m e = absurd (true≢false e)
found_octets (x is c ∷ rows) s m e = either (same s (octets c))
    (λ q. rw q (let f : sequence x ≡ octets c = cc in f ∙ sym (same_equal s (octets c) q)))
    (λ q. rw q (found_octets rows s (cc) (rw q at e)))

-- What is taken has its byte's octets, and the byte a row.
pub taken_octets : (s : List ℕ) → is_taken s ≡ true → sequence (byte_of s) ≡ s
unfolding everything
taken_octets s e = found_octets characters s refl (not-true (eqb (byte_of s) 0) e)

pub taken_row : (s : List ℕ) → is_taken s ≡ true → has_row (byte_of s) ≡ true
unfolding is_taken byte_of has_row
taken_row s e = found_row characters s (not-true (eqb (byte_of s) 0) e)

-- What holds of texts where nothing is read, and of a row's octets before a text of which it holds, holds of every text.
by_cuts : (P : List ℕ → Type 0) → ((t : List ℕ) → decoded t ≡ [] → P t)
    → ((b : ℕ) (t : List ℕ) → has_row b ≡ true → P t → P (sequence b ++ t)) → (t : List ℕ) → P t
unfolding decoded
by_cuts P none more [] = none [] refl
by_cuts P none more (a ∷ []) = either (is_taken (a ∷ []))
    (λ e. rw (taken_octets (a ∷ []) e) at (more _ [] (taken_row (a ∷ []) e) (none [] refl)))
    (λ e. none (a ∷ []) (rw e))
by_cuts P none more (a ∷ b ∷ t) = either (is_taken (a ∷ []))
    (λ e. rw (taken_octets (a ∷ []) e) at (more _ (b ∷ t) (taken_row (a ∷ []) e) (by_cuts P none more (b ∷ t))))
    (λ e. either (is_taken (a ∷ b ∷ []))
    (λ f. rw (taken_octets (a ∷ b ∷ []) f) at (more _ t (taken_row (a ∷ b ∷ []) f) (by_cuts P none more t)))
    (λ f. none (a ∷ b ∷ t) (rw (e, f))))

-- How a text is cut: into the octets of what is read, and a rest where nothing is.
pub record Cut (t : List ℕ) : Type 0 where
  pub rest : List ℕ
  pub text : t ≡ encoded (decoded t) ++ rest
  pub rows : AllRows (decoded t)
  pub stops : decoded rest ≡ []

pub cut : (t : List ℕ) → Cut t
unfolding encoded
cut = by_cuts Cut
    (λ t e. record { rest = t; text = rw e; rows = rw e tt; stops = e })
    (λ b t h c. let e = row_read b t h in
    record {
      rest = c.rest;
      text = rw (e, append_assoc (sequence b) (encoded (decoded t)) c.rest, ← c.text);
      rows = rw e (h, c.rows);
      stops = c.stops;
    })

-- messages are written one behind the other
pub encoded_append : (m n : List ℕ) → encoded (m ++ n) ≡ encoded m ++ encoded n
unfolding encoded
encoded_append [] n = refl
encoded_append (b ∷ m) n = rw (encoded_append m n, append_assoc (sequence b) (encoded m) (encoded n))

-- what is written is read, whatever follows it
pub run_read : (m t : List ℕ) → AllRows m → decoded (encoded m ++ t) ≡ m ++ decoded t
unfolding encoded
run_read [] t r = refl
run_read (b ∷ m) t r = rw (append_assoc (sequence b) (encoded m) t, row_read b (encoded m ++ t) r.0, run_read m t r.1)

-- Reading back gives the message.
pub read_back : (m : List ℕ) → AllRows m → decoded (encoded m) ≡ m
unfolding decoded
read_back m r = let e = run_read m [] r in simp append-nil at e

-- Where a text stops being readable.
module _ (t : List ℕ) where
  -- what is read and the rest are all of it
  cut_length : read_to t + length (cut t).rest ≡ length t
  unfolding read_to
  cut_length = sym (length-append (encoded (decoded t)) (cut t).rest) ∙ sym (ap length (cut t).text)

  pub read_most : read_to t ≤ length t
  read_most = omega (arith, cut_length)

  -- read to its end, it is a run
  pub whole_run : read_to t ≡ length t → RunOf t (decoded t)
  whole_run e =
      let z = nil_from_length (cut t).rest (omega (arith, cut_length)) in
      record { rows = (cut t).rows; text = simp append-nil at (rw z at (cut t).text) }

  -- a run is cut in one way only, and read to its end
  pub run_once : (m : List ℕ) → RunOf t m → m ≡ decoded t
  run_once m r = sym (ap decoded r.text ∙ read_back m r.rows)

  pub run_whole : (m : List ℕ) → RunOf t m → read_to t ≡ length t
  unfolding read_to
  run_whole m r = rw (← run_once m r) (ap length (sym r.text))

  -- not read to its end, it stops there
  pub stops_at : read_to t < length t → StopsAt t (read_to t)
  unfolding read_to
  stops_at h =
      let c = cut t in
      let d : drop (read_to t) t ≡ c.rest = grind (arith, common_steps, c.text) in
      record {
        within = h;
        before = (decoded t, record { rows = c.rows; text = grind (arith, common_steps, c.text) });
        after = λ b rest r e. let z : [] ≡ b ∷ decoded rest = sym c.stops ∙ ap decoded (sym d ∙ e) ∙ row_read b rest r in cc z;
      }

  -- and nowhere else
  pub stops_once : (p : ℕ) → StopsAt t p → p ≡ read_to t
  unfolding read_to
  stops_once p s =
      let m = s.before.0 in
      let r = s.before.1 in
      let e : t ≡ encoded m ++ drop p t = sym (take-append-drop p t) ∙ ap (λ x. x ++ drop p t) r.text in
      let z : decoded (drop p t) ≡ [] = nothing (drop p t) s.after in
      let q : decoded t ≡ m = ap decoded e ∙ run_read m (drop p t) r.rows ∙ rw z (append-nil m) in
      rw q (sym (length-take-le p t (omega (arith, s.within))) ∙ ap length r.text)
    where
      nothing : (u : List ℕ) → ((b : ℕ) (rest : List ℕ) → has_row b ≡ true → u ≢ (sequence b ++ rest)) → decoded u ≡ []
      nothing = by_cuts (λ u. ((b : ℕ) (rest : List ℕ) → has_row b ≡ true → u ≢ (sequence b ++ rest)) → decoded u ≡ []) (λ u e f. e)
          (λ b u h k f. absurd (f b u h refl))

-- A row's octets are those of a character, before a text of characters.
row_formed : (rows : List Character) (b : ℕ) {t : List ℕ} → map (λ r. is_character (number r)) rows ≡ map (λ _. true) rows
    → among (row_bytes rows) b ≡ true
    → WellFormed t → WellFormed (sequence_in rows b ++ t)
unfolding row_bytes among sequence_in
row_formed [] b m h w = absurd (false≢true h)
row_formed (x is c ∷ rows) b m h w = either (eqb b x) (λ q. rw q (begun c (cc) w)) (λ q. rw q (row_formed rows b (cc) (rw q at h) w))

-- What is written is well-formed.
pub run_formed : (m : List ℕ) → AllRows m → WellFormed (encoded m)
unfolding everything
run_formed [] r = ended
run_formed (b ∷ m) r = row_formed characters b refl r.0 (run_formed m r.1)

-- no row has more than two octets
octets_most : (rows : List Character) (b : ℕ) → map (λ r. leb (length (octets (number r))) 2) rows ≡ map (λ _. true) rows
    → length (sequence_in rows b) ≤ 2
unfolding sequence_in
octets_most [] b m = omega arith
octets_most (x is c ∷ rows) b m =
    cond_both {A = List ℕ} (λ s. length s ≤ 2) (eqb b x) (leb-true (length (octets c)) 2 (cc)) (octets_most rows b (cc))

-- so what is written is at most twice as long
pub encoded_size : (m : List ℕ) → length (encoded m) ≤ 2 * length m
unfolding everything
encoded_size [] = omega arith
encoded_size (b ∷ m) = omega (arith, length-append (sequence b) (encoded m), octets_most characters b refl, encoded_size m)

-- and none has no octet, so what is read is no longer than the text
run_least : (m : List ℕ) → AllRows m → length m ≤ length (encoded m)
unfolding everything
run_least [] r = omega arith
run_least (b ∷ m) r =
    let h : 1 ≤ length (sequence b) = leb-true _ _
    (among_same (λ x. leb 1 (length (sequence x))) (λ _. true) (row_bytes characters) b refl r.0) in
    omega (arith, length-append (sequence b) (encoded m), run_least m r.1)

pub decoded_size : (t : List ℕ) → length (decoded t) ≤ read_to t
unfolding read_to
decoded_size t = run_least (decoded t) (cut t).rows

-- no byte above 255 is a letter, a mark or a break
module _ (b : ℕ) (l : 255 < b) where
  none : (bytes : List ℕ) → map (λ x. leb x 255) bytes ≡ map (λ _. true) bytes → among bytes b ≡ false
  none bytes m = refuted (among bytes b) (λ h. omega (arith, leb-true b 255 (among_same (λ x. leb x 255) (λ _. true) bytes b m h)))

  large_small : small b ≡ b
  unfolding small
  large_small = rw (lt-leb b 0xDF (omega arith), and-false, ne_eqb b 0xA8 (omega arith))

  large_refused : row3 [] b [] ≡ true
  unfolding row3 letter_byte consonant_byte sign_byte vowel_byte is_consonant is_sign is_vowel is_mark is_break
  large_refused = rw (
    large_small,
    none (hard_only ++ paired ++ soft_only) refl,
    none signs refl,
    none (plain_vowels ++ softening_vowels) refl,
    ne_eqb b mark (omega arith),
    ne_eqb b gap (omega arith),
    ne_eqb b pause (omega arith),
  )

-- a letter, a mark and a break have a row
spoken_row : (b : ℕ) → row3 [] b [] ≡ false → has_row b ≡ true
unfolding everything
spoken_row b e = either (leb b 255)
    (λ q. rw e at (below_same (λ x. cond (row3 [] x []) true (has_row x)) (λ _. true) 256 b refl (omega (arith, leb-true b 255 q))))
    (λ q. absurd (true≢false (sym (large_refused b (omega (arith, leb-false b 255 q))) ∙ e)))

-- So all bytes of an accepted message have one.
pub accepted_rows : (m : List ℕ) → NoneFits m → AllRows m
unfolding before_at fits_in rows row3
accepted_rows m f = of [] m (places_clear m (none_passes m f).rows m 0 refl)
  where
    of : (before m : List ℕ) → ClearFrom before m → AllRows m
    of before [] c = tt
    of before (b ∷ m) c = (spoken_row b (c.0 3), of (b ∷ before) m c.1)
