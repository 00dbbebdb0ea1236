-- Both walks go by sequences: what stands at a place tells how far the next one reaches, and that it adds one byte.
use Rattle.laws.proofs.Kit.{ℕ, zero, suc, ◌+◌, ◌<◌, ◌≤◌, arith, add-one, ◌≡◌, refl, sym, ap, ◌∙◌, ⊎_elim, true, false, List, [], ◌∷◌, ◌++◌}
use Rattle.laws.proofs.Kit.{append-nil, length, take, drop, get_or, set, length-append, length-drop, drop-cons, drop-drop}
use Rattle.laws.proofs.Kit.{drop_of_length-le, get_or-drop, take-suc}
use Rattle.spec.specs.Tables.{among}
use Rattle.spec.specs.Utf8.{ascii_bytes, has_row, sequence, byte_of, is_taken, encoded, decoded, read_to, AllRows}
use Rattle.laws.proofs.Classes.{either, below_or}
use Rattle.laws.proofs.Utf8.{read_most, decoded_size, taken_octets, encoded_append}
use Rattle.laws.proofs.Putting.{put_none, put_at, put_behind, put_length}
use Rattle.laws.specs.Putting.{Put}
use Rattle.utf8.specs.Walk.{Stands, Reaches}
use Rattle.utf8.proofs.Sequences.{single_taken, single_byte, large_other, lead_within}

-- what is read of a text that begins with one octet that is taken, with two, or with neither
decoded_single : (a : ℕ) (u : List ℕ) → is_taken (a ∷ []) ≡ true → decoded (a ∷ u) ≡ byte_of (a ∷ []) ∷ decoded u
unfolding decoded
decoded_single a [] e = rw e
decoded_single a (c ∷ u) e = rw e

decoded_pair : (a b : ℕ) (u : List ℕ) → is_taken (a ∷ []) ≡ false → is_taken (a ∷ b ∷ []) ≡ true
    → decoded (a ∷ b ∷ u) ≡ byte_of (a ∷ b ∷ []) ∷ decoded u
unfolding decoded
decoded_pair a b u e f = rw (e, f)

decoded_neither : (a b : ℕ) (u : List ℕ) → is_taken (a ∷ []) ≡ false → is_taken (a ∷ b ∷ []) ≡ false → decoded (a ∷ b ∷ u) ≡ []
unfolding decoded
decoded_neither a b u e f = rw (e, f)

decoded_alone : (a : ℕ) → is_taken (a ∷ []) ≡ false → decoded (a ∷ []) ≡ []
unfolding decoded
decoded_alone a e = rw e

-- a loop begins at the start
pub stands_none : (t : List ℕ) → Stands t 0 0
stands_none t = record { within = omega arith; octets = omega arith; bytes = refl; most = omega arith }

-- The octets o at place i of a text are taken, and the next sequence begins behind them.
pub record Next (t : List ℕ) (i k : ℕ) (o : List ℕ) : Type 0 where
  pub size : length o ≡ k
  pub taken : is_taken o ≡ true
  pub within : i + k ≤ length t
  pub read : decoded (drop i t) ≡ byte_of o ∷ decoded (drop (i + k) t)

module _ {t : List ℕ} {i n : ℕ} (s : Stands t i n) where
  -- the loop goes on behind them, with one byte more
  stands_more : {k : ℕ} {o : List ℕ} → Next t i k o → Stands t (i + k) (n + 1)
  unfolding read_to encoded
  stands_more {k} {o} x =
      let d = x.read in
      let w : read_to (drop i t) ≡ k + read_to (drop (i + k) t) = rw d (rw (taken_octets o x.taken)
      (length-append o (encoded (decoded (drop (i + k) t))) ∙ ap (λ z. z + read_to (drop (i + k) t)) x.size)) in
      let r : drop n (decoded t) ≡ byte_of o ∷ decoded (drop (i + k) t) = s.bytes ∙ d in
      record {
        within = x.within;
        octets = omega (arith, w, s.octets);
        bytes = sym (drop-drop 1 n (decoded t)) ∙ ap (drop 1) r;
        most = omega (arith, length-drop n (decoded t), ap length r);
      }

  -- there are no more bytes than octets
  pub stands_most : n ≤ length t
  stands_most = omega (arith, s.most, decoded_size t, read_most t)

  -- that byte is the next one of what is read
  next_byte : {k : ℕ} {o : List ℕ} → Next t i k o → (n < length (decoded t)) × (get_or (decoded t) n 0 ≡ byte_of o)
  next_byte {k} {o} x =
      let r : drop n (decoded t) ≡ byte_of o ∷ decoded (drop (i + k) t) = s.bytes ∙ x.read in
      let z : n + 0 ≡ n = omega arith in
      (omega (arith, length-drop n (decoded t), ap length r), rw z at (sym (get_or-drop n (decoded t) 0 0)) ∙ ap (λ l. get_or l 0 0) r)

  -- where nothing is read it reaches no further
  stands_stop : decoded (drop i t) ≡ [] → (i ≡ read_to t) × (n ≡ length (decoded t))
  unfolding read_to encoded
  stands_stop d =
      (omega (arith, s.octets, ap (λ m. length (encoded m)) d), omega (arith, s.most, length-drop n (decoded t), ap length (s.bytes ∙ d)))

-- What stands at place i of a text
module _ (t : List ℕ) (i : ℕ) (h : i < length t) where
  from_one : drop i t ≡ get_or t i 0 ∷ drop (i + 1) t
  from_one = drop-cons t i 0 h ∙ rw (add-one i)

  from_two : i + 1 < length t → drop i t ≡ get_or t i 0 ∷ get_or t (i + 1) 0 ∷ drop (i + 2) t
  from_two l = from_one ∙ rw (drop-cons t (i + 1) 0 l) (let e : suc (i + 1) ≡ i + 2 = omega arith in rw e)

  -- one octet that is taken
  next_single : is_taken (get_or t i 0 ∷ []) ≡ true → Next t i 1 (get_or t i 0 ∷ [])
  next_single e =
      record { size = refl; taken = e; within = omega arith; read = rw from_one (decoded_single (get_or t i 0) (drop (i + 1) t) e) }

  -- two that are
  next_pair : i + 1 < length t → is_taken (get_or t i 0 ∷ []) ≡ false → is_taken (get_or t i 0 ∷ get_or t (i + 1) 0 ∷ []) ≡ true
      → Next t i 2 (get_or t i 0 ∷ get_or t (i + 1) 0 ∷ [])
  next_pair l e f = record {
    size = refl;
    taken = f;
    within = omega arith;
    read = rw (from_two l) (decoded_pair (get_or t i 0) (get_or t (i + 1) 0) (drop (i + 2) t) e f);
  }

  -- or neither, and then nothing is read
  next_neither : i + 1 < length t → is_taken (get_or t i 0 ∷ []) ≡ false → is_taken (get_or t i 0 ∷ get_or t (i + 1) 0 ∷ []) ≡ false
      → decoded (drop i t) ≡ []
  next_neither l e f = rw (from_two l) (decoded_neither (get_or t i 0) (get_or t (i + 1) 0) (drop (i + 2) t) e f)

  next_alone : length t ≤ i + 1 → is_taken (get_or t i 0 ∷ []) ≡ false → decoded (drop i t) ≡ []
  next_alone l e = rw (from_one, drop_of_length-le t l) (decoded_alone (get_or t i 0) e)

pub reaches : {t : List ℕ} {i n : ℕ} → (i ≡ read_to t) × (n ≡ length (decoded t)) → Reaches t (record { octets = i; bytes = n })
reaches e = record { octets = e.0; bytes = e.1 }

-- The reader's first loop at place i, where the text's octet is a byte
module _ {t : List ℕ} {i n : ℕ} (s : Stands t i n) (h : i < length t) (b : get_or t i 0 < 256) where
  -- an octet that stands for itself
  pub measure_single : among ascii_bytes (get_or t i 0) ≡ true → Stands t (i + 1) (n + 1)
  measure_single e = stands_more s (next_single t i h (single_taken _ b ∙ e))

  module _ (e : among ascii_bytes (get_or t i 0) ≡ false) where
    no_single : is_taken (get_or t i 0 ∷ []) ≡ false
    no_single = single_taken _ b ∙ e

    -- a letter
    pub measure_letter : i + 1 < length t → is_taken (get_or t i 0 ∷ get_or t (i + 1) 0 ∷ []) ≡ true → Stands t (i + 2) (n + 1)
    measure_letter l f = stands_more s (next_pair t i h l no_single f)

    -- neither, or nothing that could be one
    pub measure_stop : i + 1 < length t → is_taken (get_or t i 0 ∷ get_or t (i + 1) 0 ∷ []) ≡ false
        → (i ≡ read_to t) × (n ≡ length (decoded t))
    measure_stop l f = stands_stop s (next_neither t i h l no_single f)

    pub measure_alone : length t ≤ i + 1 → (i ≡ read_to t) × (n ≡ length (decoded t))
    measure_alone l = stands_stop s (next_alone t i h l no_single)

-- at the end all is read
pub measure_end : {t : List ℕ} {i n : ℕ} → Stands t i n → length t ≤ i → (i ≡ read_to t) × (n ≡ length (decoded t))
unfolding decoded
measure_end {t} {i} s l = stands_stop s (rw (drop_of_length-le t l))

-- What stands at the place of a loop that has not read all of the bytes
module _ {t : List ℕ} {i n : ℕ} (s : Stands t i n) (more : n < length (decoded t)) (bytes : (j : ℕ) → get_or t j 0 < 256) where
  -- something is read there
  some_read : decoded (drop i t) ≡ [] → ⊥
  some_read d = absurd (omega (arith, (stands_stop s d).1))

  -- so the text has not ended
  pub copy_within : i < length t
  unfolding decoded
  copy_within = ⊎_elim (λ h. h) (λ l. absurd (some_read (rw (drop_of_length-le t l)))) (below_or i (length t))

  -- an octet below 0x80 that stands for itself
  pub copy_single : get_or t i 0 < 0x80 → Next t i 1 (get_or t i 0 ∷ [])
  copy_single l = either (is_taken (get_or t i 0 ∷ [])) (next_single t i copy_within) (λ e. ⊎_elim
      (λ w. either (is_taken (get_or t i 0 ∷ get_or t (i + 1) 0 ∷ []))
      (λ f. absurd (omega (arith, (lead_within (get_or t i 0) (get_or t (i + 1) 0) (bytes (i + 1)) f).0)))
      (λ f. absurd (some_read (next_neither t i copy_within w e f))))
      (λ w. absurd (some_read (next_alone t i copy_within w e))) (below_or (i + 1) (length t)))

  -- or the first one of a letter's
  pub copy_letter : 0x80 ≤ get_or t i 0 → Next t i 2 (get_or t i 0 ∷ get_or t (i + 1) 0 ∷ [])
  copy_letter l = let e = no_single s copy_within (bytes i) (large_other (get_or t i 0) l) in ⊎_elim
      (λ w. either (is_taken (get_or t i 0 ∷ get_or t (i + 1) 0 ∷ [])) (next_pair t i copy_within w e)
      (λ f. absurd (some_read (next_neither t i copy_within w e f))))
      (λ w. absurd (some_read (next_alone t i copy_within w e))) (below_or (i + 1) (length t))

-- The reader's second loop: what is read up to place i was put.
pub record Copies (t out₀ out : List ℕ) (i n : ℕ) : Type 0 where
  pub stands : Stands t i n
  pub put : Put (take n (decoded t)) out₀ out n 0

module _ {t out₀ out : List ℕ} {i n : ℕ} (s : Copies t out₀ out i n) (room : length (decoded t) ≤ length out₀) where
  -- one byte more is put
  copies_more : {k : ℕ} {o : List ℕ} (x : Next t i k o) → Copies t out₀ (set out n (byte_of o)) (i + k) (n + 1)
  copies_more {k} {o} x =
      let b = next_byte s.stands x in
      let l = put_length _ _ _ _ _ (omega (arith, b.0)) s.put in
      let p = put_behind (omega (arith, b.0)) s.put (put_at out n (byte_of o) (omega (arith, l, b.0))) in
      let e : take (n + 1) (decoded t) ≡ take n (decoded t) ++ (byte_of o ∷ []) = rw (add-one n, take-suc (decoded t) n 0 b.0, b.1) refl in
      record { stands = stands_more s.stands x; put = rw e p }

  -- It is the octet itself, or the letter's byte.
  module _ (more : n < length (decoded t)) (bytes : (j : ℕ) → get_or t j 0 < 256) where
    pub copies_single : get_or t i 0 < 0x80 → Copies t out₀ (set out n (get_or t i 0)) (i + 1) (n + 1)
    copies_single l =
        let x = copy_single s.stands more bytes l in
        rw (single_byte (get_or t i 0) (sym (single_taken (get_or t i 0) (bytes i)) ∙ x.taken)) at (copies_more x)

    pub copies_letter : {b : ℕ} → 0x80 ≤ get_or t i 0 → b ≡ byte_of (get_or t i 0 ∷ get_or t (i + 1) 0 ∷ [])
        → Copies t out₀ (set out n b) (i + 2) (n + 1)
    copies_letter l e = rw e (copies_more (copy_letter s.stands more bytes l))

-- Every byte of a message with rows has one.
pub row_at : (m : List ℕ) (i : ℕ) → AllRows m → i < length m → has_row (get_or m i 0) ≡ true
row_at [] i r h = absurd (omega arith)
row_at (b ∷ m) zero r h = r.0
row_at (b ∷ m) (suc i) r h = row_at m i r.1 (omega arith)

-- The writer's loops: at place i of the message so many octets are behind it, and the rest's ahead.
pub record Ahead (m : List ℕ) (i at : ℕ) : Type 0 where
  pub within : i ≤ length m
  pub rest : at + length (encoded (drop i m)) ≡ length (encoded m)

pub ahead_none : (m : List ℕ) → Ahead m 0 0
ahead_none m = record { within = omega arith; rest = omega arith }

-- each turn passes one byte's
pub ahead_more : {m : List ℕ} {i at : ℕ} → Ahead m i at → i < length m → Ahead m (i + 1) (at + length (sequence (get_or m i 0)))
unfolding encoded
ahead_more {m} {i} {at} a h =
    let e : encoded (drop i m) ≡ sequence (get_or m i 0) ++ encoded (drop (i + 1) m) = rw (drop-cons m i 0 h, add-one i) refl in
    record {
      within = omega arith;
      rest = omega (arith, a.rest, ap length e, length-append (sequence (get_or m i 0)) (encoded (drop (i + 1) m)));
    }

-- to the end
pub ahead_end : {m : List ℕ} {i at : ℕ} → Ahead m i at → length m ≤ i → at ≡ length (encoded m)
unfolding encoded
ahead_end {m} {i} a l = omega (arith, a.rest, ap (λ x. length (encoded x)) (drop_of_length-le m l))

-- and what is behind was put
pub record Writes (m out₀ out : List ℕ) (i at : ℕ) : Type 0 where
  pub ahead : Ahead m i at
  pub put : Put (encoded (take i m)) out₀ out at 0

pub writes_none : (m out : List ℕ) → Writes m out out 0 0
unfolding encoded
writes_none m out = record { ahead = ahead_none m; put = put_none out 0 }

module _ {m out₀ out : List ℕ} {i at : ℕ} (w : Writes m out₀ out i at) (h : i < length m) (room : length (encoded m) ≤ length out₀) where
  -- there is room for the next byte's
  pub writes_room : {k : ℕ} → length (sequence (get_or m i 0)) ≡ k → at + k ≤ length out
  writes_room e = let a = ahead_more w.ahead h in omega (arith, e, a.rest, put_length _ _ _ _ _ (omega (arith, w.ahead.rest)) w.put)

  writes_more : {out' : List ℕ} {k : ℕ} → length (sequence (get_or m i 0)) ≡ k → Put (sequence (get_or m i 0)) out out' (at + k) at
      → Writes m out₀ out' (i + 1) (at + k)
  unfolding encoded
  writes_more l p =
      let a = rw l at (ahead_more w.ahead h) in
      let e : encoded (take (i + 1) m) ≡ encoded (take i m) ++ sequence (get_or m i 0) =
      rw (add-one i, take-suc m i 0 h, encoded_append (take i m) (get_or m i 0 ∷ []), append-nil (sequence (get_or m i 0))) refl in
      record { ahead = a; put = rw e (put_behind (omega (arith, a.rest)) w.put p) }

  -- it stands for itself
  pub writes_single : sequence (get_or m i 0) ≡ get_or m i 0 ∷ [] → Writes m out₀ (set out at (get_or m i 0)) (i + 1) (at + 1)
  writes_single e = writes_more (ap length e) (rw e (put_at out at (get_or m i 0) (omega (arith, writes_room (ap length e)))))

  -- or has two
  pub writes_letter : {lead next : ℕ} → sequence (get_or m i 0) ≡ lead ∷ next ∷ []
      → Writes m out₀ (set (set out at lead) (at + 1) next) (i + 1) (at + 2)
  writes_letter {lead} {next} e =
      let r : at + 2 ≤ length out = writes_room (ap length e) in
      let p = put_at out at lead (omega arith) in
      let q = put_at (set out at lead) (at + 1) next (omega (arith, put_length _ _ _ _ _ (omega arith) p)) in
      let z : at + 1 + 1 ≡ at + 2 = omega arith in
      writes_more (ap length e) (rw e (put_behind r p (rw z at q)))
