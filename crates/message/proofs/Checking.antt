-- What the check has seen stays true, over a byte and over any number of bytes that need only be added; at the end it is the answer.
use Rattle.laws.proofs.Kit.{ℕ, zero, suc, ◌+◌, ◌-◌, ◌*◌, ◌/◌, ◌%◌, ◌<◌, ◌≤◌, ◌≡◌, refl, sym, ◌∙◌, ⊎_elim, Bool, true, false, cond, ◌&&◌}
use Rattle.laws.proofs.Kit.{and-false, List, arith, eqb, leb, length, get_or, eqb-false, le-leb, lt-leb, eq-eqb, ne_eqb}
use Rattle.spec.specs.Refusals.{check_of}
use Rattle.letters.specs.Classes.{is_break_class, is_letter_class, class_at, silent_at}
use Rattle.message.specs.Steps.{next_kind, fault_in, stop_in, packed, kind_at, codes_to, names_to, letters_at, fault_here, Sees, four_at}
use Rattle.message.specs.Steps.{silent_four, Counted, finish_of, name_unit, ask_unit, stop_unit}
use Rattle.message.specs.declared.Seen.{Seen}
use Rattle.laws.proofs.{Accepted.counts_of, Classes.cond_both, Classes.either, Classes.below_or}
use Rattle.message.proofs.Faults.{here_clear, kind_small, entry_at, counts_up, last_refused, all_accepted}
use Rattle.letters.proofs.Steadiness.{accepted_steady}
use Rattle.message.proofs.{StepTable.Entry, StepTable.unpacks, StepTable.silent_asks, Lengths.codes_all, Lengths.names_all}

-- the end of the walk is the check's answer
pub seen_all : (m : List ℕ) (s : Seen) → 0 < length m → Sees m s → s.at ≡ length m → finish_of (length m) s ≡ check_of m
seen_all m s z w e =
    let n = length m in
    let up = counts_up m w.bytes n in
    let sum : s.sum ≡ codes_to m n + name_unit * names_to m n = rw e at w.sum in
    let codes : s.sum % name_unit ≡ codes_to m n = omega (arith, sum, up.0) in
    let names : s.sum / name_unit ≡ names_to m n = omega (arith, sum, up.0) in
    rw (rw e at w.kind, codes, names) (either (is_break_class (kind_at m n)) (λ d. rw d (sym (last_refused m w.bytes (n - 1) (omega (arith, z)) w.short (rw e at w.clear) d)))
    (λ d.
    let q = all_accepted m w.bytes (n - 1) (omega (arith, z)) w.short (rw e at w.clear) d in
    let y = accepted_steady m (counts_of m) q w.bytes in
    rw d (sym (q ∙ rw (codes_all m y, names_all m y)))))

-- n bytes have n letters at most
letters_up : (m : List ℕ) (i n : ℕ) → letters_at m (n + i) ≤ n + letters_at m i
unfolding letters_at
letters_up m i zero = let e : 0 + i ≡ i = omega arith in rw e (omega arith)
letters_up m i (suc n) =
    let e : suc n + i ≡ suc (n + i) = omega arith in
    let most : ℕ → Type 0 = λ k. k ≤ suc n + letters_at m i in
    let r = letters_up m i n in
    rw e (cond_both most (is_break_class (class_at m (n + i))) (omega arith) (cond_both most (is_letter_class (class_at m (n + i))) (omega arith) (omega arith)))

-- so no place has more letters before it than bytes
pub letters_all : (m : List ℕ) (i : ℕ) → letters_at m i ≤ i
unfolding letters_at
letters_all m i = let e : i + 0 ≡ i = omega arith in omega (arith, rw e at (letters_up m 0 i))

-- where no byte before has a fault, a word has 64 letters at most
letters_most : (m : List ℕ) (i : ℕ) → ((j : ℕ) → j < i → fault_here m j ≡ 0) → letters_at m i ≤ 64
unfolding letters_at
letters_most m zero c = omega arith
letters_most m (suc i) c = by (is_break_class (class_at m i)) (is_letter_class (class_at m i)) (here_clear m i (c i (omega arith))).1 (letters_most m i (λ j h. c j (omega arith)))
  where
    by : (s t : Bool) → (t && eqb (letters_at m i) 64) ≡ false → letters_at m i ≤ 64 → cond s 0 (cond t (suc (letters_at m i)) (letters_at m i)) ≤ 64
    by true t e h = omega arith
    by false true e h = omega (arith, eqb-false (letters_at m i) 64 e)
    by false false e h = h

-- at the start nothing is seen
pub sees_none : (m : List ℕ) → ((j : ℕ) → get_or m j 0 < 256) → length m ≤ 4096 → Sees m (record { at = 0; kind = 2; from = 0; limit = 64; sum = 0 })
unfolding kind_at codes_to names_to letters_at
sees_none m bytes short = record { bytes = bytes; short = short; within = omega arith; clear = λ j h. absurd (omega arith); kind = refl; sum = refl; from = omega arith; limit = refl }

-- a kind has its row in the table, and a sum is small
pub sees_small : {m : List ℕ} {s : Seen} → Sees m s → (s.kind < 16) × (s.sum ≤ (name_unit + 2) * s.at)
sees_small {m} {s} w = let u = counts_up m w.bytes s.at in (rw w.kind (kind_small m w.bytes s.at), omega (arith, w.sum, u.0, u.1))

-- before the limit a word has room for a letter
pub below_limit : (m : List ℕ) (s : Seen) → Sees m s → s.at < s.limit → letters_at m s.at < 64
below_limit m s w h =
    let n = s.at - s.from in
    let e : n + s.from ≡ s.at = omega (arith, w.from) in
    let u : letters_at m s.at ≤ n + letters_at m s.from = rw e at (letters_up m s.from n) in
    omega (arith, u, w.limit, w.from)

-- the limit counted anew
pub sees_counted : (m : List ℕ) (s : Seen) (n : ℕ) → Sees m s → n ≡ letters_at m s.at
    → Counted m s.at (record { at = s.at; kind = s.kind; from = s.at; limit = s.at + 64 - n; sum = s.sum })
sees_counted m s n w e =
    let h = letters_most m s.at w.clear in
    record {
      sees = record { bytes = w.bytes; short = w.short; within = w.within; clear = w.clear; kind = w.kind; sum = w.sum; from = omega arith; limit = omega (arith, e, h) };
      place = refl;
      full = λ l. omega (arith, l, e, h);
    }

-- The check sees all up to a byte; c is its class, and x its entry.
module _ {m : List ℕ} {s : Seen} {c x : ℕ} (w : Sees m s) (h : s.at < length m) (f : c ≡ class_at m s.at) (e : x ≡ packed s.kind (class_at m s.at)) where
  -- the entry is one of the table
  entry_here : Entry s.kind (class_at m s.at)
  entry_here = rw w.kind (entry_at m w.bytes s.at)

  -- the byte is passed where it has no fault
  pub sees_more : (sum : ℕ) → fault_here m s.at ≡ 0 → sum + silent_at m s.at ≡ s.sum + x % ask_unit
      → Sees m (record { at = suc s.at; kind = next_kind s.kind c; from = s.from; limit = s.limit; sum = sum })
  unfolding kind_at codes_to names_to
  sees_more sum z q = record {
    bytes = w.bytes;
    short = w.short;
    within = h;
    clear = λ j b. ⊎_elim (w.clear j) (λ l. let d : j ≡ s.at = omega arith in rw d z) (below_or j s.at);
    kind = rw (f, w.kind);
    sum = omega (arith, q, rw w.kind at e, (silent_asks m s.at w.bytes).1, (unpacks _ _ (entry_at m w.bytes s.at)).counts, w.sum);
    from = omega (arith, w.from);
    limit = w.limit;
  }

  -- a second stop is the byte's fault
  pub stop_here : 2 * stop_unit ≤ x → (fault_here m s.at ≡ x / stop_unit - 1) × (x / stop_unit - 1 ≡ 0 → ⊥)
  unfolding fault_here
  stop_here l =
      let n = fault_in s.kind (class_at m s.at) in
      let y : x / stop_unit ≡ suc n = omega (arith, e, (unpacks _ _ entry_here).stop, entry_here.fault) in
      let z : n ≡ 0 → ⊥ = λ q. omega (arith, y, q) in
      (rw (← w.kind, ne_eqb n 0 z) (omega (arith, y)), λ q. omega (arith, y, z, q))

  -- before it the byte has no fault but as a letter at the limit, where that is counted
  pub full_here : x < 2 * stop_unit → (s.limit ≤ s.at → letters_at m s.at ≡ 64) → fault_here m s.at ≡ cond (is_letter_class c && leb s.limit s.at) 10 0
  unfolding fault_here
  full_here l q =
      let z : fault_in s.kind (class_at m s.at) ≡ 0 = omega (arith, e, (unpacks _ _ entry_here).stop, entry_here.fault) in
      let y : eqb (letters_at m s.at) 64 ≡ leb s.limit s.at = ⊎_elim
      (λ b. ne_eqb (letters_at m s.at) 64 (λ t. omega (arith, below_limit m s w b, t)) ∙ sym (lt-leb s.limit s.at b))
      (λ b. eq-eqb (letters_at m s.at) 64 (q b) ∙ sym (le-leb s.limit s.at b)) (below_or s.at s.limit) in
      rw (f, ← w.kind, z, y)

  -- where it is enough to add, its class is the next kind
  pub sees_plain : (sum : ℕ) → s.at < s.limit → x < stop_unit → sum + silent_at m s.at ≡ s.sum + x % ask_unit
      → Sees m (record { at = suc s.at; kind = c; from = s.from; limit = s.limit; sum = sum })
  sees_plain sum l p q =
      let n : stop_in s.kind (class_at m s.at) ≡ 0 = omega (arith, e, (unpacks _ _ entry_here).stop) in
      let z = rw (lt-leb s.limit s.at l, and-false (is_letter_class c)) at (full_here (omega arith) (λ b. absurd (omega (arith, l, b)))) in
      rw f (rw (f, entry_here.plain n) at (sees_more sum z q))

  -- What the entry has: as many codes as the byte loses, no ask where it loses none, and not much.
  pub record Gives : Type 0 where
    pub enough : silent_at m s.at ≤ x % ask_unit
    pub plain : x < ask_unit → silent_at m s.at ≡ 0
    pub small : x % ask_unit ≤ name_unit + 2

  -- it has
  pub gives : Gives
  gives =
      let u = unpacks _ _ entry_here in
      let a = rw (← w.kind) at (silent_asks m s.at w.bytes) in
      record { enough = omega (arith, e, a.1, u.counts); plain = λ q. omega (arith, a.0, u.ask (omega (arith, e, q))); small = omega (arith, e, u.counts, entry_here.width, entry_here.names) }

-- The next n bytes need only be added: x is the sum of their entries, and has the codes that they lose; k is the kind after them.
pub record Adds (m : List ℕ) (s : Seen) (n x lost k : ℕ) : Type 0 where
  pub enough : lost ≤ x % ask_unit
  pub plain : x < ask_unit → lost ≡ 0
  pub small : x % ask_unit ≤ (name_unit + 2) * n
  pub seen : (sum : ℕ) → sum + lost ≡ s.sum + x % ask_unit → Sees m (record { at = s.at + n; kind = k; from = s.from; limit = s.limit; sum = sum })

-- none do
adds_none : {m : List ℕ} {s : Seen} → Sees m s → Adds m s 0 0 0 s.kind
adds_none {m} {s} w = record {
  enough = omega arith;
  plain = λ q. refl;
  small = omega arith;
  seen = λ sum e. let z : s.at + 0 ≡ s.at = omega arith in let d : sum ≡ s.sum = omega (arith, e) in rw (z, d) w;
}

-- and one more, without a stop
adds_more : {m : List ℕ} {s : Seen} {n x lost k : ℕ} → Adds m s n x lost k → n ≤ 6 → s.at + n < length m → s.at + n < s.limit → packed k (class_at m (s.at + n)) < stop_unit
    → Adds m s (suc n) (x + packed k (class_at m (s.at + n))) (lost + silent_at m (s.at + n)) (class_at m (s.at + n))
adds_more {m} {s} {n} {x} {lost} {k} r l h u p =
    let e = packed k (class_at m (s.at + n)) in
    let w = r.seen (s.sum + x % ask_unit - lost) (omega (arith, r.enough)) in
    let g = gives w h refl refl in
    let a : (x + e) % ask_unit ≡ x % ask_unit + e % ask_unit = omega (arith, g.small, r.small, l) in
    record {
      enough = omega (arith, a, g.enough, r.enough);
      plain = λ q. omega (arith, g.plain (omega (arith, q)), r.plain (omega (arith, q)));
      small = omega (arith, a, g.small, r.small);
      seen = λ sum q. let z : s.at + suc n ≡ suc (s.at + n) = omega arith in rw z (sees_plain w h refl refl sum u p (omega (arith, a, q, r.enough)));
    }

-- four need only be added where their sum has no stop
pub sees_four : (m : List ℕ) (s : Seen) → Sees m s → s.at + 4 ≤ length m → s.at + 4 ≤ s.limit → four_at m s.at s.kind < stop_unit
    → Adds m s 4 (four_at m s.at s.kind) (silent_four m s.at) (class_at m (s.at + 3))
sees_four m s w h l p =
    let z : s.at + 0 ≡ s.at = omega arith in
    let x : 0 + packed s.kind (class_at m s.at) ≡ packed s.kind (class_at m s.at) = omega arith in
    let y : 0 + silent_at m s.at ≡ silent_at m s.at = omega arith in
    let one = rw (z, x, y) at (adds_more (adds_none w) (omega arith) (omega (arith, h)) (omega (arith, l)) (rw z (omega (arith, p)))) in
    let two = adds_more one (omega arith) (omega (arith, h)) (omega (arith, l)) (omega (arith, p)) in
    let three = adds_more two (omega arith) (omega (arith, h)) (omega (arith, l)) (omega (arith, p)) in
    adds_more three (omega arith) (omega (arith, h)) (omega (arith, l)) (omega (arith, p))
