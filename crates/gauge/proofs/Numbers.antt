-- A number in decimal is read digit by digit, and clipped where it has left the range: what is answered for it is the same.
use Rattle.laws.proofs.Kit.{ℕ, zero, suc, ◌+◌, ◌-◌, ◌*◌, ◌<◌, ◌≤◌, arith, add-one, ◌≡◌, refl, sym, ap, ◌∙◌, inl, inr, ⊎_elim, true, false}
use Rattle.laws.proofs.Kit.{cond, ◌&&◌, not, and-eq-true_iff, List, [], ◌∷◌, eqb, leb, length, drop, get_or, drop-cons, drop-length}
use Rattle.laws.proofs.Kit.{leb-true, lt-leb, ne_eqb, le-leb, length-drop}
use lib.IntN.{pos, neg_ℤ, nat_abs, ◌-ℤ◌, +ℤ_idl}
use mir.Syntax.{w32}
use mir.Val.{SFits, to_z, of_z}
use mir.Facts.{to_z_pos}
use mir.ValLaws.{to_z-of_z}
use Rattle.spec.specs.Printed.{sign_length, are_digits, is_decimal, digits_from, level_in}
use Rattle.gauge.specs.Reading.{Clipped, Like}
use Rattle.std.specs.List.{list_all}
use Rattle.std.specs.Cmp.Lexicographic.{pointwise}
use Rattle.std.proofs.Common.{Bool, take, Option, Some, None, MatchOption, unwrap_or, Bor}

-- What is behind the sign, which is the first byte where that is 45.
signed_by : (x : Bool) (b : ℕ) (t : List ℕ) → drop (cond x 1 0) (b ∷ t) ≡ cond (x && true) t (b ∷ t)
signed_by true b t = refl
signed_by false b t = refl

signed : (t : List ℕ) → drop (sign_length t) t ≡ cond (pointwise eqb (take 1 t) (45 ∷ [])) (drop 1 t) t
unfolding sign_length
signed [] = refl
signed (b ∷ t) = signed_by (eqb b 45) b t

pub stripped : (t : Bor (List ℕ)) (o : Option (Bor (List ℕ)))
    → MatchOption o (pointwise eqb (take 1 t.now) (45 ∷ []) ≡ false)
    (λ x. (pointwise eqb (take 1 t.now) (45 ∷ []) ≡ true) × (x.now ≡ drop 1 t.now) × (length x.now + 1 ≡ length t.now))
    → (unwrap_or o t).now ≡ drop (sign_length t.now) t.now
stripped t None h = sym (signed t.now ∙ rw h)
stripped t (Some x) h = h.1 ∙ sym (signed t.now ∙ rw h.0)

-- the digits, asked one after the other
pub digits_all : (t : List ℕ) → list_all (λ b. leb 48 b && leb b 57) t ≡ are_digits t
unfolding are_digits
digits_all [] = refl
digits_all (b ∷ t) = rw (digits_all t)

-- the digits from a place on: the digit there, and those after it
digits_step : (t : List ℕ) (i : ℕ) → i < length t
    → are_digits (drop i t) ≡ ((leb 48 (get_or t i 0) && leb (get_or t i 0) 57) && are_digits (drop (i + 1) t))
unfolding are_digits
digits_step t i h = rw (drop-cons t i 0 h, add-one i)

-- Digits that are read up to place i, as n.
pub record Reads (t : List ℕ) (i n : ℕ) : Type 0 where
  pub within : i ≤ length t
  pub said : ℕ
  pub clipped : Clipped n said
  pub rest : digits_from said (drop i t) ≡ digits_from 0 t
  pub digits : are_digits (drop i t) ≡ true

pub reads_none : (t : List ℕ) → are_digits t ≡ true → Reads t 0 0
reads_none t d = record {
  within = omega arith;
  said = 0;
  clipped = record { same = inl refl; small = omega arith };
  rest = refl;
  digits = d;
}

module _ {t : List ℕ} {i n : ℕ} (r : Reads t i n) (h : i < length t) where
  -- the digit at the place, and digits after it
  digits_at : ((48 ≤ get_or t i 0) × (get_or t i 0 ≤ 57)) × (are_digits (drop (i + 1) t) ≡ true)
  digits_at =
      let b = get_or t i 0 in
      let a = (and-eq-true_iff (leb 48 b && leb b 57) (are_digits (drop (i + 1) t))).0 (sym (digits_step t i h) ∙ r.digits) in
      let e = (and-eq-true_iff (leb 48 b) (leb b 57)).0 a.0 in
      ((leb-true 48 b e.0, leb-true b 57 e.1), a.1)

  pub digit_at : (48 ≤ get_or t i 0) × (get_or t i 0 ≤ 57)
  digit_at = digits_at.0

  -- A number that is clipped with the digit at the place is read one place further.
  reads_to : (k : ℕ) → Clipped k (10 * r.said + (get_or t i 0 - 48)) → Reads t (i + 1) k
  unfolding digits_from
  reads_to k c = record {
    within = omega arith;
    said = 10 * r.said + (get_or t i 0 - 48);
    clipped = c;
    rest = rw (add-one i) (rw (drop-cons t i 0 h) at r.rest);
    digits = digits_at.1;
  }

  -- A number in the range takes the digit at the place.
  pub reads_more : n < 10000 → Reads t (i + 1) (10 * n + (get_or t i 0 - 48))
  reads_more l = reads_to _ (record {
    same = ⊎_elim (λ e. inl (omega (arith, e))) (λ e. absurd (omega (arith, e.0))) r.clipped.same;
    small = omega (arith, digit_at);
  })

  -- A number outside the range stays as it is past the digit.
  pub reads_past : 10000 ≤ n → Reads t (i + 1) n
  reads_past l = reads_to _ (record {
    same = ⊎_elim (λ e. inr (omega arith, omega (arith, e))) (λ e. inr (e.0, omega (arith, e.1))) r.clipped.same;
    small = r.clipped.small;
  })

pub reads_all : {t : List ℕ} {i n : ℕ} → Reads t i n → length t ≤ i → Clipped n (digits_from 0 t)
unfolding digits_from
reads_all {t} {i} r h =
    let e : i ≡ length t = omega (arith, r.within) in
    rw (rw (e, drop-length t) at r.rest) at r.clipped

-- what `read_digits` stands on
pub ruleset reading = (reads_none, reads_more, reads_past)

-- A text of more bytes than 4,096 is no number;
pub no_number : (t : List ℕ) → 4096 < length t → is_decimal t ≡ false
unfolding is_decimal
no_number t h = rw (lt-leb (length t) 4096 h)

and_false : (x : Bool) → (x && false) ≡ false
and_false true = refl
and_false false = refl

sign_within : (t : List ℕ) → sign_length t ≤ length t
unfolding sign_length
sign_within [] = omega arith
sign_within (b ∷ t) = by (eqb b 45)
  where
    by : (x : Bool) → cond x 1 0 ≤ suc (length t)
    by true = omega arith
    by false = omega arith

-- and by what is behind its sign
module _ (t digits : List ℕ) (is : digits ≡ drop (sign_length t) t) where
  size : length digits ≡ length t - sign_length t
  size = ap length is ∙ length-drop (sign_length t) t

  pub no_digits : length digits ≡ 0 → is_decimal t ≡ false
  unfolding is_decimal
  no_digits z = rw (le-leb (length t) (sign_length t) (omega (arith, size))) (and_false (leb (length t) 4096))

  pub other_bytes : are_digits digits ≡ false → is_decimal t ≡ false
  unfolding is_decimal
  other_bytes e =
      rw (← is, e, and_false (not (leb (length t) (sign_length t)))) (and_false (leb (length t) 4096))

  pub is_number : length t ≤ 4096 → (length digits ≡ 0 → ⊥) → are_digits digits ≡ true → is_decimal t ≡ true
  unfolding is_decimal
  is_number h some e =
      rw (le-leb (length t) 4096 h, lt-leb (length t) (sign_length t) (omega (arith, size)), ← is, e)

-- what `read_level` stands on
pub ruleset numbers = (no_number, no_digits, other_bytes, is_number)

-- Signed: a number and its negation, as the machine holds them.
pub held : (n : ℕ) → n ≤ 99999 → to_z w32 n ≡ pos n
held n h = to_z_pos w32 (omega arith)

negated : (n : ℕ) → pos 0 -ℤ pos n ≡ neg_ℤ (pos n)
negated n = +ℤ_idl (neg_ℤ (pos n))

pub negated_fits : (n : ℕ) → n ≤ 99999 → SFits w32 (pos 0 -ℤ to_z w32 n)
negated_fits n h = rw (held n h, negated n) (by n h)
  where
    by : (n : ℕ) → n ≤ 99999 → SFits w32 (neg_ℤ (pos n))
    by zero h = record { sfits = omega arith }
    by (suc n) h = record { sfits = omega arith }

pub negated_held : (n : ℕ) → n ≤ 99999 → to_z w32 (of_z w32 (pos 0 -ℤ to_z w32 n)) ≡ neg_ℤ (pos n)
negated_held n h = to_z-of_z w32 (pos 0 -ℤ to_z w32 n) (negated_fits n h) ∙ rw (held n h, negated n)

negated_size : (n : ℕ) → nat_abs (neg_ℤ (pos n)) ≡ n
negated_size zero = refl
negated_size (suc n) = refl

-- so a level is read like the number that is clipped
pub like_plain : (t : List ℕ) (n : ℕ) → sign_length t ≡ 0 → Clipped n (digits_from 0 (drop (sign_length t) t)) → Like (pos n) (level_in t)
unfolding level_in
like_plain t n z c = rw z (⊎_elim (λ e. inl (ap pos e)) (λ e. inr e) (rw z at c.same))

pub like_minus : (t : List ℕ) (n : ℕ) → (sign_length t ≡ 0 → ⊥) → Clipped n (digits_from 0 (drop (sign_length t) t))
    → Like (neg_ℤ (pos n)) (level_in t)
unfolding level_in
like_minus t n z c =
    let v = digits_from 0 (drop (sign_length t) t) in
    rw (ne_eqb (sign_length t) 0 z) (⊎_elim (λ e. inl (ap (λ (k : ℕ). neg_ℤ (pos k)) e))
    (λ e. inr (omega (arith, negated_size n, e.0), omega (arith, negated_size v, e.1))) c.same)

-- by whether there is a sign before the digits.
module _ (t digits : List ℕ) (n : ℕ) (is : digits ≡ drop (sign_length t) t) (c : Clipped n (digits_from 0 digits)) where
  behind : Clipped n (digits_from 0 (drop (sign_length t) t))
  behind = rw is at c

  pub read_plain : length t ≤ length digits → Like (to_z w32 n) (level_in t)
  read_plain h = rw (held n c.small) (like_plain t n (omega (arith, size t digits is, sign_within t)) behind)

  pub read_minus : length digits < length t → Like (to_z w32 (of_z w32 (pos 0 -ℤ to_z w32 n))) (level_in t)
  read_minus h = rw (negated_held n c.small) (like_minus t n (λ e. absurd (omega (arith, size t digits is, e))) behind)
