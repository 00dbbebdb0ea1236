-- What the reader's and the writer's tests of octets tell: each is one computation over the 256 octets, since all letters begin with D0 or
-- D1.
use Rattle.laws.proofs.Kit.{ℕ, ◌/◌, ◌%◌, ◌+◌, ◌*◌, ◌-◌, ◌<◌, ◌≤◌, ◌≡◌, refl, sym, ◌∙◌, Bool, true, false, cond, ◌&&◌, ◌||◌, and-false}
use Rattle.laws.proofs.Kit.{true≢false, List, [], ◌∷◌, arith, eqb, leb, eqb-true, leb-true, le-leb, lt-leb, and-eq-true_iff, get_or}
use Rattle.std.proofs.Common.{w16}
use Rattle.std.specs.Int.{to_be_bytes}
use Rattle.spec.specs.Alphabet.{gap, mark}
use Rattle.spec.specs.Letters.{between}
use Rattle.spec.specs.Tables.{among}
use Rattle.spec.specs.Utf8.{ascii_bytes, characters, row_bytes, has_row, sequence, byte_of, is_taken}
use Rattle.laws.proofs.Classes.{either, refuted, below_same, among_same, among_none}
use Rattle.laws.specs.Edited.{breaks}
use Rattle.utf8.specs.Tables.{lead_of, leads, letter_of, letters, both, sequence_of, sequences}
use Rattle.letters.proofs.Tabulated.{tabulate_read}
use Rattle.spec.proofs.Computed.{everything}

-- an octet that is taken alone stands for itself
pub single_taken : (b : ℕ) → b < 256 → is_taken (b ∷ []) ≡ among ascii_bytes b
unfolding everything
single_taken b h = below_same (λ x. is_taken (x ∷ [])) (λ x. among ascii_bytes x) 256 b refl h

-- and so the stress mark does, and what the editor takes for a break
pub single_told : (b : ℕ) → b < 256 → (eqb b mark || breaks b) ≡ among ascii_bytes b
unfolding everything
single_told b h = below_same (λ x. eqb x mark || breaks x) (λ x. among ascii_bytes x) 256 b refl h

-- its byte is itself
pub single_byte : (b : ℕ) → among ascii_bytes b ≡ true → byte_of (b ∷ []) ≡ b
unfolding everything
single_byte b h = among_same (λ x. byte_of (x ∷ [])) (λ x. x) ascii_bytes b refl h

-- none of those is 0x80 or above
pub large_other : (b : ℕ) → 0x80 ≤ b → among ascii_bytes b ≡ false
unfolding everything
large_other b h =
    refuted (among ascii_bytes b) (λ e. omega (arith, leb-true b 0x7F (among_same (λ x. leb x 0x7F) (λ _. true) ascii_bytes b refl e)))

-- no letter begins with another octet than these two
other_lead : (lead next : ℕ) → eqb lead 0xD0 ≡ false → eqb lead 0xD1 ≡ false → byte_of (lead ∷ next ∷ []) ≡ 0
unfolding everything
other_lead lead next p q = simp (p, q, and-false)

-- so what holds of pairs with either, and of all others, holds
by_lead : (P : ℕ → Type 0) (lead : ℕ) → P 0xD0 → P 0xD1 → (eqb lead 0xD0 ≡ false → eqb lead 0xD1 ≡ false → P lead) → P lead
by_lead P lead d e f =
    either (eqb lead 0xD0) (λ p. rw (eqb-true lead 0xD0 p) d) (λ p. either (eqb lead 0xD1) (λ q. rw (eqb-true lead 0xD1 q) e) (f p))

-- a pair with another is not taken
other_taken : (lead next : ℕ) → eqb lead 0xD0 ≡ false → eqb lead 0xD1 ≡ false → is_taken (lead ∷ next ∷ []) ≡ false
unfolding is_taken
other_taken lead next p q = rw (other_lead lead next p q)

-- the octets of Ё and of ё
abbrev pub is_yo : ℕ → ℕ → Bool
is_yo lead next = (eqb lead 0xD0 && eqb next 0x81) || (eqb lead 0xD1 && eqb next 0x91)

-- What is told of two octets, of which the second is any
module _ (lead next : ℕ) (h : next < 256) where
  -- the table has the first for the second only if that is one of the two, or stands for itself
  lead_other : among ascii_bytes lead ≡ false → eqb lead 0xD0 ≡ false → eqb lead 0xD1 ≡ false → eqb (lead_of next) lead ≡ false
  unfolding everything lead_of
  lead_other s p q = refuted (eqb (lead_of next) lead) (λ e. true≢false (sym
      (rw (eqb-true (lead_of next) lead e) at (below_same (λ x. among (0xD0 ∷ 0xD1 ∷ gap ∷ []) (lead_of x)) (λ _. true) 256 next refl h))
      ∙ rw (p, q, among_none ascii_bytes lead gap s refl)))

  -- behind an octet that does not stand for itself it is a letter's where the table says so, or where they are Ё or ё
  pub pair_taken : among ascii_bytes lead ≡ false → is_taken (lead ∷ next ∷ []) ≡ (eqb (lead_of next) lead || is_yo lead next)
  unfolding everything lead_of
  pair_taken s = by_lead (λ l. is_taken (l ∷ next ∷ []) ≡ (eqb (lead_of next) l || is_yo l next)) lead
      (below_same (λ x. is_taken (0xD0 ∷ x ∷ [])) (λ x. eqb (lead_of x) 0xD0 || is_yo 0xD0 x) 256 next refl h)
      (below_same (λ x. is_taken (0xD1 ∷ x ∷ [])) (λ x. eqb (lead_of x) 0xD1 || is_yo 0xD1 x) 256 next refl h)
      (λ p q. other_taken lead next p q ∙ sym (rw (lead_other s p q, p, q)))

  -- a letter's octets lie in these ranges, and the other table has the letter
  pair_lead : is_taken (lead ∷ next ∷ []) ≡ true → between 0xD0 0xD1 lead ≡ true
  pair_lead = by_lead (λ l. is_taken (l ∷ next ∷ []) ≡ true → between 0xD0 0xD1 l ≡ true) lead (λ e. refl) (λ e. refl)
      (λ p q e. absurd (true≢false (sym e ∙ other_taken lead next p q)))

  pair_next : is_taken (lead ∷ next ∷ []) ≡ true → between 0x80 0xBF next ≡ true
  unfolding everything
  pair_next = by_lead (λ l. is_taken (l ∷ next ∷ []) ≡ true → between 0x80 0xBF next ≡ true) lead
      (λ e. rw e at (below_same (λ x. cond (is_taken (0xD0 ∷ x ∷ [])) (between 0x80 0xBF x) true) (λ _. true) 256 next refl h))
      (λ e. rw e at (below_same (λ x. cond (is_taken (0xD1 ∷ x ∷ [])) (between 0x80 0xBF x) true) (λ _. true) 256 next refl h))
      (λ p q e. absurd (true≢false (sym e ∙ other_taken lead next p q)))

  pub pair_byte : is_taken (lead ∷ next ∷ []) ≡ true → byte_of (lead ∷ next ∷ []) ≡ letter_of (64 * (lead - 0xD0) + (next - 0x80))
  unfolding everything letter_of
  pair_byte = by_lead (λ l. is_taken (l ∷ next ∷ []) ≡ true → byte_of (l ∷ next ∷ []) ≡ letter_of (64 * (l - 0xD0) + (next - 0x80))) lead
      (λ e. rw e at (below_same (λ x. cond (is_taken (0xD0 ∷ x ∷ [])) (byte_of (0xD0 ∷ x ∷ [])) 0)
      (λ x. cond (is_taken (0xD0 ∷ x ∷ [])) (letter_of (64 * (0xD0 - 0xD0) + (x - 0x80))) 0) 256 next refl h))
      (λ e. rw e at (below_same (λ x. cond (is_taken (0xD1 ∷ x ∷ [])) (byte_of (0xD1 ∷ x ∷ [])) 0)
      (λ x. cond (is_taken (0xD1 ∷ x ∷ [])) (letter_of (64 * (0xD1 - 0xD0) + (x - 0x80))) 0) 256 next refl h))
      (λ p q e. absurd (true≢false (sym e ∙ other_taken lead next p q)))

  pub lead_within : is_taken (lead ∷ next ∷ []) ≡ true → (0xD0 ≤ lead) × (lead ≤ 0xD1)
  lead_within e = let b = (and-eq-true_iff _ _).0 (pair_lead e) in (leb-true 0xD0 lead b.0, leb-true lead 0xD1 b.1)

  pub next_within : is_taken (lead ∷ next ∷ []) ≡ true → (0x80 ≤ next) × (next ≤ 0xBF)
  next_within e = let b = (and-eq-true_iff _ _).0 (pair_next e) in (leb-true 0x80 next b.0, leb-true next 0xBF b.1)

-- what the tables have
pub leads_read : {t : List ℕ} {b : ℕ} → t ≡ leads → b < 256 → get_or t b 0 ≡ lead_of b
unfolding leads
leads_read = tabulate_read lead_of 256

pub letters_read : {t : List ℕ} {c : ℕ} → t ≡ letters → c < 128 → get_or t c 0 ≡ letter_of c
unfolding letters
letters_read = tabulate_read letter_of 128

-- The octets of a byte of a message: itself below 0x80
pub single_sequence : (b : ℕ) → has_row b ≡ true → b < 0x80 → sequence b ≡ b ∷ []
unfolding everything
single_sequence b h l = rw (le-leb b 0x7F (omega arith)) at
    (among_same (λ x. cond (leb x 0x7F) (sequence x) (x ∷ [])) (λ x. x ∷ []) (row_bytes characters) b refl h)

-- and those that the table has from there on, where all bytes are letters: two octets,
pub letter_sequence : (b : ℕ) → has_row b ≡ true → 0x80 ≤ b
    → sequence b ≡ (sequence_of (b - 0xA8) / 256) ∷ (sequence_of (b - 0xA8) % 256) ∷ []
unfolding everything sequence_of both
letter_sequence b h l = rw (lt-leb b 0x7F (omega arith)) at (among_same (λ x. cond (leb x 0x7F) [] (sequence x))
    (λ x. cond (leb x 0x7F) [] ((sequence_of (x - 0xA8) / 256) ∷ (sequence_of (x - 0xA8) % 256) ∷ [])) (row_bytes characters) b refl h)

-- which are the bytes of the table's number, the high one first,
pub letter_octets : (b : ℕ) → has_row b ≡ true → 0x80 ≤ b → to_be_bytes w16 (sequence_of (b - 0xA8)) ≡ sequence b
unfolding everything sequence_of both
letter_octets b h l =
    let same = among_same (λ x. cond (leb x 0x7F) [] (to_be_bytes w16 (sequence_of (x - 0xA8))))
    (λ x. cond (leb x 0x7F) [] (sequence x)) (row_bytes characters) b refl h in
    rw (lt-leb b 0x7F (omega arith)) at same

-- and by themselves
pub letter_two : (b : ℕ) → has_row b ≡ true → 0x80 ≤ b → sequence b ≡ get_or (sequence b) 0 0 ∷ get_or (sequence b) 1 0 ∷ []
letter_two b h l = rw (letter_sequence b h l) refl

pub letter_within : (b : ℕ) → has_row b ≡ true → 0x80 ≤ b → 0xA8 ≤ b
unfolding everything
letter_within b h l = leb-true 0xA8 b (rw (lt-leb b 0x7F (omega arith)) at
    (among_same (λ x. cond (leb x 0x7F) true (leb 0xA8 x)) (λ _. true) (row_bytes characters) b refl h))

pub sequences_read : {t : List ℕ} {j : ℕ} → t ≡ sequences → j < 88 → get_or t j 0 ≡ sequence_of j
unfolding sequences
sequences_read = tabulate_read sequence_of 88
