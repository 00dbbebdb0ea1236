-- The check's tables by their rules: each entry is what specs/Steps.antt says, by one computation over all of them.
use Rattle.laws.proofs.Kit.{ℕ, ◌+◌, ◌-◌, ◌*◌, ◌/◌, ◌%◌, ◌<◌, ◌≤◌, ◌≡◌, refl, true, cond, List, map, arith, eqb, leb, get_or}
use Rattle.laws.proofs.Kit.{eqb-true, eqb-false, leb-true}
use Rattle.letters.specs.Classes.{soft_sign_class, paired_class, t_or_d_class}
use Rattle.letters.specs.Classes.{class_count, class_at, is_break_class, is_consonant_class, is_sign_class, elided_at, silent_at}
use Rattle.message.specs.Steps.{is_soft_sign_kind, is_sign_kind, next_kind, fault_in, width_in, names_in, ask_in, stop_in, packed, pairs}
use Rattle.message.specs.Steps.{kind_at}
use Rattle.message.specs.Steps.{width_at, name_unit, ask_unit, stop_unit}
use Rattle.letters.proofs.{Silent.class_spoken, Silent.before_spoken, Tabulated.tabulate_at}
use Rattle.message.proofs.Computed.{everything}
use Rattle.laws.proofs.{Classes.either, Classes.below, Classes.pairs_same, Elided.only_where}

-- How large the parts of an entry are. A stop is 1 and the fault, and where there is none the class is the next kind.
pub record Entry (k c : ℕ) : Type 0 where
  pub width : width_in k c ≤ 2
  pub names : names_in k c ≤ 1
  pub ask : ask_in k c ≤ 1
  pub stop : stop_in k c ≤ 31
  pub next : next_kind k c < 16
  pub fault : fault_in k c ≡ stop_in k c - 1
  pub plain : stop_in k c ≡ 0 → next_kind k c ≡ c
  pub break : is_break_class (next_kind k c) ≡ is_break_class c
  pub consonant : is_consonant_class (next_kind k c) ≡ is_consonant_class c
  pub sign : is_sign_kind (next_kind k c) ≡ is_sign_class c
  pub soft_sign : is_soft_sign_kind (next_kind k c) ≡ eqb c soft_sign_class

-- every entry that is read is so, by one computation each
pub entry_holds : (k c : ℕ) → k < 16 → c < class_count → Entry k c
unfolding everything
entry_holds k c h l = record {
  width = most width_in 2 refl;
  names = most names_in 1 refl;
  ask = most ask_in 1 refl;
  stop = most stop_in 31 refl;
  next = omega (arith, most next_kind 15 refl);
  fault = pairs_same fault_in (λ x y. stop_in x y - 1) 16 class_count k c refl h l;
  plain = λ e. rw e at (pairs_same (λ x y. cond (eqb (stop_in x y) 0) (next_kind x y) y) (λ x y. y) 16 class_count k c refl h l);
  break = pairs_same (λ x y. is_break_class (next_kind x y)) (λ x y. is_break_class y) 16 class_count k c refl h l;
  consonant = pairs_same (λ x y. is_consonant_class (next_kind x y)) (λ x y. is_consonant_class y) 16 class_count k c refl h l;
  sign = pairs_same (λ x y. is_sign_kind (next_kind x y)) (λ x y. is_sign_class y) 16 class_count k c refl h l;
  soft_sign = pairs_same (λ x y. is_soft_sign_kind (next_kind x y)) (λ x y. eqb y soft_sign_class) 16 class_count k c refl h l;
}
  where
    most : (f : ℕ → ℕ → ℕ) (n : ℕ) → map (λ x. map (λ y. leb (f x y) n) (below class_count)) (below 16) ≡ map (λ x. map (λ y. true) (below class_count)) (below 16) → f k c ≤ n
    most f n e = leb-true (f k c) n (pairs_same (λ x y. leb (f x y) n) (λ x y. true) 16 class_count k c e h l)

-- What is packed can be taken apart.
pub record Unpacks (k c : ℕ) : Type 0 where
  pub counts : packed k c % ask_unit ≡ width_in k c + name_unit * names_in k c
  pub ask : packed k c < ask_unit → ask_in k c ≡ 0
  pub stop : packed k c / stop_unit ≡ stop_in k c
  pub small : packed k c < 32 * stop_unit

-- every entry can
pub unpacks : (k c : ℕ) → Entry k c → Unpacks k c
unfolding packed
unpacks k c e = record {
  counts = omega (arith, e.width, e.names, e.ask);
  ask = λ h. omega (arith, h);
  stop = omega (arith, e.width, e.names, e.ask);
  small = omega (arith, e.width, e.names, e.ask, e.stop);
}

-- the table of pairs has a row of 16 classes for each kind, and its entries are small
pub pairs_read : (t : List ℕ) (k c : ℕ) → t ≡ pairs → k < 16 → c < class_count → (16 * k + c < 256) × (get_or t (16 * k + c) 0 ≡ packed k c) × (packed k c < 32 * stop_unit)
unfolding pairs
pairs_read t k c e h l =
    let f : ℕ → ℕ = λ j. packed (j / 16) (j % 16) in
    let q : (0 + (16 * k + c)) / 16 ≡ k = omega arith in
    let r : (0 + (16 * k + c)) % 16 ≡ c = omega arith in
    (omega arith, rw (e, tabulate_at f 0 256 (16 * k + c) (omega arith), q, r), (unpacks k c (entry_holds k c h l)).small)

-- Only a letter that may be elided is, and it makes one code: so a byte asks where it loses a code, and the codes it makes and the one it
-- loses are those of its class.
pub silent_asks : (m : List ℕ) (i : ℕ) → ((j : ℕ) → get_or m j 0 < 256)
    → (silent_at m i ≤ ask_in (kind_at m i) (class_at m i)) × (width_at m i (kind_at m i) + silent_at m i ≡ width_in (kind_at m i) (class_at m i))
unfolding ask_in width_in width_at kind_at next_kind
silent_asks m i bytes = either (elided_at m i) (λ e.
    let c = eqb-true (class_at m i) t_or_d_class (only_where _ _ (λ q. class_spoken m i (bytes i) (eqb-false (class_at m i) t_or_d_class q)) e) in
    let k = eqb-true (kind_at m i) paired_class
    (only_where _ _ (λ q. before_spoken m i bytes (λ j z y. eqb-false (kind_at m i) paired_class q (rw (z, y)))) e) in
    rw (e, k, c) (omega arith, omega arith))
    (λ e. rw e (omega arith, omega arith))
