-- A part of an accepted message, cut at its breaks, is accepted: every row looks back no further than the break before and ahead no
-- further than the next break, but for a break last; and a break last in a part would stand before a break or last in the message.
use Rattle.laws.proofs.Kit.{ℕ, zero, suc, ◌+◌, ◌-◌, ◌<◌, ◌≤◌, ◌≡◌, refl, sym, ◌∙◌, Bool, true, false, ◌||◌, or-true, true≢false, List, []}
use Rattle.laws.proofs.Kit.{◌∷◌, ◌++◌, append-nil, ◌⊎◌, inl, inr, ⊎_elim, arith, length, take, drop, get_or, length-take, length-drop}
use Rattle.laws.proofs.Kit.{take_all, take-append-drop, drop-cons, drop-drop, drop-length, get_or-take, get_or-drop}
use Rattle.spec.specs.Refusals.{vowel_byte, sign_byte, hard_sign_byte, first, none, adjacent, vowel_sign, letters_before, row3, row4, row5}
use Rattle.spec.specs.Refusals.{row6, row7, row8, row9, row10, rows, fits_in, before_at, check_of, NoneFits}
use Rattle.spec.specs.{Letters.is_break, Letters.is_mark, Joints.RisingFrom, Joints.EachPartFrom, declared.Counts.Counts}
use Rattle.laws.proofs.Accepted.{counts_of, Clear, Passes, ClearFrom, places_clear, each_place, accepted_passes, passes_accepted}
use Rattle.laws.proofs.Accepted.{passes_none}
use Rattle.laws.proofs.Classes.{cond_app, either, refuted, NoBreak, break_mark, break_vowel, break_sign, break_hard_sign, or-false}
use Rattle.laws.proofs.Cuts.{break_within}
use Rattle.laws.specs.Parts.{part, Begins}
use Rattle.std.proofs.Common.{Ok}

-- the bytes before a part, nearest first: none, or a break is next
abbrev pub Opens : List ℕ → Type 0
Opens [] = Unit {0}
Opens (d ∷ t) = is_break d ≡ true

-- so are those before a place where a part may begin
begins_opens : (m : List ℕ) (a : ℕ) → Begins m a → Opens (before_at m a)
unfolding before_at
begins_opens m zero b = tt
begins_opens m (suc c) b = b

-- Each test of the bytes before a byte stops at a break d, so it says the same of a part's bytes x alone.
module _ (d : ℕ) (t : List ℕ) (o : is_break d ≡ true) where
  -- of the byte right before
  first_over : (class : ℕ → Bool) → NoBreak class → (x : List ℕ) → first class (x ++ (d ∷ t)) ≡ first class x
  unfolding first
  first_over class n [] = n d o
  first_over class n (b ∷ x) = refl

  -- is it the start of a word, or does something else hold?
  start_over : (y : Bool) (x : List ℕ) → (none (x ++ (d ∷ t)) || (y || first is_break (x ++ (d ∷ t)))) ≡ (none x || (y || first is_break x))
  unfolding none first
  start_over y [] = rw (o, or-true)
  start_over y (b ∷ x) = refl

  -- a test that stops at a break stops there from the adjacent letter on
  adjacent_over : (f : List ℕ → Bool) → ((x : List ℕ) → f (x ++ (d ∷ t)) ≡ f x) → (x : List ℕ)
      → f (adjacent (x ++ (d ∷ t))) ≡ f (adjacent x)
  unfolding adjacent
  adjacent_over f h [] = rw (break_mark d o) (h [])
  adjacent_over f h (b ∷ x) =
      rw (cond_app f (is_mark b) (x ++ (d ∷ t)) (b ∷ (x ++ (d ∷ t))), h x, h (b ∷ x)) (sym (cond_app f (is_mark b) x (b ∷ x)))

  -- the class of the adjacent letter
  near_over : (class : ℕ → Bool) → NoBreak class → (x : List ℕ) → first class (adjacent (x ++ (d ∷ t))) ≡ first class (adjacent x)
  near_over class n = adjacent_over (first class) (first_over class n)

  -- a sign after a vowel
  sign_over : (x : List ℕ) → vowel_sign (x ++ (d ∷ t)) ≡ vowel_sign x
  unfolding vowel_sign
  sign_over [] = rw (break_sign d o)
  sign_over (b ∷ x) = rw (near_over vowel_byte break_vowel x)

  -- the letters of the word
  letters_over : (x : List ℕ) → letters_before (x ++ (d ∷ t)) ≡ letters_before x
  unfolding letters_before
  letters_over [] = rw o
  letters_over (b ∷ x) = rw (letters_over x)

-- So a row fits after the bytes of a part just when it fits after those and what stands before the part.
pub rows_over : (k : ℕ) (x t : List ℕ) (b : ℕ) (after : List ℕ) → Opens t → fits_in rows k (x ++ t) b after ≡ fits_in rows k x b after
unfolding fits_in rows row3 row4 row5 row6 row7 row8 row9 row10
rows_over k x [] b after o = rw append-nil
rows_over k x (d ∷ t) b after o =
    rw (
      start_over d t o (none after) x,
      start_over d t o false x,
      first_over d t o vowel_byte break_vowel x,
      near_over d t o sign_byte break_sign x,
      near_over d t o hard_sign_byte break_hard_sign x,
      adjacent_over d t o vowel_sign (sign_over d t o) x,
      letters_over d t o x,
    )

-- Whether a break is last: the one row that looks past the next break.
last_after : (x : List ℕ) (b : ℕ) (p q : List ℕ) → (is_break b ≡ true → none p ≡ none q) → row4 x b p ≡ row4 x b q
unfolding row4
last_after x b p q n = either (is_break b) (λ d. rw (n d)) (λ d. rw d)

-- A row looks ahead no further than the next break or the end: it fits before the bytes p of a part just when it fits before those and
-- the bytes y behind the part, where a break is last in both or in neither. A row that looks ahead as far as a break adds a line here.
pub rows_after : (k : ℕ) (x : List ℕ) (b : ℕ) (p y : List ℕ) → Opens y → (is_break b ≡ true → none (p ++ y) ≡ none p)
    → fits_in rows k x b (p ++ y) ≡ fits_in rows k x b p
unfolding fits_in rows row3 row5 row6 row7 row8 row9 row10
rows_after k x b p y o n = rw (last_after x b (p ++ y) p n)

-- a clear break is not last
pub clear_followed : (x : List ℕ) (b : ℕ) (after : List ℕ) → Clear x b after → is_break b ≡ true → none after ≡ false
unfolding fits_in rows row4
clear_followed x b after c d = (or-false (none after) _ (or-false (none x) _ (rw d at (c 4))).1).0

-- a byte that is clear in a message is clear in a part, where no break is last
clear_part : (x t : List ℕ) (b : ℕ) (p y : List ℕ) → Opens t → Opens y → (is_break b ≡ true → none p ≡ false)
    → Clear (x ++ t) b (p ++ y) → Clear x b p
clear_part x t b p y o q n c k =
    sym (rows_after k x b p y q (λ d. clear_followed (x ++ t) b (p ++ y) c d ∙ sym (n d))) ∙ sym (rows_over k x t b (p ++ y) o) ∙ c k

-- a clear byte that is last, or before a break, is no break
pub last_firm : (x : List ℕ) (b : ℕ) (y : List ℕ) → Opens y → ClearFrom x (b ∷ y) → is_break b ≡ false
unfolding fits_in rows row4 none first
last_firm x b [] o c = refuted _ (λ d. true≢false (rw (d, or-true) at (c.0 4)))
last_firm x b (d ∷ y) o c = refuted _ (λ e. true≢false (rw (o, e, or-true) at (c.1.0 4)))

-- so clear bytes with breaks around a part of them are clear in the part alone
part_clear : (x t p y : List ℕ) → Opens t → Opens y → ClearFrom (x ++ t) (p ++ y) → ClearFrom x p
unfolding none
part_clear x t [] y o q c = tt
part_clear x t (b ∷ []) y o q c = (clear_part x t b [] y o q (λ d. absurd (true≢false (sym d ∙ last_firm (x ++ t) b y q c))) c.0, tt)
part_clear x t (b ∷ d ∷ p) y o q c = (clear_part x t b (d ∷ p) y o q (λ _. refl) c.0, part_clear (b ∷ x) t (d ∷ p) y o q c.1)

module _ (m : List ℕ) (a e : ℕ) where
  -- a part has its length
  pub part_length : e ≤ length m → length (part m a e) ≡ e - a
  part_length l = simp (length-take, length-drop) (omega arith)

  -- and at each place the message's byte
  pub part_at : (i : ℕ) → i < e - a → get_or (part m a e) i 0 ≡ get_or m (a + i) 0
  part_at i k = rw (get_or-take, get_or-drop)

module _ (m : List ℕ) (p : Passes m) where
  -- what stands at the end of a part
  ends_opens : (e : ℕ) → (is_break (get_or m e 0) ≡ true) ⊎ (e ≡ length m) → Opens (drop e m)
  ends_opens e = ⊎_elim (λ k. rw (drop-cons m e 0 (break_within m e k)) k) (λ k. rw (k, drop-length) tt)

  -- no part is empty
  part_some : (a : ℕ) → Begins m a → Opens (drop a m) → ⊥
  unfolding before_at fits_in rows row4 none
  part_some zero b o = let d : is_break (get_or m 0 0) ≡ true = rw (drop-cons m 0 0 p.some) at o in true≢false (rw d at (p.rows 0 p.some 4))
  part_some (suc c) b o =
      true≢false (sym b ∙ last_firm (before_at m c) _ _ o (rw (drop-cons m c 0 (break_within m c b)) at (places_clear m p.rows _ c refl)))

  -- nothing of the table fits a part
  part_passes : (a e : ℕ) → Begins m a → a ≤ e → e ≤ length m → (is_break (get_or m e 0) ≡ true) ⊎ (e ≡ length m) → Passes (part m a e)
  unfolding before_at
  part_passes a e b h l s =
      let o = ends_opens e s in
      let n = part_length m a e l in
      let w : a ≡ e → ⊥ = λ q. part_some a b (rw q o) in
      let z : a + (e - a) ≡ e = omega arith in
      let t : drop a m ≡ part m a e ++ drop e m = sym (take-append-drop (e - a) (drop a m)) ∙ rw (drop-drop, z) in
      record {
        some = omega arith;
        short = omega (arith, p.short);
        rows = λ i k. each_place (part m a e) Clear (part m a e) 0 refl
            (part_clear [] (before_at m a) (part m a e) (drop e m) (begins_opens m a b) o (places_clear m p.rows _ a t)) i (omega arith) k;
      }

-- the bytes from a up to e, where a is the start or follows a break, and e is the end or the place of a break
pub part_accepted : (m : List ℕ) (counts : Counts) (a e : ℕ) → check_of m ≡ Ok counts
    → Begins m a → a ≤ e → e ≤ length m → (is_break (get_or m e 0) ≡ true) ⊎ (e ≡ length m)
    → check_of (take (e - a) (drop a m)) ≡ Ok (counts_of (take (e - a) (drop a m)))
part_accepted m counts a e c b h l s = passes_accepted (part m a e) (part_passes m (accepted_passes m counts c) a e b h l s)

-- Each part of an accepted message, cut at breaks, is accepted.
module _ (m : List ℕ) (p : Passes m) where
  pub parts_none : (a : ℕ) (cuts : List ℕ) → Begins m a → a ≤ length m → RisingFrom m a cuts → EachPartFrom NoneFits m a cuts
  parts_none a [] b l r =
      let e = part_passes m p a (length m) b l (omega arith) (inr refl) in
      passes_none (drop a m) (rw (take_all (length m - a) (drop a m) (omega (arith, length-drop a m))) at e)
  parts_none a (c ∷ cuts) b l r =
      let n = break_within m c r.1 in
      (passes_none (part m a c) (part_passes m p a c b r.0 (omega arith) (inl r.1)), parts_none (suc c) cuts r.1 n r.2)
