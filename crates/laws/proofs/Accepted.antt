-- The message check gives a number exactly where its condition holds and none earlier does, and accepts exactly what no number fits: the
-- scan goes on over a byte only where no row fits, and at a byte the first row of the list that fits is given.
use Rattle.laws.proofs.Kit.{ℕ, zero, suc, ◌<◌, ◌≤◌, ◌≡◌, refl, sym, ap, ◌∙◌, ◌⊎◌, inl, inr, ⊎_elim, true, false, cond, ◌&&◌}
use Rattle.laws.proofs.Kit.{and_parts, and-false, or-true, true≢false, false≢true, List, [], ◌∷◌, arith, eqb, leb, length, get_or}
use Rattle.laws.proofs.Kit.{drop, length-drop, drop-cons, eqb-true, eqb-false, eq-eqb, ne_eqb, leb-true, leb-false, le-leb, lt-leb}
use Rattle.spec.specs.Refusals.{Row, ◌when◌, rows, first_fit, fault_at, refusal, scan, check_of, fits_in, before_at, fits, index_in, rank}
use Rattle.spec.specs.Refusals.{NoneFits, Earlier, Given}
use Rattle.spec.specs.Counting.{code_count, name_count}
use Rattle.spec.specs.{Tape.sounds, Tape.names, Tables.among, declared.Counts.Counts, Results.Checked}
use Rattle.spec.proofs.Computed.{everything}
use Rattle.laws.proofs.Classes.{cond_app, cond_same, either, refuted, below_or, among_same, among_none}
use Rattle.laws.proofs.Counting.{tape_count, names_count}
use Rattle.std.proofs.Common.{Ok, Err}

-- the numbers of a list of rows
unfoldable pub numbers : List Row → List ℕ
numbers [] = []
numbers ((n when test) ∷ rs) = n ∷ numbers rs

-- no number stands there twice
abbrev Distinct : List Row → Type 0
Distinct [] = Unit {0}
Distinct ((n when test) ∷ rs) = (among (numbers rs) n ≡ false) × Distinct rs

-- The table: 1 and 2, which fit no message of 1 to 4,096 bytes, before the rows.
abbrev table : List Row
table = (1 when λ _ _ _. false) ∷ (2 when λ _ _ _. false) ∷ rows

table_distinct : Distinct table
unfolding everything numbers
table_distinct = (refl, (refl, (refl, (refl, (refl, (refl, (refl, (refl, (refl, (refl, tt))))))))))

module _ (before : List ℕ) (b : ℕ) (after : List ℕ) where
  -- a number that fits stands in the list
  fits_among : (rs : List Row) (k : ℕ) → fits_in rs k before b after ≡ true → among (numbers rs) k ≡ true
  unfolding fits_in among numbers
  fits_among [] k e = e
  fits_among ((n when test) ∷ rs) k e =
      either (eqb n k) (λ q. rw (eqb-true n k q, eq-eqb k k refl)) (λ q. rw (fits_among rs k (rw q at e), or-true))

  -- the first row that fits does fit
  first_fits : (rs : List Row) → Distinct rs → 0 < first_fit rs before b after
      → fits_in rs (first_fit rs before b after) before b after ≡ true
  unfolding first_fit fits_in
  first_fits [] o z = absurd (omega arith)
  first_fits ((n when test) ∷ rs) o z =
      either (test before b after) (λ q. rw q (rw (eq-eqb n n refl)))
      (λ q. let g = first_fits rs o.1 (rw q at z) in rw q (rw (among_none (numbers rs) n _ o.0 (fits_among rs _ g)) g))

  -- no row before it does
  first_first : (rs : List Row) (k : ℕ) → index_in rs k < index_in rs (first_fit rs before b after) → fits_in rs k before b after ≡ false
  unfolding first_fit fits_in index_in
  first_first [] k i = refl
  first_first ((n when test) ∷ rs) k i =
      either (test before b after) (λ q. absurd (omega (arith, rw (q, eq-eqb n n refl) at i)))
      (λ q. either (eqb n k) (λ u. rw u q) (λ u. rw u (either (eqb n (first_fit rs before b after))
      (λ v. absurd (omega (arith, rw (q, u, v) at i))) (λ v. first_first rs k (omega (arith, rw (q, u, v) at i))))))

-- no row fits at a byte
abbrev pub Clear : List ℕ → ℕ → List ℕ → Type 0
Clear before b after = (k : ℕ) → fits_in rows k before b after ≡ false

-- no fault, no row: the number 0 stands in no row, so no index is past its own
pub fault_clear : (before : List ℕ) (b : ℕ) (after : List ℕ) → fault_at before b after ≡ 0 → Clear before b after
unfolding fault_at everything numbers
fault_clear before b after e k = refuted _ (λ f.
    let i = among_same (λ x. leb (suc (index_in rows x)) (index_in rows 0)) (λ _. true) (numbers rows) k refl
    (fits_among before b after rows k f) in
    true≢false (sym f ∙ first_first before b after rows k (rw e (leb-true _ _ i))))

-- what an accepted message's check answers
abbrev pub counts_of : List ℕ → Counts
counts_of m = record { codes = code_count m; names = name_count m }

-- no row fits at place i of a message
abbrev pub ClearAt : List ℕ → ℕ → Type 0
ClearAt m i = Clear (before_at m i) (get_or m i 0) (drop (suc i) m)

-- as many bytes stand before a place as it counts
pub before_length : (m : List ℕ) (i : ℕ) → length (before_at m i) ≡ i
unfolding before_at
before_length m zero = refl
before_length m (suc i) = ap suc (before_length m i)

-- Nothing of the table fits a message: it has 1 to 4,096 bytes, and no row fits at any of them.
pub record Passes (m : List ℕ) : Type 0 where
  pub some : 0 < length m
  pub short : length m ≤ 4096
  pub rows : (i : ℕ) → i < length m → ClearAt m i

-- a fault that the check gives, at a place that a message may have
pub record Fault (m : List ℕ) (d : Checked) : Type 0 where
  pub number : ℕ
  pub place : ℕ
  pub refused : d ≡ Err (refusal number place)
  pub given : Given m number place
  pub within : place ≤ 4096

-- what the check has found in a message: nothing, or the first fault
abbrev pub Finds : List ℕ → Checked → Type 0
Finds m d = ((d ≡ Ok (counts_of m)) × Passes m) ⊎ Fault m d

-- a test of two numbers is one of them the other way round
eqb_swap : (a b : ℕ) → eqb a b ≡ eqb b a
eqb_swap a b = either (eqb a b) (λ q. rw (eqb-true a b q)) (λ q. q ∙ sym (ne_eqb b a (λ e. eqb-false a b q (sym e))))

-- the order of the numbers is that of the table
rank_index : (k : ℕ) → rank k ≡ index_in table k
unfolding rank index_in
rank_index k = rw (eqb_swap k 1, eqb_swap k 2) (sym (ap (cond (eqb 1 k) 0) (cond_app suc (eqb 2 k) 0 (suc (index_in rows k)))))

-- a number that fits is one of the table, so its rank tells it
fits_number : (m : List ℕ) (k p : ℕ) → fits m k p ≡ true → among (numbers table) k ≡ true
unfolding fits among numbers
fits_number m k p e = either (eqb k 1) (λ q. rw q) (λ q. either (eqb k 2) (λ r. rw (eqb-true k 2 r)) (λ r.
    rw (q, r) (fits_among (before_at m p) (get_or m p 0) (drop (suc p) m) rows k
    (and_parts (leb (suc p) (length m)) _ (rw (q, r) at e)).1)))

rank_number : (m : List ℕ) (k p : ℕ) → fits m k p ≡ true → get_or (numbers table) (rank k) 0 ≡ k
unfolding everything numbers
rank_number m k p e = among_same (λ x. get_or (numbers table) (rank x) 0) (λ x. x) (numbers table) k refl (fits_number m k p e)

-- and it is 1 to 10
pub given_range : {m : List ℕ} {n p : ℕ} → Given m n p → (1 ≤ n) × (n ≤ 10)
unfolding everything numbers
given_range {m} {n} {p} g =
    let r = and_parts (leb 1 n) (leb n 10) (among_same (λ x. leb 1 x && leb x 10) (λ _. true) (numbers table) n refl
    (fits_number m n p g.holds)) in
    (leb-true 1 n r.0, leb-true n 10 r.1)

-- number 1: nothing comes before it
pub empty_given : (m : List ℕ) → length m ≡ 0 → Given m 1 0
unfolding fits rank
empty_given m e = record { holds = rw e; first = λ k q. ⊎_elim (λ l. absurd (omega arith)) (λ l. absurd (omega (arith, l.1))) }

-- number 2: only number 1 comes before it
pub long_given : (m : List ℕ) → 4096 < length m → Given m 2 0
unfolding fits rank numbers
long_given m h = record {
  holds = rw (lt-leb (length m) 4096 h);
  first = λ k q. ⊎_elim (λ l. absurd (omega arith)) (λ l. refuted _ (λ f.
      let z : rank k ≡ 0 = omega (arith, l.1) in
      let e : 1 ≡ k = rw z at (rank_number m k q f) in
      false≢true (rw (← e, ne_eqb (length m) 0 (omega arith), and-false) at f)));
}

-- the bytes from a place on begin with the byte that stands there
pub rest_first : (m : List ℕ) (i b : ℕ) (r : List ℕ) → drop i m ≡ b ∷ r → (i < length m) × (get_or m i 0 ≡ b) × (drop (suc i) m ≡ r)
rest_first m i b r e =
    let h : i < length m = omega (arith, length-drop i m, ap length e) in
    let s = sym (drop-cons m i 0 h) ∙ e in
    (h, cc s, cc s)

-- a claim on each of these bytes, behind those before them
abbrev pub EachFrom : (List ℕ → ℕ → List ℕ → Type 0) → List ℕ → List ℕ → Type 0
EachFrom P before [] = Unit {0}
EachFrom P before (b ∷ m) = P before b m × EachFrom P (b ∷ before) m

-- no row fits at any of them
abbrev pub ClearFrom : List ℕ → List ℕ → Type 0
ClearFrom before m = EachFrom Clear before m

module _ (m : List ℕ) where
  -- so it is from each place on of a message where no row fits at any
  pub places_clear : ((i : ℕ) → i < length m → ClearAt m i) → (r : List ℕ) (a : ℕ) → drop a m ≡ r → ClearFrom (before_at m a) r
  unfolding before_at
  places_clear c [] a e = tt
  places_clear c (b ∷ r) a e = let s = rest_first m a b r e in (rw (s.1, s.2) at (c a s.0), rw s.1 at (places_clear c r (suc a) s.2))

  -- and the other way round, whatever is claimed
  pub each_place : (P : List ℕ → ℕ → List ℕ → Type 0) (r : List ℕ) (a : ℕ) → drop a m ≡ r → EachFrom P (before_at m a) r
      → (i : ℕ) → a ≤ i → i < length m → P (before_at m i) (get_or m i 0) (drop (suc i) m)
  unfolding before_at
  each_place P [] a e c i l h = absurd (omega (arith, length-drop a m, ap length e))
  each_place P (b ∷ r) a e c i l h =
      let s = rest_first m a b r e in
      ⊎_elim (λ g. each_place P r (suc a) s.2 (rw s.1 c.1) i g h) (λ g. let q : i ≡ a = omega arith in rw (q, s.1, s.2) c.0) (below_or a i)

-- In a message of 1 to 4,096 bytes only rows can fit.
module _ (m : List ℕ) (z : 0 < length m) (s : length m ≤ 4096) where
  -- at a place of it
  sized_fits : (k p : ℕ) → p < length m → fits m k p ≡ fits_in table k (before_at m p) (get_or m p 0) (drop (suc p) m)
  unfolding fits fits_in
  sized_fits k p h =
      rw (ne_eqb (length m) 0 (omega arith), le-leb (length m) 4096 s, le-leb (suc p) (length m) h, and-false, eqb_swap k 1, eqb_swap k 2)

  clear_fits : (k p : ℕ) → p < length m → ClearAt m p → fits m k p ≡ false
  unfolding fits_in
  clear_fits k p h c = rw (sized_fits k p h, c k) (simp cond_same)

  -- and none past its end
  past_fits : (k p : ℕ) → length m ≤ p → fits m k p ≡ false
  unfolding fits
  past_fits k p h =
      rw (ne_eqb (length m) 0 (omega arith), le-leb (length m) 4096 s, lt-leb (suc p) (length m) (omega arith), and-false) (simp cond_same)

  -- the first place with a fault gives its number
  fault_given : (p : ℕ) → p < length m → ((j : ℕ) → j < p → ClearAt m j)
      → (fault_at (before_at m p) (get_or m p 0) (drop (suc p) m) ≡ 0 → ⊥)
      → Given m (fault_at (before_at m p) (get_or m p 0) (drop (suc p) m)) p
  unfolding fault_at first_fit
  fault_given p h c f = record {
    holds = sized_fits _ p h ∙ first_fits (before_at m p) (get_or m p 0) (drop (suc p) m) table table_distinct (omega arith);
    first = λ k q. ⊎_elim (λ l. clear_fits k q (omega arith) (c q l))
        (λ e. rw e.0 (sized_fits k p h ∙ first_first (before_at m p) (get_or m p 0) (drop (suc p) m) table k
        (rw (rank_index k, rank_index (first_fit rows (before_at m p) (get_or m p 0) (drop (suc p) m))) at e.1)));
  }

  -- the scan goes on over the bytes that are clear, to the end or to the first fault
  scan_finds : (r : List ℕ) (i : ℕ) → drop i m ≡ r → i ≤ length m → ((j : ℕ) → j < i → ClearAt m j)
      → Finds m (scan (Ok (counts_of m)) (before_at m i) r)
  unfolding scan before_at
  scan_finds [] i e h c = inl (refl, record { some = z; short = s; rows = λ j l. c j (omega (arith, length-drop i m, ap length e)) })
  scan_finds (b ∷ r) i e h c =
      let f = rest_first m i b r e in
      either (eqb (fault_at (before_at m i) b r) 0)
      (λ q. rw (q, ← f.1) (scan_finds r (suc i) f.2 f.0 (λ j l. ⊎_elim (c j) (λ g.
      let d : j ≡ i = omega arith in
      rw (d, f.1, f.2) (fault_clear (before_at m i) b r (eqb-true _ _ q))) (below_or j i))))
      (λ q. rw (q, ← f.1, ← f.2, before_length) (inr (record {
        number = _;
        place = i;
        refused = refl;
        given = fault_given i f.0 c (λ n. eqb-false (fault_at (before_at m i) b r) 0 q (rw (f.1, f.2) at n));
        within = omega (arith, f.0);
      })))

-- What the check finds in a message.
pub check_finds : (m : List ℕ) → Finds m (check_of m)
unfolding check_of before_at
check_finds m = either (eqb (length m) 0)
    (λ q. rw q (inr (record { number = 1; place = 0; refused = refl; given = empty_given m (eqb-true _ _ q); within = omega arith })))
    (λ q. rw q (either (leb (length m) 4096)
    (λ r. rw r (scan_finds m (omega (arith, eqb-false (length m) 0 q)) (leb-true _ _ r) m 0 refl (omega arith)
    (λ j l. absurd (omega arith))))
    (λ r. let g = long_given m (leb-false _ _ r) in
    rw r (inr (record { number = 2; place = 0; refused = refl; given = g; within = omega arith })))))

-- a message that passes is fitted by nothing
pub passes_none : (m : List ℕ) → Passes m → NoneFits m
passes_none m p k q =
    ⊎_elim (λ h. clear_fits m p.some p.short k q h (p.rows q h)) (λ h. past_fits m p.some p.short k q h) (below_or q (length m))

-- what is given fits, so it is not given where nothing fits
none_given : (m : List ℕ) (n p : ℕ) → NoneFits m → Given m n p → ⊥
none_given m n p f g = true≢false (sym g.holds ∙ f n p)

-- nor where something earlier fits
first_given : {m : List ℕ} {n p k q : ℕ} → Given m n p → Given m k q → Earlier n p k q → ⊥
first_given g h e = true≢false (sym g.holds ∙ h.first _ _ e)

-- At most one number is given, at one place.
pub given_once : (m : List ℕ) (n p k q : ℕ) → Given m n p → Given m k q → (n ≡ k) × (p ≡ q)
given_once m n p k q g h =
    let a : p < q → ⊥ = λ l. first_given g h (inl l) in
    let b : q < p → ⊥ = λ l. first_given h g (inl l) in
    let e : p ≡ q = omega arith in
    let c : rank n < rank k → ⊥ = λ l. first_given g h (inr (e, l)) in
    let d : rank k < rank n → ⊥ = λ l. first_given h g (inr (sym e, l)) in
    let r : rank n ≡ rank k = omega arith in
    (sym (rank_number m n p g.holds) ∙ rw r (rank_number m k q h.holds), e)

-- Accepted: nothing fits.
pub accepted_passes : (m : List ℕ) (counts : Counts) → check_of m ≡ Ok counts → Passes m
accepted_passes m counts e = ⊎_elim (λ f. f.1) (λ f. cc (e, f.refused)) (check_finds m)

-- Nothing fits: accepted.
pub none_accepted : (m : List ℕ) → NoneFits m → check_of m ≡ Ok (counts_of m)
none_accepted m n = ⊎_elim (λ f. f.0) (λ f. absurd (none_given m _ _ n f.given)) (check_finds m)

pub none_passes : (m : List ℕ) → NoneFits m → Passes m
none_passes m f = accepted_passes m (counts_of m) (none_accepted m f)

-- Given: refused so.
pub given_refused : (m : List ℕ) (n p : ℕ) → Given m n p → check_of m ≡ Err (refusal n p)
given_refused m n p g =
    ⊎_elim (λ f. absurd (none_given m n p (passes_none m f.1) g)) (λ f. let e = given_once m _ _ n p f.given g in f.refused ∙ rw (e.0, e.1))
    (check_finds m)

-- The first fault of a message is refused with its place.
pub first_refused : (m : List ℕ) → length m ≤ 4096 → (p : ℕ) → p < length m → ((j : ℕ) → j < p → ClearAt m j) → (n : ℕ)
    → fault_at (before_at m p) (get_or m p 0) (drop (suc p) m) ≡ n → (n ≡ 0 → ⊥)
    → check_of m ≡ Err (refusal n p)
first_refused m s p h c n e z = given_refused m n p (rw e at (fault_given m (omega arith) s p h c (λ f. z (sym e ∙ f))))

pub passes_accepted : (m : List ℕ) → Passes m → check_of m ≡ Ok (counts_of m)
passes_accepted m p = none_accepted m (passes_none m p)

-- the counts are those of the tape and the naming
pub accepted_counts : (m : List ℕ) (counts : Counts) → check_of m ≡ Ok counts
    → (counts.codes ≡ length (sounds m)) × (counts.names ≡ length (names m)) × (length m ≤ 4096) × (0 < length m)
accepted_counts m counts e =
    let p = accepted_passes m counts e in
    let q = passes_accepted m p in
    let s : counts ≡ counts_of m = cc in
    (ap (λ (x : Counts). x.codes) s ∙ sym (tape_count m), ap (λ (x : Counts). x.names) s ∙ sym (names_count m), p.short, p.some)
