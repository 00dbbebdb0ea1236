-- A list of cuts: number 12 lets through just the strictly rising lists of places of breaks, since past its end a message has no break.
use Rattle.laws.proofs.Kit.{ℕ, zero, suc, ◌+◌, ◌-◌, ◌<◌, ◌≤◌, ◌≡◌, refl, sym, ap, ◌∙◌, true, false, not, false≢true, true≢false, ◌⊎◌, inl}
use Rattle.laws.proofs.Kit.{inr, ⊎_elim, List, [], ◌∷◌, arith, leb-true, le-leb, not-false, length, drop, get_or, length-drop}
use Rattle.laws.proofs.Kit.{List·getD-eq-default}
use Rattle.spec.specs.Joints.{RisingFrom, Rising, CutOf, breaks_from, breaks, row12, bad_cut_from, bad_cut, least_at, FirstBad}
use Rattle.spec.specs.Letters.{is_break}
use Rattle.laws.proofs.{Accepted.rest_first, Classes.cond_app, Classes.cond_both, Classes.either, Classes.or-false, Classes.below_or}

-- a break stands within the message
pub break_within : (m : List ℕ) (c : ℕ) → is_break (get_or m c 0) ≡ true → c < length m
unfolding is_break
break_within m c e = ⊎_elim (λ h. h) (λ l. absurd (false≢true (rw (List·getD-eq-default m 0 l) at e))) (below_or c (length m))

module _ (m : List ℕ) where
  -- what number 12 says of one cut
  row12_passes : (least c : ℕ) → row12 m least c ≡ false → (is_break (get_or m c 0) ≡ true) × (least ≤ c)
  unfolding row12
  row12_passes least c e = let p = or-false (not (is_break (get_or m c 0))) _ e in (not-false _ p.0, leb-true least c (not-false _ p.1))

  -- a rising list has no bad cut
  rising_from_to : (least k : ℕ) (cuts : List ℕ) → RisingFrom m least cuts → bad_cut_from m least k cuts ≡ k + length cuts
  unfolding bad_cut_from row12
  rising_from_to least k [] r = omega arith
  rising_from_to least k (c ∷ cuts) r = rw (r.1, le-leb least c r.0) (rising_from_to (suc c) (suc k) cuts r.2 ∙ omega arith)

  -- each cut before the first bad one takes a place of its own
  bad_from : (least k : ℕ) (cuts : List ℕ) → bad_cut_from m least k cuts ≤ k + (length m - least)
  unfolding bad_cut_from
  bad_from least k [] = omega arith
  bad_from least k (c ∷ cuts) = either (row12 m least c) (λ q. rw q (omega arith)) (λ q.
      let p = row12_passes least c q in
      rw q (omega (arith, p.1, break_within m c p.0, bad_from (suc c) (suc k) cuts)))

  -- a cut of a rising list is the place of a break, and not below the least place
  pub cut_good : {c : ℕ} (least : ℕ) (cuts : List ℕ) → RisingFrom m least cuts → CutOf c cuts
      → (least ≤ c) × (is_break (get_or m c 0) ≡ true)
  cut_good least [] r i = absurd i
  cut_good least (d ∷ cuts) r i =
      ⊎_elim (λ e. rw e (r.0, r.1)) (λ j. let g = cut_good (suc d) cuts r.2 j in (omega (arith, r.0, g.0), g.1)) i

-- Number 12 fits no rising list of breaks.
pub rising_to : (m cuts : List ℕ) → Rising m cuts → bad_cut m cuts ≡ length cuts
unfolding bad_cut
rising_to m cuts r = rising_from_to m 0 0 cuts r ∙ omega arith

-- the first bad cut has an index no larger than the message's length
pub bad_bound : (m cuts : List ℕ) → bad_cut m cuts ≤ length m
unfolding bad_cut
bad_bound m cuts = omega (arith, bad_from m 0 0 cuts)

-- so there are no more cuts than bytes
pub rising_length : (m cuts : List ℕ) → Rising m cuts → length cuts ≤ length m
rising_length m cuts r = omega (arith, rising_to m cuts r, bad_bound m cuts)

-- The first bad cut of a list, found by its index.
module _ (m : List ℕ) where
  -- the list without its first cut has the same least places
  least_next : (least c : ℕ) (cuts : List ℕ) (i : ℕ) → least_at least (c ∷ cuts) (suc i) ≡ least_at (suc c) cuts i
  unfolding least_at
  least_next least c cuts zero = refl
  least_next least c cuts (suc i) = refl

  -- an index counts from where the list's first cut counts
  bad_shift : (least k : ℕ) (cuts : List ℕ) → bad_cut_from m least (suc k) cuts ≡ suc (bad_cut_from m least k cuts)
  unfolding bad_cut_from
  bad_shift least k [] = refl
  bad_shift least k (c ∷ cuts) = rw (bad_shift (suc c) (suc k) cuts) (sym (cond_app suc (row12 m least c) _ _))

  -- number 12 fits no cut before the first bad one, and that one, or there is none
  judged_from : (least : ℕ) (cuts : List ℕ) → let k = bad_cut_from m least 0 cuts in
      ((j : ℕ) → j < k → row12 m (least_at least cuts j) (get_or cuts j 0) ≡ false)
      × (RisingFrom m least cuts ⊎ ((k < length cuts) × (row12 m (least_at least cuts k) (get_or cuts k 0) ≡ true)))
  unfolding bad_cut_from least_at
  judged_from least [] = (λ j l. absurd (omega arith), inl tt)
  judged_from least (c ∷ cuts) = either (row12 m least c) (λ q. rw q (λ j l. absurd (omega arith), inr (omega arith, q))) (λ q.
      let k = judged_from (suc c) cuts in
      let p = row12_passes m least c q in
      rw (q, bad_shift (suc c) 0 cuts) (
        before q k.0,
        ⊎_elim (λ r. inl (p.1, p.0, r)) (λ b. inr (omega (arith, b.0), rw (least_next least c cuts _) b.1)) k.1,
      ))
    where
      before : {k : ℕ} → row12 m least c ≡ false → ((j : ℕ) → j < k → row12 m (least_at (suc c) cuts j) (get_or cuts j 0) ≡ false)
          → (j : ℕ) → j < suc k → row12 m (least_at least (c ∷ cuts) j) (get_or (c ∷ cuts) j 0) ≡ false
      before q f zero l = q
      before q f (suc j) l = rw (least_next least c cuts j) (f j (omega arith))

  -- Number 12 finds nothing in a list, or the first bad cut,
  pub judged : (cuts : List ℕ) → Rising m cuts ⊎ FirstBad m cuts (bad_cut m cuts)
  unfolding bad_cut
  judged cuts = let k = judged_from 0 cuts in ⊎_elim (λ r. inl r) (λ b. inr (record { within = b.0; bad = b.1; first = k.0 })) k.1

  -- and no other cut is that one.
  pub first_bad : (cuts : List ℕ) (i : ℕ) → FirstBad m cuts i → bad_cut m cuts ≡ i
  unfolding bad_cut
  first_bad cuts i f =
      let k = judged_from 0 cuts in
      let a : i < bad_cut_from m 0 0 cuts → ⊥ = λ l. true≢false (sym f.bad ∙ k.0 i l) in
      let b : bad_cut_from m 0 0 cuts < i → ⊥ = λ l.
      ⊎_elim (λ r. omega (arith, rising_from_to m 0 0 cuts r, f.within)) (λ b. true≢false (sym b.1 ∙ f.first _ l)) k.1 in
      omega arith

  -- A list of cuts that number 12 does not fit is a rising list of breaks.
  pub rising_of : (cuts : List ℕ) → bad_cut m cuts ≡ length cuts → Rising m cuts
  rising_of cuts e = ⊎_elim (λ r. r) (λ f. absurd (omega (arith, f.within))) (judged cuts)

  -- The full list.
  full_from : (least k : ℕ) (r : List ℕ) → drop k m ≡ r → least ≤ k → RisingFrom m least (breaks_from k r)
  unfolding breaks_from
  full_from least k [] e le = tt
  full_from least k (b ∷ r) e le =
      let s = rest_first m k b r e in
      either (is_break b) (λ q. rw q (le, rw s.1 q, full_from (suc k) (suc k) r s.2 (omega arith)))
      (λ q. rw q (full_from least (suc k) r s.2 (omega arith)))

  every_from : (k : ℕ) (r : List ℕ) → drop k m ≡ r → (c : ℕ) → k ≤ c → is_break (get_or m c 0) ≡ true → CutOf c (breaks_from k r)
  unfolding breaks_from
  every_from k [] e c le q = absurd (omega (arith, break_within m c q, length-drop k m, ap length e))
  every_from k (b ∷ r) e c le q =
      let s = rest_first m k b r e in
      ⊎_elim (λ h. let f = every_from (suc k) r s.2 c h q in cond_both (CutOf c) (is_break b) (inr f) f)
      (λ h. let d : c ≡ k = omega arith in rw (rw (d, s.1) at q) (inl d)) (below_or k c)

  -- The places of all breaks are a rising list,
  pub full_rising : Rising m (breaks m)
  unfolding breaks
  full_rising = full_from 0 0 m refl (omega arith)

  -- and every break is in it.
  pub full_every : (c : ℕ) → is_break (get_or m c 0) ≡ true → CutOf c (breaks m)
  unfolding breaks
  full_every c q = every_from 0 m refl c (omega arith) q
