-- The looks back: from an index down to the first element that passes a test, and from the mark of a place, break by break and mark by mark, to that of a cut.
use Rattle.laws.proofs.Kit.{ℕ, ◌<◌, ◌≤◌, ◌≡◌, refl, sym, ◌∙◌, Bool, true, false, cond, inl, List, arith, eqb}
use Rattle.laws.proofs.Kit.{length, take, get_or, ne_eqb, length-take-le}
use Rattle.std.proofs.lemmas.List.{get_or-take}
use Rattle.spec.specs.{Letters.is_break, Tape.tape, Joints.mark_index}
use Rattle.letters.specs.{Classes.class_of, Places.Steady}
use Rattle.letters.proofs.Computed.{everything}
use Rattle.laws.proofs.{MarkIndex.is_no_sound, MarkIndex.last_above, MarkIndex.last_once, MarkIndex.last_mark}
use Rattle.laws.proofs.Classes.{below_same}
use Rattle.laws.specs.Beside.{Last}
use Rattle.joiner.specs.Writing.{outside, Looks, Whole, Reach}

-- The last of the first i elements that passes a test is the last one before index i that does.
pub last_found : (test : ℕ → Bool) (x : List ℕ) (i r : ℕ) → i ≤ length x → r < length (take i x) → test (get_or (take i x) r 0) ≡ true
    → ((k : ℕ) → r < k → k < length (take i x) → test (get_or (take i x) k 0) ≡ false) → Last test x i r
last_found test x i r w b h past =
    let l = length-take-le i x w in
    record {
      below = omega (arith, l);
      here = rw (get_or-take i x r 0 (omega (arith, l))) at h;
      past = λ j lo hi. rw (get_or-take i x j 0 hi) at (past j lo (omega (arith, l)));
    }

module _ {test : ℕ → Bool} {x : List ℕ} {i : ℕ} where
  -- a look back to an element that passes the test
  looks_for : (r : ℕ) → i ≤ length x → r < i → test (get_or x r 0) ≡ true → Looks test x i i
  looks_for r w b h = record { within = w; least = r; below = b; here = h; high = omega arith; past = λ k lo hi. absurd (omega arith) }

-- in an accepted message the breaks are the bytes below the stress mark
break_outside : (m : List ℕ) → Steady m → (j : ℕ) → j < length m → outside 0x2A 0xFF (get_or m j 0) ≡ is_break (get_or m j 0)
unfolding everything
break_outside m steady j h =
    let b = get_or m j 0 in
    rw (ne_eqb (class_of b) 0 (steady.named j h))
    at (below_same (λ x. cond (eqb (class_of x) 0) true (outside 0x2A 0xFF x)) (λ x. cond (eqb (class_of x) 0) true (is_break x)) 256 b refl (steady.bytes j))

-- of a tape that stands up to an index less stands too
pub whole_less : {m t : List ℕ} {n k : ℕ} → Whole m t n → k ≤ n → Whole m t k
whole_less w h = record { edition = w.edition; valid = w.valid; size = omega (arith, w.size); same = λ j l. w.same j (omega arith) }

module _ {m t : List ℕ} {c i n : ℕ} (r : Reach m t c i n) where
  -- at the cut itself
  pub reach_there : i ≤ c → n ≡ mark_index m c
  reach_there h = let e : i ≡ c = omega (arith, r.order) in r.place ∙ rw e

  -- what is told of a byte before place i
  same : (j : ℕ) → j < i → is_break (get_or m j 0) ≡ outside 0x2A 0xFF (get_or m j 0)
  same j w = sym (break_outside m r.whole.valid.steady j (omega (arith, r.within)))

  module _ (h : c < i) where
    -- the break at place c stands before place i
    pub reach_break : Looks (outside 0x2A 0xFF) m i i
    reach_break = looks_for c r.within h (sym (same c h) ∙ r.break)

    module _ {b : ℕ} (found : Last (outside 0x2A 0xFF) m i b) where
      -- what was found is the last break
      break_last : Last is_break m i b
      break_last = record { below = found.below; here = same b found.below ∙ found.here; past = λ j lo hi. same j hi ∙ found.past j lo hi }

      -- on the tape its mark is the last one
      mark_last : Last is_no_sound (tape r.whole.edition m) n (mark_index m b)
      mark_last = rw r.place (last_mark m r.whole.valid.accepted r.whole.edition b i r.within r.ends break_last)

      pub reach_mark : Looks is_no_sound t n n
      reach_mark = looks_for (mark_index m b) r.whole.size mark_last.below (rw (r.whole.same (mark_index m b) mark_last.below) mark_last.here)

      pub reach_more : {p : ℕ} → Last is_no_sound t n p → Reach m t c b p
      reach_more {p} k = record {
        whole = whole_less r.whole (omega (arith, k.below));
        break = r.break;
        order = last_above is_break m m i b c (λ j w. refl) break_last h r.break;
        within = omega (arith, found.below, r.within);
        ends = inl break_last.here;
        place = last_once is_no_sound t (tape r.whole.edition m) n p (mark_index m b) r.whole.same k mark_last;
      }
