-- The operator's three demands, from the promises alone: every operation answers the check's refusal, then number 12, then 11, and else its
-- text, so each way of ending is one case. Those of a text are those of its edited form.
use Rattle.laws.proofs.Kit.{ℕ, ◌≤◌, ◌≡◌, refl, sym, ap, ◌∙◌, cond, ◌⊎◌, inl, inr, ⊎_elim, ◌↔◌, List, [], ◌<◌, arith, eqb}
use Rattle.laws.proofs.Kit.{length, take, drop, length-append, length-drop, take_at, eq-eqb, eqb-true, ne_eqb, le-leb, leb-false, lt-leb}
use Rattle.laws.proofs.Kit.{not-true}
use lib.IntN.{ℤ, nat_abs}
use Rattle.spec.specs.Joints.{Rising, joined, live_count, bad_cut_from, bad_cut}
use Rattle.spec.specs.Answers.{number_of, place_of, length_of, live_of, checked_number, checked_place, checked_codes, checked_names, within}
use Rattle.spec.specs.Answers.{after_check, output_after, name_answer, tape_answer, join_answer, Promise}
use Rattle.spec.specs.Demands.{Due, turned_away, wrong_cut, too_short, CarriedOut, Settled, Exactly, Demand1, Demand2, Demand3}
use Rattle.spec.specs.EditDemands.{EditDue, EditedDemands}
use Rattle.spec.specs.Utf8Demands.{ReadDue, unreadable, no_room, ReadDemands, WriteDemands}
use Rattle.spec.specs.LevelDemands.{LevelDue, outside, no_room_for, LevelDemands}
use Rattle.spec.specs.Editing.{edited, edit_answer}
use Rattle.spec.specs.Utf8.{encoded, decoded, read_to, read_answer, write_answer, Readable, ReadPromise}
use Rattle.spec.specs.SpokenLevels.{spoken, level_answer, InRange}
use Rattle.spec.specs.declared.Edition.{Edition}
use Rattle.laws.proofs.Editions.{tape_length}
use Rattle.spec.specs.{Tape.tape, Tape.names, Refusals.refusal, Refusals.check_of, Refusals.fits, Refusals.NoneFits, Refusals.Given}
use Rattle.spec.specs.{Results.Answer}
use Rattle.laws.proofs.Accepted.{check_finds, passes_none, none_accepted, given_range, given_refused, empty_given, long_given}
use Rattle.laws.proofs.Edited.{edited_size, edited_twice, accepted_own, edited_never_four, only_breaks}
use Rattle.laws.proofs.Utf8.{read_most, whole_run, run_once, run_whole, stops_at, stops_once, read_back, run_formed, encoded_size}
use Rattle.laws.proofs.Utf8.{decoded_size, accepted_rows}
use Rattle.laws.proofs.SpokenLevels.{level_size, level_equal, level_marks, level_accepted}
use Rattle.laws.proofs.Cuts.{judged, first_bad, rising_to, full_rising, full_every}
use Rattle.laws.proofs.Counting.{tape_count, names_count}
use Rattle.laws.proofs.{Classes.below_or, Cutting.counts_none, Cutting.two_tapes}
use Rattle.std.proofs.Common.{Err}
use Rattle.std.proofs.lemmas.List.{nil_from_length}
use Rattle.spec.specs.Results.{wrote}

-- The ways in which an operation can end: what is due is its text where it accepts and there is room, and else a number and its place.
pub record Ways (Accepted : Type 0) (Number : ℕ → ℕ → Type 0) (text : List ℕ) (count : ℕ) (out : List ℕ) (due : Answer) : Type 0 where
  pub written : Accepted → length text ≤ length out → due ≡ wrote (length text) count
  pub refused : (n p : ℕ) → Number n p → due ≡ Err (refusal n p)
  pub ends : (Accepted × (length text ≤ length out)) ⊎ ((n : ℕ) × (p : ℕ) × Number n p × (1 ≤ n))

-- An operation that promises what is due
module _ {Accepted : Type 0} {Number : ℕ → ℕ → Type 0} {text : List ℕ} {count : ℕ} {out : List ℕ} {due : Answer}
    (ways : Ways Accepted Number text count out due) {out' : List ℕ} {r : Answer} (kept : Promise due text out out' r) where
  -- carries it out where that is its text
  pub carried : Accepted → length text ≤ length out → CarriedOut text count out out' r
  unfolding output_after number_of place_of length_of live_of
  carried a h = let p = rw (ways.written a h) at kept in
      record { output = p.output; number = p.number; place = p.place; length = p.length; live = p.live }

  -- is settled
  pub settled : Settled Number text count out out' r
  unfolding output_after number_of place_of length_of live_of
  settled = ⊎_elim
      (λ w.
      let c = carried w.0 w.1 in
      record { ended = inl c; size = ap length c.output ∙ simp (length-append, length-drop) (omega (arith, w.1)) })
      (λ d.
      let p = rw (ways.refused _ _ d.2) at kept in
      record {
        ended = inr (record {
          output = p.output;
          number = omega (arith, p.number, d.3);
          place = rw (p.number, p.place) d.2;
          length = p.length;
          live = p.live;
        });
        size = ap length p.output;
      }) ways.ends

  -- answers no number only where it accepts and there is room
  pub taken : number_of r ≡ 0 → Accepted × (length text ≤ length out)
  unfolding number_of
  taken z = ⊎_elim (λ w. w) (λ d. absurd (omega (arith, z, kept.number ∙ ap number_of (ways.refused _ _ d.2), d.3))) ways.ends

  -- is exact
  pub exactly : Exactly Accepted Number text count out out' r
  unfolding number_of place_of
  exactly = record {
    accepts = λ h. (λ z. (taken z).0, λ a. (carried a h).number);
    gives = λ h a. carried a h;
    refuses = λ n p h. (
      λ q. ⊎_elim (λ w. absurd (omega (arith, q.0, kept.number ∙ ap number_of (ways.written w.0 w.1))))
          (λ d. rw (← q.0, ← q.1, kept.number, kept.place, ways.refused _ _ d.2) d.2) ways.ends,
      λ d. let e = ways.refused n p d in (kept.number ∙ ap number_of e, kept.place ∙ ap place_of e),
    );
  }

  -- and what it has written where it answers no number is its text
  pub handed : number_of r ≡ 0 → take (length_of r) out' ≡ text
  handed z =
      let w = taken z in
      let c = carried w.0 w.1 in
      rw (c.length, c.output) (take_at text (drop (length text) out) (length text) refl)

-- What is due after the check and the list of cuts ends in these ways.
module _ (m cuts text : List ℕ) (count : ℕ) (out : List ℕ) where
  abbrev due_after : Answer
  due_after = after_check (check_of m) (cond (eqb (bad_cut m cuts) (length cuts)) (within (length out) (length text) count)
      (Err (refusal 12 (bad_cut m cuts))))

  -- accepted with room: written
  written_due : NoneFits m → Rising m cuts → length text ≤ length out → due_after ≡ wrote (length text) count
  unfolding after_check within
  written_due f r h = rw (none_accepted m f, eq-eqb _ _ (rising_to m cuts r), le-leb (length text) (length out) h)

  -- a number and its place: refused so
  refused_due : (n p : ℕ) → Due m cuts (length text) (length out) n p → due_after ≡ Err (refusal n p)
  unfolding after_check within
  refused_due n p (turned_away k q g) = rw (given_refused m k q g)
  refused_due n p (wrong_cut i f b) = rw (none_accepted m f, first_bad m cuts i b, ne_eqb i (length cuts) (omega (arith, b.within)))
  refused_due n p (too_short f r h) = rw (none_accepted m f, eq-eqb _ _ (rising_to m cuts r), lt-leb (length text) (length out) h)

  pub check_ways : (Accepted : Type 0) → (Accepted ↔ (NoneFits m × Rising m cuts))
      → Ways Accepted (Due m cuts (length text) (length out)) text count out due_after
  check_ways Accepted same = record {
    written = λ a. written_due (same.0 a).0 (same.0 a).1;
    refused = refused_due;
    ends = ⊎_elim
        (λ a. let f = passes_none m a.1 in
        ⊎_elim (λ r. ⊎_elim (λ h. inr (_, _, too_short f r h, omega arith)) (λ h. inl (same.1 (f, r), h))
        (below_or (length out) (length text)))
        (λ b. inr (_, _, wrong_cut _ f b, omega arith)) (judged m cuts))
        (λ a. inr (_, _, turned_away _ _ a.given, (given_range a.given).0)) (check_finds m);
  }

-- the naming operation and the transcriber have no cuts
without_cuts : (m text out : List ℕ) → Ways (NoneFits m) (Due m [] (length text) (length out)) text 0 out (due_after m [] text 0 out)
without_cuts m text out = check_ways m [] text 0 out (NoneFits m) (λ f. (f, tt), λ a. a.0)

-- the joiner has
with_cuts : (e : Edition) (m cuts out : List ℕ)
    → Ways (NoneFits m × Rising m cuts) (Due m cuts (length (joined e m cuts)) (length out)) (joined e m cuts) (live_count m cuts) out
    (due_after m cuts (joined e m cuts) (live_count m cuts) out)
with_cuts e m cuts out = check_ways m cuts (joined e m cuts) (live_count m cuts) out (NoneFits m × Rising m cuts) (λ a. a, λ a. a)

-- Demand 1.
pub demand1 : (m : List ℕ) → Demand1 m
unfolding name_answer tape_answer join_answer bad_cut bad_cut_from checked_number checked_place checked_codes checked_names
demand1 m = record {
  check = λ r kept. ⊎_elim (λ f. inl (rw (kept.answer, f.0)))
      (λ f. inr (rw (kept.answer, f.refused)
      (record { number = (given_range f.given).0; place = f.given; codes = refl; names = refl }))) (check_finds m);
  naming = λ out out' r k. settled (without_cuts m (names m) out) k;
  transcriber = λ e out out' r k. settled (without_cuts m (tape e m) out) k;
  joiner = λ e cuts out out' r k. settled (with_cuts e m cuts out) k;
}

-- Demand 2.
pub demand2 : (m : List ℕ) → Demand2 m
unfolding name_answer tape_answer join_answer bad_cut bad_cut_from checked_number checked_place checked_codes checked_names
demand2 m = record {
  accepts = λ r kept. (
    λ e. ⊎_elim (λ f. passes_none m f.1) (λ f. absurd
        (omega (arith, (given_range f.given).0, e, kept.number ∙ ap checked_number f.refused))) (check_finds m),
    λ f. kept.number ∙ ap checked_number (none_accepted m f),
  );
  refuses = λ r kept n p h. (
    λ e. ⊎_elim (λ f. absurd (omega (arith, e.0, kept.number ∙ ap checked_number f.0)))
        (λ f. rw (← e.0, ← e.1, kept.answer, f.refused) f.given) (check_finds m),
    λ g. let e = given_refused m n p g in (kept.number ∙ ap checked_number e, kept.place ∙ ap checked_place e),
  );
  counts = λ r kept f ed.
      let e = none_accepted m f in
      (kept.codes ∙ ap checked_codes e ∙ sym (tape_length ed m ∙ tape_count m), kept.names ∙ ap checked_names e ∙ sym (names_count m));
  transcriber = λ e out out' r k. exactly (without_cuts m (tape e m) out) k;
  naming = λ out out' r k. exactly (without_cuts m (names m) out) k;
  joiner = λ e cuts out out' r k. exactly (with_cuts e m cuts out) k;
}

-- Demand 3.
pub demand3 : (m : List ℕ) → NoneFits m → Demand3 m
demand3 m f = record {
  empty = tt;
  full = full_rising m;
  every = full_every m;
  tapes = two_tapes m f;
  joiner = λ ed cuts s out out' r h k.
      let w = ((demand2 m).joiner ed cuts out out' r k).gives h (f, s) in
      let e = (two_tapes m f ed cuts s).equal in
      let n = counts_none m cuts in
      record { written = w; equal = (λ q. w.live ∙ n.1 (e.0 q), λ q. e.1 (n.0 (sym w.live ∙ q))) };
}

-- The editor ends in these ways.
edit_ways : (t out : List ℕ) → Ways (Unit {0}) (EditDue t (length out)) (edited t) 0 out (edit_answer t (length out))
unfolding edit_answer within
edit_ways t out = record {
  written = λ a h. rw (le-leb (length (edited t)) (length out) h);
  refused = λ n p d. rw (d.0, d.1, lt-leb (length (edited t)) (length out) d.2);
  ends = ⊎_elim (λ h. inr (_, _, (refl, refl, h), omega arith)) (λ h. inl (tt, h)) (below_or (length out) (length (edited t)));
}

-- numbers 1 and 2 go by the length alone
empty_exactly : (m : List ℕ) → Given m 1 0 ↔ (m ≡ [])
unfolding fits
empty_exactly m = (λ g. nil_from_length m (eqb-true (length m) 0 g.holds), λ e. empty_given m (ap length e))

long_exactly : (m : List ℕ) → Given m 2 0 ↔ (4096 < length m)
unfolding fits
long_exactly m = (λ g. leb-false (length m) 4096 (not-true _ g.holds), long_given m)

-- The demands for a text, through its edited form.
pub edited_demands : (t : List ℕ) → EditedDemands t
edited_demands t = record {
  settled = λ out out' r k. settled (edit_ways t out) k;
  exact = λ out out' r k. exactly (edit_ways t out) k;
  handed = λ out out' r k. handed (edit_ways t out) k;
  size = edited_size t;
  twice = edited_twice t;
  own = accepted_own t;
  breaks = edited_never_four t;
  empty = (λ g. (only_breaks t).0 ((empty_exactly (edited t)).0 g), λ o. (empty_exactly (edited t)).1 ((only_breaks t).1 o));
  long = long_exactly (edited t);
  demand1 = demand1 (edited t);
  demand2 = demand2 (edited t);
  demand3 = demand3 (edited t);
}

-- The reader ends in these ways.
read_ways : (t out : List ℕ) → Ways (Readable t) (ReadDue t (length out)) (decoded t) 0 out (read_answer t (length out))
unfolding read_answer within
read_ways t out = record {
  written = λ a h. rw (eq-eqb (read_to t) (length t) (run_whole t a.0 a.1), le-leb (length (decoded t)) (length out) h);
  refused = refused;
  ends = ⊎_elim (λ h. inr (_, _, unreadable _ (stops_at t h), omega arith))
      (λ h.
      let a : Readable t = (decoded t, whole_run t (omega (arith, read_most t))) in
      ⊎_elim (λ l. inr (_, _, no_room a l, omega arith)) (λ l. inl (a, l)) (below_or (length out) (length (decoded t))))
      (below_or (read_to t) (length t));
}
  where
    refused : (n p : ℕ) → ReadDue t (length out) n p → read_answer t (length out) ≡ Err (refusal n p)
    refused n p (unreadable q s) = let e = stops_once t q s in rw (e, ne_eqb (read_to t) (length t) (omega (arith, e, s.within)))
    refused n p (no_room a h) = rw (eq-eqb (read_to t) (length t) (run_whole t a.0 a.1), lt-leb (length (decoded t)) (length out) h)

-- where it is refused with 13 the text is no run
unreadable_no_run : {t : List ℕ} {room : ℕ} (n p : ℕ) → ReadDue t room n p → n ≡ 13 → Readable t → ⊥
unreadable_no_run {t} n p (unreadable q s) e a = absurd (omega (arith, s.within, stops_once t q s, run_whole t a.0 a.1))
unreadable_no_run n p (no_room a h) e b = absurd (omega (arith, e))

-- and where it is none, it is
no_run_unreadable : (t out out' : List ℕ) (r : Answer) → ReadPromise t out out' r → (Readable t → ⊥) → number_of r ≡ 13
unfolding number_of
no_run_unreadable t out out' r k f = ⊎_elim (λ h. k.number ∙ ap number_of ((read_ways t out).refused _ _ (unreadable _ (stops_at t h))))
    (λ h. absurd (f (decoded t, whole_run t (omega (arith, read_most t))))) (below_or (read_to t) (length t))

-- The writer has no cuts.
write_ways : (m out : List ℕ)
    → Ways (NoneFits m) (Due m [] (length (encoded m)) (length out)) (encoded m) 0 out (write_answer m (length out))
unfolding write_answer bad_cut bad_cut_from
write_ways m out = without_cuts m (encoded m) out

-- What holds for a text that is to be read.
pub read_demands : (t : List ℕ) → ReadDemands t
read_demands t = record {
  settled = λ out out' r k. settled (read_ways t out) k;
  exact = λ out out' r k. exactly (read_ways t out) k;
  others = λ out out' r k. (
    λ z. unreadable_no_run 13 (place_of r)
        (((exactly (read_ways t out) k).refuses 13 (place_of r) (omega arith)).0 (z, refl)) refl,
    no_run_unreadable t out out' r k,
  );
  malformed = λ out out' r k f. no_run_unreadable t out out' r k (λ a. f (rw a.1.text (run_formed a.0 a.1.rows)));
  once = run_once t;
  size = omega (arith, decoded_size t, read_most t);
  handed = λ out out' r k. handed (read_ways t out) k;
  edits = edited_demands (decoded t);
  back = λ out out' r k z f text text' s w h.
      let a = (taken (read_ways t out) k z).0 in
      let e : encoded (decoded t) ≡ t = sym (whole_run t (run_whole t a.0 a.1)).text in
      let b = handed (read_ways t out) k z in
      rw e at (carried (write_ways (decoded t) text) (rw b at w) (rw b at f) (rw e h));
}

-- What holds for a message that is to be written.
pub write_demands : (m : List ℕ) → WriteDemands m
write_demands m = record {
  settled = λ out out' r k. settled (write_ways m out) k;
  exact = λ out out' r k. exactly (write_ways m out) k;
  well_formed = λ f. run_formed m (accepted_rows m f);
  size = encoded_size m;
  handed = λ out out' r k. handed (write_ways m out) k;
  back = λ out out' r k z bytes bytes' s w h.
      let rows = accepted_rows m (taken (write_ways m out) k z).0 in
      let e = read_back m rows in
      let b = handed (write_ways m out) k z in
      rw e at (carried (read_ways (encoded m) bytes) (rw b at w) (m, record { rows = rows; text = refl }) (rw e h));
}

-- A level is spoken or refused in these ways.
level_ways : (level : ℤ) (out : List ℕ)
    → Ways (InRange level) (LevelDue level (length out)) (spoken level) 0 out (level_answer level (length out))
unfolding level_answer within
level_ways level out = record {
  written = λ a h. rw (le-leb (nat_abs level) 9999 a, le-leb (length (spoken level)) (length out) h);
  refused = refused;
  ends = ⊎_elim (λ h. inr (_, _, outside h, omega arith))
      (λ a. ⊎_elim (λ h. inr (_, _, no_room_for a h, omega arith)) (λ h. inl (a, h)) (below_or (length out) (length (spoken level))))
      (below_or 9999 (nat_abs level));
}
  where
    refused : (n p : ℕ) → LevelDue level (length out) n p → level_answer level (length out) ≡ Err (refusal n p)
    refused n p (outside h) = rw (lt-leb (nat_abs level) 9999 h)
    refused n p (no_room_for a h) = rw (le-leb (nat_abs level) 9999 a, lt-leb (length (spoken level)) (length out) h)

-- What holds for a number that is to be spoken.
pub level_demands : (level : ℤ) → LevelDemands level
level_demands level = record {
  settled = λ out out' r k. settled (level_ways level out) k;
  exact = λ out out' r k. exactly (level_ways level out) k;
  handed = λ out out' r k. handed (level_ways level out) k;
  size = level_size level;
  equal = level_equal level;
  marks = level_marks level;
  message = level_accepted level;
  transcriber = λ a e out out' r k h. ((demand2 (spoken level)).transcriber e out out' r k).gives h (level_accepted level a);
}
