-- The second tape is laid from the right over the whole message's: a part's codes there are as many as its own, and they are its own where
-- no cut changes the first or the last of them. The parts are apart from each other, so their steps are no more than two for each byte of
-- the message, and with those of the whole message no more than four.
use Rattle.laws.proofs.Kit.{ℕ, zero, suc, ◌+◌, ◌-◌, ◌*◌, ◌<◌, ◌≤◌, ◌≡◌, refl, sym, ap, ◌∙◌, Bool, true, false, cond, ◌||◌, inl, inr, List}
use Rattle.laws.proofs.Kit.{[], ◌∷◌, ◌++◌, append-nil, append_assoc, arith, add-one, length, take, drop, get_or, length-append, length-take}
use Rattle.laws.proofs.Kit.{length-drop, List·getD-append, take_all, take-length, take_at, take-suc, take-take, take-append-le, drop_at}
use Rattle.laws.proofs.Kit.{drop-length, drop-cons, append_snoc, get_or-take, length-take-le}
use Rattle.spec.specs.Joints.{RisingFrom, joined_from, joined, live_count, mark_index, least_at}
use mathlib.Core.List.{map, map-append}
use Rattle.laws.proofs.Editions.{read_take, tape_length}
use Rattle.spec.specs.{Editions.code_in, declared.Edition.Edition}
use Rattle.spec.specs.{Tape.sounds, Tape.tape, Refusals.check_of, LevelSteps.level_steps, Layers.TapePromise}
use Rattle.laws.proofs.Parts.{or-false, live_here, part_first, first_own}
use Rattle.laws.specs.{Parts.part, Parts.Begins, Parts.changed_after, Parts.changed_before, Parts.Ends}
use Rattle.laws.proofs.MarkIndex.{Placed, stretch, end_own, placed, own_length, own_codes, mark_code_there}
use Rattle.laws.proofs.{Accepted.counts_of, Accepted.accepted_passes, Classes.cond_both, Cuts.rising_length, Cuts.break_within}
use Rattle.laws.proofs.{Cutting.equal_lengths, PartsAccepted.part_accepted, Bounds.live_bound, Heard.tape_heard, Marks.mark_first}
use Rattle.laws.proofs.{Marks.mark_next, Marks.mark_last, Putting.put_first_lem, Putting.put_tape, LevelSteps.steps_suffice}
use Rattle.joiner.specs.Writing.{Valid, JoinDue, PutBefore, PartDue, PartWritten, Whole, Reach, Beside, Changing, end_of, part_steps}
use Rattle.joiner.specs.Writing.{steps_behind, join_steps, rest_of, Laid, JoinWritten}
use Rattle.joiner.specs.{declared.Changes.Changes, declared.Progress.Progress}
use Rattle.joiner.proofs.Looking.{whole_less}
use mir.Val.{bool_byte}
use Rattle.std.proofs.Common.{Ok}

-- the second tape from a place on: the first part's, and what follows it
joined_part : (e : Edition) (m : List ℕ) (a : ℕ) (cuts : List ℕ) → joined_from (tape e) m a cuts
    ≡ tape e (part m a (end_of m cuts)) ++ rest_of e m cuts
unfolding joined_from
joined_part e m a [] = rw (append-nil (tape e (part m a (length m))), take_all (length m - a) (drop a m) (omega (arith, length-drop a m)))
joined_part e m a (c ∷ cuts) = refl

-- no part has more than two steps for each of its bytes
part_most : (m : List ℕ) (a e : ℕ) → part_steps m a e ≤ 2 * (e - a)
part_most m a e =
    let h : length (part m a e) ≤ e - a = simp length-take (omega arith) in
    cond_both (λ k. k ≤ 2 * (e - a)) (changed_before m e || changed_after m a) {x = level_steps (part m a e)} {y = 0}
    (omega (arith, (steps_suffice (part m a e)).two, h)) (omega arith)

-- so all from a place on have no more than two for each byte from there on
parts_most : (m : List ℕ) (a : ℕ) (cuts : List ℕ) → a ≤ length m → RisingFrom m a cuts
    → part_steps m a (end_of m cuts) + steps_behind m cuts ≤ 2 * (length m - a)
unfolding steps_behind
parts_most m a [] h r = omega (arith, part_most m a (length m))
parts_most m a (c ∷ cuts) h r =
    omega (arith, part_most m a c, parts_most m (suc c) cuts (break_within m c r.1) r.2, r.0, break_within m c r.1)

-- and those behind some of the cuts no more than those behind all
behind_most : (m cuts : List ℕ) (k : ℕ) → steps_behind m (drop k cuts) ≤ steps_behind m cuts
unfolding steps_behind
behind_most m [] zero = omega arith
behind_most m [] (suc k) = omega arith
behind_most m (c ∷ cuts) zero = omega arith
behind_most m (c ∷ cuts) (suc k) = omega (arith, behind_most m cuts k)

-- four steps for each byte suffice, before the first part and with it
steps_most : (m cuts : List ℕ) (k : ℕ) → RisingFrom m 0 cuts → level_steps m + steps_behind m (drop k cuts) ≤ 4 * length m
steps_most m cuts k r = omega (arith, (steps_suffice m).two, behind_most m cuts k, parts_most m 0 cuts (omega arith) r)

join_most : (m cuts : List ℕ) → RisingFrom m 0 cuts → join_steps m cuts ≤ 4 * length m
join_most m cuts r = omega (arith, (steps_suffice m).two, parts_most m 0 cuts (omega arith) r)

or_none : (t : Bool) → (t || false) ≡ t
or_none true = refl
or_none false = refl

-- a byte of a test adds one where it holds
count_byte : (t : Bool) (n : ℕ) → n + bool_byte t ≡ cond t (suc n) n
count_byte true n = omega arith
count_byte false n = omega arith

-- the bytes from place a up to e may be a part of the accepted message
pub record Piece (m : List ℕ) (a e : ℕ) : Type 0 where
  pub valid : Valid m
  pub begins : Begins m a
  pub order : a ≤ e
  pub within : e ≤ length m
  pub ends : Ends m e

-- the bytes after each cut of a rising list, up to the next one or the message's end, and those before the first
piece_at_lem : {m : List ℕ} (v : Valid m) (a : ℕ) (cuts : List ℕ) (k : ℕ) → Begins m a → a ≤ length m → RisingFrom m a cuts → k ≤ length cuts → Piece m (least_at a cuts k) (end_of m (drop k cuts))
unfolding least_at
piece_at_lem v a [] zero b l r h = record { valid = v; begins = b; order = l; within = omega arith; ends = inr refl }
piece_at_lem v a [] (suc k) b l r h = absurd (omega arith)
piece_at_lem {m} v a (c ∷ cuts) zero b l r h = record { valid = v; begins = b; order = r.0; within = omega (arith, break_within m c r.1); ends = inl r.1 }
piece_at_lem {m} v a (c ∷ cuts) (suc zero) b l r h = piece_at_lem v (suc c) cuts zero r.1 (break_within m c r.1) r.2 (omega arith)
piece_at_lem {m} v a (c ∷ cuts) (suc (suc k)) b l r h = piece_at_lem v (suc c) cuts (suc k) r.1 (break_within m c r.1) r.2 (omega arith)

module _ (ed : Edition) {m : List ℕ} {a e : ℕ} (s : Piece m a e) where
  -- its own tape
  abbrev own : List ℕ
  own = tape ed (part m a e)

  -- where its codes stand on the whole one
  here : Placed m a e
  here = placed m a e s.begins s.order s.ends

  -- they are as many as its own
  piece_size : mark_index m a + length own ≡ mark_index m e
  piece_size = omega (arith, here.size, own_length m a e s.begins s.order s.ends, tape_length ed (part m a e))

  -- and end within it
  piece_end : mark_index m e ≤ length (tape ed m)
  piece_end = omega (arith, here.start, here.size, simp length-append at (ap length here.split), tape_length ed m)

  -- the whole message's sounds and marks up to there
  piece_sounds : take (mark_index m e) (sounds m) ≡ take (mark_index m a) (sounds m) ++ stretch m a e
  piece_sounds = let f = here in
      rw (f.split, take_at f.front (stretch m a e ++ f.rest) (mark_index m a) f.start, ← append_assoc f.front (stretch m a e) f.rest)
      (take_at (f.front ++ stretch m a e) f.rest (mark_index m e) (simp length-append (omega (arith, f.start, f.size))))

  -- and its tape
  piece_codes : take (mark_index m e) (tape ed m) ≡ take (mark_index m a) (tape ed m) ++ map (code_in ed) (stretch m a e)
  unfolding tape
  piece_codes = rw (read_take ed (mark_index m e), read_take ed (mark_index m a), piece_sounds, map-append)

  -- its own tape stands there where no cut changes the first or the last of its codes
  piece_own : changed_after m a ≡ false → changed_before m e ≡ false → own ≡ map (code_in ed) (stretch m a e)
  unfolding tape
  piece_own q o = ap (map (code_in ed)) (own_codes m a e s.begins s.order s.ends q o)

  -- its bytes are accepted
  passed : check_of (part m a e) ≡ Ok (counts_of (part m a e))
  passed = part_accepted m s.valid.counts a e s.valid.accepted s.begins s.order s.within s.ends

  -- so it has codes
  piece_some : mark_index m a < mark_index m e
  piece_some = omega (arith, piece_size, tape_length ed (part m a e), tape_heard (part m a e) (accepted_passes (part m a e) _ passed))

-- The part after the first k cuts is next.
module _ {ed : Edition} {m cuts out : List ℕ} {k : ℕ} {q : Progress} (l : Laid ed m cuts k out q) where
  abbrev a : ℕ
  a = least_at 0 cuts k

  pub next : Piece m a q.e
  next = rw l.ends (piece_at_lem l.valid 0 cuts k tt (omega arith) l.rising l.within)

  -- the whole tape has codes up to its end
  size : length (take q.at (tape ed m)) ≡ q.at
  size = length-take-le q.at (tape ed m) (omega (arith, l.place, piece_end ed next))

  -- before it the whole tape stands in the output, and after it the second one
  kept : take (q.at - length (own ed next)) out ≡ take (mark_index m a) (tape ed m)
  kept =
      let e : q.at - length (own ed next) ≡ mark_index m a = omega (arith, l.place, piece_size ed next) in
      let b : mark_index m a ≤ q.at = omega (arith, l.place, piece_size ed next) in
      rw (
        e,
        l.bytes,
        take-append-le (mark_index m a) (take q.at (tape ed m)) (rest_of ed m (drop k cuts))
            (omega (arith, size)),
        take-take (mark_index m a) q.at (tape ed m) b,
      )

  past : drop q.at out ≡ rest_of ed m (drop k cuts)
  past = rw l.bytes (drop_at (take q.at (tape ed m)) (rest_of ed m (drop k cuts)) q.at size)

  -- up to its end the output's codes are the whole tape's
  next_whole : Whole m out q.at
  next_whole = record {
    edition = ed;
    valid = l.valid;
    size = omega (arith, size, simp length-append at (ap length l.bytes));
    same = λ j h. rw l.bytes (List·getD-append (take q.at (tape ed m)) (rest_of ed m (drop k cuts)) 0 j (omega (arith, size))
        ∙ get_or-take q.at (tape ed m) j 0 h);
  }

  -- it may be written where a cut changes it, and else it is written already
  next_due : (t : Bool) → (t ≡ false → (q.changed ≡ false) × (changed_after m a ≡ false)) → PartDue ed (part m a q.e) out q.at t
  next_due t quiet = record {
    due = record {
      counts = counts_of (part m a q.e);
      accepted = passed ed next;
      room = omega (arith, l.place, piece_size ed next, tape_length ed (part m a q.e));
      place = next_whole.size;
    };
    stands = λ u.
        let same = piece_own ed next (quiet u).1 (sym l.last ∙ (quiet u).0) in
        record {
          place = omega (arith, l.place, piece_size ed next);
          bytes = l.bytes
              ∙ rw (kept, past, same, l.place, piece_codes ed next, append_assoc);
        };
  }

  -- and with it the second tape stands from its place on
  next_laid : {out' : List ℕ} → PutBefore (own ed next) out out' q.at → out'
      ≡ take (mark_index m a) (tape ed m) ++ joined_from (tape ed) m a (drop k cuts)
  next_laid p = p.bytes ∙ rw (kept, past, joined_part ed m a (drop k cuts), ← l.ends)

  -- which is as long as the whole one
  pub laid_length : length (joined ed m cuts) ≡ length (sounds m)
  laid_length = equal_lengths ed m cuts l.rising ∙ tape_length ed m

  -- there are no more live cuts than bytes
  pub laid_few : q.live ≤ 4096
  laid_few = omega (arith, l.counted, live_bound m (drop k cuts), length-drop k cuts, rising_length m cuts l.rising, (accepted_passes m l.valid.counts l.valid.accepted).short)

  -- and no more than four steps for each
  pub laid_most : q.steps ≤ 4 * 4096
  laid_most = omega (arith, l.taken, steps_most m cuts k l.rising, (accepted_passes m l.valid.counts l.valid.accepted).short)

-- the whole tape, before the first part is written
pub laid_none : {ed : Edition} {m cuts out out' : List ℕ} {j : ℕ} → JoinDue m cuts (length out) → TapePromise ed m out out' (length out) j
    → Laid ed m cuts (length cuts) out' (record { e = length m; at = length out; live = 0; steps = j; changed = false })
unfolding live_count steps_behind
laid_none {ed} {m} {cuts} {out} d p = record {
  valid = d.valid;
  rising = d.rising;
  within = omega arith;
  ends = rw (drop-length cuts);
  place = d.fits ∙ sym (mark_last m (length m) refl);
  bytes = put_first_lem _ _ _ _ _ (d.fits ∙ sym (tape_length ed m)) (put_tape (omega (arith, d.fits)) p) ∙
      rw (drop-length out, drop-length cuts, d.fits, ← tape_length ed m, take-length (tape ed m));
  counted = rw (drop-length cuts);
  last = sym (end_own m);
  taken = p.counted ∙ rw (drop-length cuts) (omega arith);
}

-- the last one of the cuts that are left
pub laid_on : {ed : Edition} {m cuts out : List ℕ} {k : ℕ} {q : Progress} → Laid ed m cuts k out q → 0 < k
    → Laid ed m cuts (suc (k - 1)) out q
laid_on {ed} {m} {cuts} {out} {k} l h = let e : suc (k - 1) ≡ k = omega arith in rw e l

-- One cut more.
module _ {ed : Edition} {m cuts out : List ℕ} {k : ℕ} {q : Progress} (l : Laid ed m cuts (suc k) out q) where
  abbrev c : ℕ
  c = get_or cuts k 0

  -- its mark can be found
  pub cut_reach : Reach m out c q.e q.at
  unfolding least_at
  cut_reach = let s = next l in record { whole = next_whole l; break = s.begins; order = omega (arith, s.order); within = s.within; ends = s.ends; place = l.place }

  module _ {n : ℕ} (found : n ≡ mark_index m c) where
    -- it can be judged
    pub cut_beside : Beside m out c n
    unfolding least_at
    cut_beside =
        let b = (next l).begins in
        let within = break_within m c b in
        let first : Piece m 0 c = record { valid = l.valid; begins = tt; order = omega arith; within = omega arith; ends = inl b } in
        record {
          whole = whole_less (next_whole l) (omega (arith, found, mark_next m c b, piece_some ed (next l), l.place));
          some = omega (arith, found, mark_first m, piece_some ed first);
          break = b;
          within = within;
          place = found;
        }

    module _ {v : Changes} (h : Changing m c v) where
      -- the part after it may be written
      pub cut_part : PartDue ed (part m (c + 1) q.e) out q.at (q.changed || v.after)
      unfolding least_at
      cut_part = rw (add-one c) (next_due l (q.changed || v.after) (λ u. let o = or-false q.changed v.after u in (o.0, sym h.after ∙ o.1)))

      -- and then it is passed
      pub cut_laid : {out' : List ℕ} {j : ℕ} → PartWritten ed (part m (c + 1) q.e) (q.changed || v.after) out out' q.at j
          → Laid ed m cuts k out'
          (record { e = c; at = n; live = q.live + bool_byte (v.before || v.after); steps = q.steps + j; changed = v.before })
      unfolding least_at live_count steps_behind
      cut_laid {out'} {j} p =
          let b = (next l).begins in
          let e = drop-cons cuts k 0 l.within in
          let i : mark_index m c < length (tape ed m) = omega (arith, mark_next m c b, piece_some ed (next l), piece_end ed (next l)) in
          record {
            valid = l.valid;
            rising = l.rising;
            within = omega (arith, l.within);
            ends = rw e;
            place = found;
            bytes = next_laid l (rw (add-one c) at p.put) ∙
                rw (mark_next m c b, take-suc (tape ed m) (mark_index m c) 0 i, mark_code_there ed m c b, append_snoc, found, e);
            counted = rw (e, live_here m c b, ← h.before, ← h.after, ← l.counted) (count_byte (v.before || v.after) q.live);
            last = h.before;
            taken =
                let x : j ≡ part_steps m (suc c) q.e = p.counted ∙ rw (l.last, h.after, add-one c) in
                rw (e, ← l.ends) (omega (arith, l.taken, x));
          }

-- The first part: no cut is left.
module _ {ed : Edition} {m cuts out : List ℕ} {k : ℕ} {q : Progress} (l : Laid ed m cuts k out q) (none : k ≤ 0) where
  at_start : Laid ed m cuts 0 out q
  at_start = let e : k ≡ 0 = omega arith in rw e at l

  -- it may be written
  pub first_part : PartDue ed (take q.e m) out q.at q.changed
  unfolding least_at
  first_part = rw (← part_first m q.e) (next_due at_start q.changed (λ u. (u, first_own m)))

  -- and with it all are laid
  pub laid_all : {out' : List ℕ} {j : ℕ} → PartWritten ed (take q.e m) q.changed out out' q.at j
      → JoinWritten ed m cuts out' (record { live = q.live; steps = q.steps + j })
  unfolding least_at joined
  laid_all {out'} {j} p =
      let x : j ≡ part_steps m 0 q.e = p.counted ∙ rw (first_own m, or_none (changed_before m q.e), l.last, part_first m q.e) in
      let t : q.steps + j ≡ join_steps m cuts = rw (← at_start.ends) (omega (arith, at_start.taken, x)) in
      record {
        output = next_laid at_start (rw (← part_first m q.e) at p.put) ∙ rw (mark_first m);
        counted = at_start.counted;
        taken = t;
        four = omega (arith, t, join_most m cuts l.rising);
      }
