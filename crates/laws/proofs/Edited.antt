-- The editor's steps as one walk over the text, which carries no more than the break that waits to be put before the next byte; and what
-- follows for edited texts.
use Rattle.laws.proofs.Kit.{ℕ, suc, ◌+◌, ◌<◌, ◌≤◌, ◌≡◌, refl, sym, ap, ◌∙◌, ◌⊎◌, inl, inr, ⊎_elim, ◌↔◌, Bool, true, false, cond, ◌&&◌, ◌||◌}
use Rattle.laws.proofs.Kit.{not, and-false, or_assoc, true≢false, false≢true, List, [], ◌∷◌, map, arith, eqb, leb, length, drop}
use Rattle.laws.proofs.Kit.{length-drop, leb-true, lt-leb}
use Rattle.spec.specs.Editing.{pause_marks, gap_marks, replaced, one_break, put_break, merged, without_first, without_last, edited}
use Rattle.spec.specs.Editing.{OnlyBreaks}
use Rattle.spec.specs.{Alphabet.gap, Alphabet.pause, Tables.among, Letters.is_break}
use Rattle.spec.specs.Refusals.{first, none, row3, row4, rows, fits_in, before_at, fits, NoneFits}
use Rattle.spec.proofs.Computed.{everything}
use Rattle.laws.proofs.Classes.{either, cond_both, among_same, break_both}
use Rattle.laws.proofs.Accepted.{ClearFrom, EachFrom, places_clear, each_place, none_passes}
use Rattle.laws.specs.Edited.{breaks, put_wait, edit_from, leading}

-- the text from its first byte on that is no break
abbrev pub begun : List ℕ → List ℕ
begun t = drop (leading breaks t) t

-- a break is some byte, and passes as it is
break_some : (x : ℕ) → is_break x ≡ true → eqb x 0 ≡ false
break_some = break_both (λ x. eqb x 0 ≡ false) refl refl

break_kept : (x : ℕ) → is_break x ≡ true → replaced x ≡ x
unfolding everything
break_kept = break_both (λ x. replaced x ≡ x) refl refl

-- what becomes no break passes as it is
byte_kept : (b : ℕ) → breaks b ≡ false → replaced b ≡ b
unfolding everything
byte_kept b q = either (among pause_marks b) (λ e. absurd (true≢false (rw e at q)))
    (λ e. either (among gap_marks b) (λ f. absurd (true≢false (rw (e, f) at q))) (λ f. rw (e, f)))

-- so it was none
byte_other : (b : ℕ) → breaks b ≡ false → is_break b ≡ false
byte_other b q = rw (byte_kept b q) at q

-- one break out of two is a break, and a pause if either is
one_is_break : (a b : ℕ) → is_break (one_break a b) ≡ true
unfolding one_break is_break
one_is_break a b = either (eqb a pause || eqb b pause) (λ q. rw q) (λ q. rw q)

pub one_some : (a b : ℕ) → eqb (one_break a b) 0 ≡ false
one_some a b = break_some (one_break a b) (one_is_break a b)

one_pause : (a b : ℕ) → eqb (one_break a b) pause ≡ (eqb a pause || eqb b pause)
unfolding one_break
one_pause a b = either (eqb a pause || eqb b pause) (λ q. rw q) (λ q. rw q)

-- of three it does not matter which two go first
one_assoc : (a b c : ℕ) → one_break a (one_break b c) ≡ one_break (one_break a b) c
unfolding one_break
one_assoc a b c =
    let e : (eqb a pause || eqb (one_break b c) pause) ≡ (eqb (one_break a b) pause || eqb c pause) =
    rw (one_pause b c, one_pause a b) (sym (or_assoc (eqb a pause) (eqb b pause) (eqb c pause))) in
    ap (λ t. cond t pause gap) e

-- after none it is the break itself
one_alone : (x : ℕ) → is_break x ≡ true → one_break 0 x ≡ x
unfolding one_break
one_alone = break_both (λ x. one_break 0 x ≡ x) refl refl

-- two breaks put one after the other are one put
put_twice : (a b : ℕ) → is_break b ≡ true → (t : List ℕ) → put_break a (put_break b t) ≡ put_break (one_break a b) t
unfolding put_break
put_twice a b e [] = rw e
put_twice a b e (c ∷ t) = either (is_break c) (λ q. rw (q, one_is_break b c, one_assoc a b c)) (λ q. rw (q, e))

-- at the start it vanishes, whatever follows
put_first_lem : (b : ℕ) → is_break b ≡ true → (t : List ℕ) → without_first (put_break b t) ≡ without_first t
unfolding put_break without_first
put_first_lem b e [] = rw e
put_first_lem b e (c ∷ t) = either (is_break c) (λ q. rw (q, one_is_break b c)) (λ q. rw (q, e))

-- what waits is a break, or nothing does
abbrev Waits : ℕ → Type 0
Waits wait = (wait ≡ 0) ⊎ (is_break wait ≡ true)

-- the break that waits as the definition puts it
abbrev merge_wait : ℕ → List ℕ → List ℕ
merge_wait wait t = cond (eqb wait 0) t (put_break wait t)

-- it waits on before a break
merge_break : (wait x : ℕ) → Waits wait → is_break x ≡ true → (t : List ℕ)
    → merge_wait (one_break wait x) t ≡ merge_wait wait (put_break x t)
merge_break wait x w e t =
    rw (one_some wait x)
    (⊎_elim (λ (z : wait ≡ 0). rw (z, one_alone x e)) (λ (z : is_break wait ≡ true). rw (break_some wait z) (sym (put_twice wait x e t))) w)

-- is put before any other byte
merge_byte : (wait b : ℕ) → is_break b ≡ false → (t : List ℕ) → without_last (merge_wait wait (b ∷ t)) ≡ put_wait wait (b ∷ without_last t)
unfolding put_break without_last put_wait none
merge_byte wait b e t = either (eqb wait 0) (λ q. rw (q, e)) (λ q. rw (q, e) (rw (e, and-false (is_break wait))))

-- and at the end vanishes
merge_end : (wait : ℕ) → Waits wait → without_last (merge_wait wait []) ≡ []
unfolding put_break without_last none
merge_end wait w = ⊎_elim (λ (z : wait ≡ 0). rw z) (λ (z : is_break wait ≡ true). rw (break_some wait z, z)) w

-- Within a text the walk is the definition's steps.
walk_within : (wait : ℕ) → Waits wait → (t : List ℕ) → edit_from wait t ≡ without_last (merge_wait wait (merged (map replaced t)))
unfolding edit_from merged
walk_within wait w [] = sym (merge_end wait w)
walk_within wait w (b ∷ t) = either (breaks b)
    (λ q. rw q (walk_within (one_break wait (replaced b)) (inr (one_is_break _ _)) t
    ∙ ap without_last (merge_break wait (replaced b) w q _)))
    (λ q. rw (byte_kept b q, byte_other b q) (rw (walk_within 0 (inl refl) t) (sym (merge_byte wait b (byte_other b q) _))))

-- The edited text is the walk from the first byte on that is no break.
pub edited_walk : (t : List ℕ) → edited t ≡ edit_from 0 (begun t)
unfolding edited edit_from merged leading without_first without_last
edited_walk [] = refl
edited_walk (b ∷ t) = either (breaks b)
    (λ q. rw q (ap without_last (put_first_lem (replaced b) q _) ∙ edited_walk t))
    (λ q. rw (byte_kept b q, byte_other b q) (rw (byte_kept b q, byte_other b q, walk_within 0 (inl refl) t)
    (merge_byte 0 b (byte_other b q) _)))

-- No mark of punctuation, and a break only between two other bytes: so it is with the bytes after a break, or after none at all, or after
-- another byte.
abbrev CleanAfter : Bool → List ℕ → Type 0
CleanAfter wide [] = wide ≡ false
CleanAfter wide (b ∷ t) = (replaced b ≡ b) × ((wide && is_break b) ≡ false) × CleanAfter (is_break b) t

-- Such is what the walk gives within a text,
clean_within : (wait : ℕ) → Waits wait → (t : List ℕ) → CleanAfter false (edit_from wait t)
unfolding edit_from put_wait
clean_within wait w [] = refl
clean_within wait w (b ∷ t) = either (breaks b) (λ q. rw q (clean_within (one_break wait (replaced b)) (inr (one_is_break _ _)) t))
    (λ q.
    let k = byte_kept b q in
    let o = byte_other b q in
    let r = clean_within 0 (inl refl) t in
    rw q (⊎_elim (λ (z : wait ≡ 0). rw z (k, refl, rw o r))
    (λ (z : is_break wait ≡ true). rw (break_some wait z) (break_kept wait z, refl, rw (z, o) (k, refl, r))) w))

-- and from its start, unless nothing is left.
clean_walk : (t : List ℕ) → (edit_from 0 (begun t) ≡ []) ⊎ CleanAfter true (edit_from 0 (begun t))
unfolding edit_from put_wait leading
clean_walk [] = inl refl
clean_walk (b ∷ t) = either (breaks b) (λ q. rw q (clean_walk t))
    (λ q. rw q (rw q (inr (byte_kept b q, byte_other b q, rw (byte_other b q) (clean_within 0 (inl refl) t)))))

edited_clean : (t : List ℕ) → (edited t ≡ []) ⊎ CleanAfter true (edited t)
edited_clean t = rw (edited_walk t) (clean_walk t)

-- The walk leaves such a text as it is, with the break that waits before it.
walk_clean : (wait : ℕ) → Waits wait → (t : List ℕ) → CleanAfter (not (eqb wait 0)) t → edit_from wait t ≡ put_wait wait t
unfolding edit_from put_wait
walk_clean wait w [] c = ⊎_elim (λ (z : wait ≡ 0). rw z) (λ (z : is_break wait ≡ true). absurd (true≢false (rw (break_some wait z) at c))) w
walk_clean wait w (b ∷ t) c = either (breaks b)
    (λ q.
    let e = rw c.0 at q in
    rw q (rw c.0 (⊎_elim (λ (z : wait ≡ 0). rw (z, one_alone b e)
    (walk_clean b (inr e) t (rw (break_some b e) (rw e at c.2)) ∙ rw (break_some b e)))
    (λ (z : is_break wait ≡ true). absurd (true≢false (rw (break_some wait z, e) at c.1))) w)))
    (λ q. rw q (rw (walk_clean 0 (inl refl) t (rw (byte_other b q) at c.2))))

-- So a text that is clean from its start is its own edited form.
clean_own : (t : List ℕ) → CleanAfter true t → edited t ≡ t
unfolding leading put_wait
clean_own [] c = absurd (true≢false c)
clean_own (b ∷ t) c = let q : breaks b ≡ false = rw c.0 c.1 in edited_walk (b ∷ t) ∙ rw q (walk_clean 0 (inl refl) (b ∷ t) (c.0, refl, c.2))

-- Editing twice is editing once.
pub edited_twice : (t : List ℕ) → edited (edited t) ≡ edited t
unfolding everything
edited_twice t = ⊎_elim (λ e. rw e) (λ c. clean_own (edited t) c) (edited_clean t)

-- a break that waits makes a text longer by one
abbrev waiting : ℕ → ℕ
waiting wait = cond (eqb wait 0) 0 1

wait_length : (wait : ℕ) (t : List ℕ) → length (put_wait wait t) ≡ waiting wait + length t
unfolding put_wait
wait_length wait t = either (eqb wait 0) (λ q. rw q (omega arith)) (λ q. rw q (omega arith))

waiting_most : (wait : ℕ) → waiting wait ≤ 1
waiting_most wait = cond_both (λ k. k ≤ 1) (eqb wait 0) {x = 0} {y = 1} (omega arith) (omega arith)

-- The walk makes no text longer but by the break that waits at its start.
pub walk_length : (wait : ℕ) (t : List ℕ) → length (edit_from wait t) ≤ waiting wait + length t
unfolding edit_from
walk_length wait [] = omega arith
walk_length wait (b ∷ t) = either (breaks b)
    (λ q. let x = one_break wait (replaced b) in rw q (omega (arith, walk_length x t, waiting_most x)))
    (λ q. rw q (omega (arith, wait_length wait (b ∷ edit_from 0 t), walk_length 0 t)))

-- An edited text is no longer than the text.
pub edited_size : (t : List ℕ) → length (edited t) ≤ length t
edited_size t = rw (edited_walk t) (omega (arith, walk_length 0 (begun t), length-drop (leading breaks t) t))

-- Nothing is left just of breaks alone.
walk_breaks : (t : List ℕ) → (edit_from 0 (begun t) ≡ []) ↔ OnlyBreaks t
unfolding edit_from put_wait leading
walk_breaks [] = (λ e. tt, λ e. refl)
walk_breaks (b ∷ t) = either (breaks b) (λ q. rw q (λ e. (refl, (walk_breaks t).0 e), λ e. (walk_breaks t).1 e.1))
    (λ q. rw q (rw q (λ e. absurd (let z : suc (length (edit_from 0 t)) ≡ 0 = ap length e in omega arith), λ e. absurd (false≢true e.0))))

pub only_breaks : (t : List ℕ) → (edited t ≡ []) ↔ OnlyBreaks t
only_breaks t = rw (edited_walk t) (walk_breaks t)

-- What row 4 asks of the bytes before: nothing or a break stands there.
abbrev opens : List ℕ → Bool
opens before = none before || first is_break before

-- number 4 fits a break before which it opens, or after which nothing stands
four_by : (x n a f : Bool) → ((x && (n || (a || f))) ≡ false) ↔ ((((n || f) && x) ≡ false) × (a ≡ true → x ≡ false))
four_by x n a f = (λ e. (grind arith, λ q. grind arith), λ e. grind arith)

row_four : (before : List ℕ) (b : ℕ) (after : List ℕ)
    → (row4 before b after ≡ false) ↔ (((opens before && is_break b) ≡ false) × (none after ≡ true → is_break b ≡ false))
unfolding row4
row_four before b after = four_by (is_break b) (none before) (none after) (first is_break before)

-- a mark of punctuation is no byte of a message
punctuation_refused : (b : ℕ) → row3 [] b [] ≡ false → replaced b ≡ b
unfolding everything
punctuation_refused b e =
    either (among pause_marks b) (λ q. absurd (true≢false (sym (among_same (λ x. row3 [] x []) (λ _. true) pause_marks b refl q) ∙ e)))
    (λ q. either (among gap_marks b) (λ r. absurd (true≢false (sym (among_same (λ x. row3 [] x []) (λ _. true) gap_marks b refl r) ∙ e)))
    (λ r. rw (q, r)))

-- A message that no row fits is clean.
clear_clean : (before : List ℕ) (b : ℕ) (m : List ℕ) → ClearFrom before (b ∷ m) → CleanAfter (opens before) (b ∷ m)
unfolding fits_in rows row3 none first
clear_clean before b [] c = let f = (row_four before b []).0 (c.0 4) in (punctuation_refused b (c.0 3), f.0, f.1 refl)
clear_clean before b (d ∷ m) c =
    (punctuation_refused b (c.0 3), ((row_four before b (d ∷ m)).0 (c.0 4)).0, clear_clean (b ∷ before) d m c.1)

-- An accepted message is its own edited form.
pub accepted_own : (m : List ℕ) → NoneFits m → edited m ≡ m
unfolding before_at none
accepted_own m f = let p = none_passes m f in clean_own m (of m p.some (places_clear m p.rows m 0 refl))
  where
    of : (m : List ℕ) → 0 < length m → ClearFrom [] m → CleanAfter true m
    of [] z c = absurd (omega arith)
    of (b ∷ m) z c = clear_clean [] b m c

-- Number 4 fits no clean text.
clean_clear : (before : List ℕ) (b : ℕ) (m : List ℕ) → CleanAfter (opens before) (b ∷ m)
    → EachFrom (λ x c y. row4 x c y ≡ false) before (b ∷ m)
unfolding none first
clean_clear before b [] c = ((row_four before b []).1 (c.1, λ e. c.2), tt)
clean_clear before b (d ∷ m) c = ((row_four before b (d ∷ m)).1 (c.1, λ e. absurd (false≢true e)), clean_clear (b ∷ before) d m c.2)

clean_never_four : (m : List ℕ) → CleanAfter true m → (p : ℕ) → fits m 4 p ≡ false
unfolding fits fits_in rows before_at none
clean_never_four [] c p = absurd (true≢false c)
clean_never_four (b ∷ m) c p = either (leb (suc p) (length (b ∷ m)))
    (λ q. rw q (each_place (b ∷ m) (λ x d y. row4 x d y ≡ false) (b ∷ m) 0 refl (clean_clear [] b m c) p (omega arith)
    (leb-true (suc p) _ q))) (λ q. rw q)

-- An edited text never meets number 4.
pub edited_never_four : (t : List ℕ) (p : ℕ) → fits (edited t) 4 p ≡ false
unfolding fits
edited_never_four t p = ⊎_elim (λ e. rw (e, lt-leb (suc p) 0 (omega arith))) (λ c. clean_never_four (edited t) c p) (edited_clean t)
