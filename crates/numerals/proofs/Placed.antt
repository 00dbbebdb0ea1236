-- Words that were put one after the other were put together: after the first the place is no longer the start, so each further one stands
-- behind a gap.
use Rattle.laws.proofs.Kit.{ℕ, ◌+◌, ◌<◌, ◌≤◌, ◌≡◌, refl, sym, ap, ◌∙◌, Bool, true, false, cond, List, [], ◌∷◌, ◌++◌, append_assoc}
use Rattle.laws.proofs.Kit.{append-nil, arith, eqb, length, take, drop, drop-drop, length-append, ne_eqb}
use Rattle.spec.specs.Alphabet.{gap}
use Rattle.spec.specs.SpokenLevels.{after_gaps, spaced}
use Rattle.laws.proofs.Classes.{cond_same}
use Rattle.laws.proofs.SpokenLevels.{gaps_append}
use Rattle.laws.proofs.Putting.{put_none, put_length, put_behind}
use Rattle.laws.specs.Putting.{Put}
use Rattle.numerals.specs.Placing.{placed, Room, Begun, Adds, RoomIn, AddsIn}
use Rattle.numerals.specs.declared.Words.{Words}

-- no words are no bytes
placed_none : (at : ℕ) → placed at [] ≡ []
unfolding placed spaced after_gaps
placed_none at = cond_same (eqb at 0) []

-- words and then others
placed_append : (a b : List (List ℕ)) (at r : ℕ) → at + length (placed at a) ≡ r → Begun a r
    → placed at (a ++ b) ≡ placed at a ++ placed r b
unfolding placed spaced after_gaps
placed_append [] b at r e g =
    let z : at ≡ r = omega (arith, ap length (placed_none at)) in
    rw z (sym (ap (λ x. x ++ placed r b) (placed_none r)))
placed_append (w ∷ a) b at r e g = rw (ne_eqb r 0 (omega arith), gaps_append a b) (by (eqb at 0))
  where
    by : (t : Bool) → cond t (w ++ (after_gaps a ++ after_gaps b)) (gap ∷ (w ++ (after_gaps a ++ after_gaps b)))
        ≡ cond t (w ++ after_gaps a) (gap ∷ (w ++ after_gaps a)) ++ after_gaps b
    by true = sym (append_assoc w (after_gaps a) (after_gaps b))
    by false = ap (λ x. gap ∷ x) (sym (append_assoc w (after_gaps a) (after_gaps b)))

-- nothing is put where there are no words
pub adds_none : (out : List ℕ) (at : ℕ) → Adds [] out out at at
adds_none out at = record { put = rw (placed_none at) (put_none out at); begun = tt }

-- the first of words take no more bytes than all
placed_first : (a b : List (List ℕ)) (at : ℕ) → length (placed at a) ≤ length (placed at (a ++ b))
unfolding placed spaced after_gaps
placed_first [] b at = omega (arith, ap length (placed_none at))
placed_first (w ∷ a) b at = rw (gaps_append a b) (by (eqb at 0))
  where
    by : (t : Bool) → length (cond t (w ++ after_gaps a) (gap ∷ (w ++ after_gaps a)))
        ≤ length (cond t (w ++ (after_gaps a ++ after_gaps b)) (gap ∷ (w ++ (after_gaps a ++ after_gaps b))))
    by true = simp length-append (omega arith)
    by false = simp length-append (omega arith)

begun_both : (a b : List (List ℕ)) (r s : ℕ) → r ≤ s → Begun a r → Begun b s → Begun (a ++ b) s
begun_both [] b r s h g k = k
begun_both (w ∷ a) b r s h g k = omega arith

-- Where there is room for words and then others,
module _ (a b : List (List ℕ)) {out : List ℕ} {at : ℕ} (h : Room (a ++ b) out at) where
  -- there is room for the words,
  pub room_first : Room a out at
  room_first = record { enough = omega (arith, h.enough, placed_first a b at) }

  module _ {out₁ : List ℕ} {r : ℕ} (p : Adds a out out₁ at r) where
    all : r + length (placed r b) ≤ length out
    all =
        let e = ap length (placed_append a b at r p.put.place p.begun) in
        omega (arith, e, length-append (placed at a) (placed r b), h.enough, p.put.place)

    -- when they are put, for the others,
    pub room_next : Room b out₁ r
    room_next = record { enough = omega (arith, all, put_length _ _ _ _ _ (omega (arith, all)) p.put) }

    -- and these are then put together with them.
    pub adds_both : {out₂ : List ℕ} {s : ℕ} → Adds b out₁ out₂ r s → Adds (a ++ b) out out₂ at s
    adds_both {out₂} {s} q = record {
      put = rw (placed_append a b at r p.put.place p.begun) (put_behind (omega (arith, all, q.put.place)) p.put q.put);
      begun = begun_both a b r s (omega (arith, q.put.place)) p.begun q.begun;
    }

-- The same of an output of which some is filled.
pub none_in : (w : Words) → AddsIn [] w w
none_in w = record { adds = adds_none w.out.now w.length; same = refl }

module _ (a b : List (List ℕ)) {w : Words} (h : RoomIn (a ++ b) w) where
  pub first_in : RoomIn a w
  first_in = record { room = room_first a b h.room }

  module _ {v : Words} (p : AddsIn a w v) where
    pub next_in : RoomIn b v
    next_in = record { room = room_next a b h.room p.adds }

    pub both_in : {u : Words} → AddsIn b v u → AddsIn (a ++ b) w u
    both_in q = record { adds = adds_both a b h.room p.adds q.adds; same = q.same ∙ p.same }

-- the gap that stands before a word, but not at the start
unfoldable pub gap_at : ℕ → List ℕ
gap_at at = cond (eqb at 0) [] (gap ∷ [])

placed_word : (at : ℕ) (word : List ℕ) → placed at (word ∷ []) ≡ gap_at at ++ word
unfolding placed spaced after_gaps gap_at
placed_word at word = rw append-nil (by (eqb at 0))
  where
    by : (t : Bool) → cond t word (gap ∷ word) ≡ cond t [] (gap ∷ []) ++ word
    by true = refl
    by false = refl

-- only that gap was put
pub record Gapped (w v : Words) : Type 0 where
  pub put : Put (gap_at w.length) w.out.now v.out.now v.length w.length
  pub same : v.out.ghost_name ≡ w.out.ghost_name

-- at the start it is none
pub gap_none : (w : Words) → w.length ≡ 0 → Gapped w w
unfolding gap_at
gap_none w e =
    let g : gap_at w.length ≡ [] = rw e refl in
    record { put = rw g (put_none w.out.now w.length); same = refl }

-- past it there is room for one,
pub room_gap : {word : List ℕ} {w : Words} → 0 < w.length → RoomIn (word ∷ []) w → w.length + 1 + length word ≤ length w.out.now
unfolding gap_at
room_gap {word} {w} z h =
    let e : length (gap_at w.length) ≡ 1 = rw (ne_eqb w.length 0 (omega arith)) in
    omega (arith, h.room.enough, ap length (placed_word w.length word), e, length-append (gap_at w.length) word)

-- which is put,
pub gap_put : {w v : Words} → 0 < w.length → Put (gap ∷ []) w.out.now v.out.now v.length w.length → v.out.ghost_name ≡ w.out.ghost_name
    → Gapped w v
unfolding gap_at
gap_put {w} z p e = record { put = rw (ne_eqb w.length 0 (omega arith)) p; same = e }

-- and then there is room for the word, which stands there with it.
module _ {word : List ℕ} {w v : Words} (h : RoomIn (word ∷ []) w) (g : Gapped w v) where
  behind : v.length + length word ≤ length w.out.now
  behind = omega (arith, h.room.enough, ap length (placed_word w.length word), length-append (gap_at w.length) word, g.put.place)

  pub room_word : v.length + length word ≤ length v.out.now
  room_word = omega (arith, behind, put_length _ _ _ _ _ (omega (arith, behind)) g.put)

  pub word_put : {u : Words} → 0 < length word → Put word v.out.now u.out.now u.length v.length → u.out.ghost_name ≡ v.out.ghost_name
      → AddsIn (word ∷ []) w u
  word_put {u} z p e = record {
    adds = record { put = rw (placed_word w.length word) (put_behind (omega (arith, behind, p.place)) g.put p); begun = omega (arith, p.place) };
    same = e ∙ g.same;
  }

-- a word that was copied to the start of an output
pub copied : {w out out' : List ℕ} {r : ℕ} → r ≡ length w → out' ≡ w ++ drop (length w) out → Put w out out' r 0
copied {w} {out} e f = record { place = omega (arith, e); bytes = f ∙ rw e refl }

-- and one that was copied over a part as long as it is was put there
pub copied_at : {word part out : List ℕ} (at k : ℕ) → part ≡ word → k ≡ length word
    → Put word out (take at out ++ (part ++ drop k (drop at out))) (at + length word) at
copied_at {word} {part} {out} at k e f = record { place = refl; bytes = rw (e, f, drop-drop (length word) at out) refl }
