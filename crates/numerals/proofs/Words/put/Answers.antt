-- A gap is put unless nothing is filled, and then the word.
use Rattle.laws.proofs.Kit.{ℕ, ◌≡◌, ◌<◌, List, [], ◌∷◌, arith, length, refl}
use Rattle.spec.specs.Alphabet.{gap}
use Rattle.numerals.specs.Placing.{RoomIn}
use Rattle.numerals.specs.declared.Words.{Words}
use Rattle.laws.proofs.Putting.{put_at}
use Rattle.numerals.proofs.Placed.{Gapped, gap_none, gap_put, room_gap, room_word, word_put, copied_at}
use Rattle.numerals.proofs.Words.put.Goals as goal
use Rattle.numerals.proofs.Words.put.Goals.{Joined-self-ne0, then-self-ne0, else-self-ne0}

-- past the start there is room for the gap
inside : {word : List ℕ} {w : Words} → (w.length ≡ 0 → ⊥) → RoomIn (word ∷ []) w → w.length < length w.out.now
inside f h = omega (arith, room_gap (omega (arith, f)) h)

-- where a gap belongs it was put
gapped : (c : Joined-self-ne0) → Gapped c.args.self.now c.if-self-ne0.self
gapped c = elim c.if-self-ne0.branch [
  | then-self-ne0 b ↦
      let h = inside b.if-self-ne0.true c.requires.1 in
      rw b.self-is (gap_put (omega (arith, b.if-self-ne0.true)) (put_at _ _ gap h) refl)
  | else-self-ne0 b ↦ rw b.self-is (gap_none _ b.if-self-ne0.false)
]

pub bounds-self-self : goal.bounds-self-self
bounds-self-self c = inside c.if-self-ne0.true c.requires.1

pub slice_bounds-copy_from_slice-end : goal.slice_bounds-copy_from_slice-end
slice_bounds-copy_from_slice-end c =
    omega (arith, room_word c.requires.1 (gapped (goal.at.slice_bounds-copy_from_slice-end c).Joined-self-ne0))

pub returns : goal.returns
returns c =
    let p = copied_at _ _ c.copy_from_slice.ensures.after (omega arith) in
    word_put c.requires.1 (gapped (goal.at.returns c).Joined-self-ne0) c.requires.0 p refl
