-- The walks that write from the end: what a byte puts stands before what the bytes after it have put.
use Rattle.laws.proofs.Kit.{ℕ, zero, suc, ◌-◌, ◌<◌, ◌≤◌, arith, ◌≡◌, ap, ◌∙◌, List, ◌++◌, length, take, drop, length-append}
use Rattle.letters.specs.Places.{Steady}
use Rattle.letters.specs.Filling.{MayStep, DidStep}
use Rattle.laws.proofs.Putting.{put_over, put_length}
use Rattle.laws.specs.Putting.{Put}

-- from place i on the bytes of m put `rest i`, of which the byte there puts a piece
pub record Pieces (m : List ℕ) (rest piece : ℕ → List ℕ) (all : ℕ) : Type 0 where
  pub steady : Steady m
  pub step : (i : ℕ) → i < length m → rest i ≡ piece i ++ rest (suc i)
  pub whole : length (rest 0) ≤ all

-- so no rest is longer than all
pub pieces_part : {m : List ℕ} {rest piece : ℕ → List ℕ} {all : ℕ} → Pieces m rest piece all
    → (i : ℕ) → i ≤ length m → length (rest i) ≤ all
pieces_part p zero h = p.whole
pieces_part {rest = rest} {piece} p (suc i) h =
    omega (arith, pieces_part p i (omega arith), ap length (p.step i h) ∙ length-append (piece i) (rest (suc i)))

-- the walk stands at place i: `rest i` stands right before place `end`, and there is room for all
pub record Writing (Right : ℕ → Type 0) (m : List ℕ) (rest piece : ℕ → List ℕ) (all : ℕ) (out₀ out : List ℕ) (end i at : ℕ) : Type 0 where
  pub pieces : Pieces m rest piece all
  pub stands : Right i
  pub within : i ≤ length m
  pub room : all ≤ end
  pub place : end ≤ length out₀
  pub put : Put (rest i) out₀ out end at

module _ {Right : ℕ → Type 0} {m : List ℕ} {rest piece : ℕ → List ℕ} {all : ℕ} {out₀ out : List ℕ} {end i at : ℕ} (w : Writing Right m rest piece all out₀ out end i at) where
  -- the output is as long as it was
  pub writing_length : length out ≡ length out₀
  writing_length = put_length _ _ _ _ _ w.place w.put

  -- what the byte before place i puts stands before the rest
  writing_step : 0 < i → rest (i - 1) ≡ piece (i - 1) ++ rest i
  writing_step z = let e : suc (i - 1) ≡ i = omega arith in rw e at (w.pieces.step (i - 1) (omega (arith, w.within)))

  -- from a place that is not the first the walk can step on
  pub writing_ready : 0 < i → MayStep Right (piece (i - 1)) m out (i - 1) at
  writing_ready z =
      let e : suc (i - 1) ≡ i = omega arith in
      let h : i - 1 < length m = omega (arith, w.within) in
      let s = ap length (writing_step z) ∙ length-append (piece (i - 1)) (rest i) in
      record {
        within = h;
        steady = w.pieces.steady;
        stands = rw e w.stands;
        room = omega (arith, s, pieces_part w.pieces (i - 1) (omega arith), w.put.place, w.room);
        place = omega (arith, writing_length, w.put.place, w.place);
      }

  -- and then stands there
  pub writing_more : 0 < i → {Then : ℕ → Type 0} {out' : List ℕ} {at' : ℕ} → DidStep Then (piece (i - 1)) out out' (i - 1) at at' → Writing Then m rest piece all out₀ out' end (i - 1) at'
  writing_more z s = record {
    pieces = w.pieces;
    stands = s.stands;
    within = omega (arith, w.within);
    room = w.room;
    place = w.place;
    put = rw (writing_step z) (put_over _ _ _ _ _ _ _ _ w.place w.put s.put);
  }

-- what was put right before a place begins as many bytes before it as it has
pub put_output : {codes out out' : List ℕ} {end r : ℕ} → Put codes out out' end r
    → out' ≡ take (end - length codes) out ++ (codes ++ drop end out)
put_output {codes} {out} {out'} {end} {r} p = let e : end - length codes ≡ r = omega (arith, p.place) in p.bytes ∙ rw e
