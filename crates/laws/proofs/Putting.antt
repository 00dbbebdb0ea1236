-- Bytes put into a lent output, right before a place or from a place on: what was put beside other bytes was put together with them.
use Rattle.laws.proofs.Kit.{ℕ, ◌+◌, ◌-◌, ◌<◌, ◌≤◌, arith, add-one, ◌≡◌, refl, sym, ap, ◌∙◌, List, [], ◌∷◌, ◌++◌, append_assoc, append-nil}
use Rattle.laws.proofs.Kit.{length, take, drop, set, take-append-drop, length-append, length-drop}
use Rattle.laws.proofs.Kit.{drop_at, drop-drop, drop_of_length-le, take_all, set_split}
use Rattle.spec.specs.{Tape.sounds, Tape.tape, Layers.TapePromise, declared.Edition.Edition}
use Rattle.laws.proofs.Editions.{tape_length}
use Rattle.laws.specs.Putting.{Put}
use Rattle.std.proofs.lemmas.Grind.{common_steps}

-- nothing put leaves the output as it is
pub put_none : (out : List ℕ) (at : ℕ) → Put [] out out at at
put_none out at = record { place = omega arith; bytes = sym (take-append-drop at out) }

-- a byte stored at a place is put there
pub put_at : (out : List ℕ) (at code : ℕ) → at < length out → Put (code ∷ []) out (set out at code) (at + 1) at
put_at out at code h = record { place = refl; bytes = rw (set_split out at code h, add-one at) }

-- codes put before others that were put
pub put_over : (codes more out out₁ out₂ : List ℕ) (at a b : ℕ) → at ≤ length out → Put codes out out₁ at a → Put more out₁ out₂ a b
    → Put (more ++ codes) out out₂ at b
put_over codes more out out₁ out₂ at a b h p q =
    let t : take b out₁ ≡ take b out = grind (arith, common_steps, p.bytes, p.place, q.place) in
    let d : drop a out₁ ≡ codes ++ drop at out = grind (arith, common_steps, p.bytes, p.place) in
    record {
      place = omega (arith, length-append more codes, p.place, q.place);
      bytes = q.bytes ∙ rw (t, d, append_assoc more codes (drop at out));
    }

module _ (codes out out' : List ℕ) (at r : ℕ) (h : at ≤ length out) (p : Put codes out out' at r) where
  -- the output is as long as it was
  pub put_length : length out' ≡ length out
  put_length = grind (arith, common_steps, p.bytes, p.place)

  -- what stands after the codes is as it was
  pub put_rest : drop at out' ≡ drop at out
  put_rest =
      rw (p.bytes, ← append_assoc (take r out) codes (drop at out)) (drop_at (take r out ++ codes) (drop at out) at
      (grind (arith, common_steps, p.place)))

  -- and so is what stands before them, so putting them again changes nothing
  pub put_again : Put codes out' out' at r
  put_again =
      let f : take r out' ≡ take r out = grind (arith, common_steps, p.bytes, p.place) in
      record { place = p.place; bytes = p.bytes ∙ rw (f, put_rest) }

-- the tape that the transcriber promises was put
pub put_tape : {e : Edition} {m out out' : List ℕ} {end steps : ℕ} → length (sounds m) ≤ end → TapePromise e m out out' end steps
    → Put (tape e m) out out' end (end - length (tape e m))
put_tape {e} {m} h p = record { place = omega (arith, h, tape_length e m); bytes = p.output }

-- codes put before a place as many as they are stand at the start
pub put_first_lem : (codes out out' : List ℕ) (at r : ℕ) → at ≡ length codes → Put codes out out' at r → out' ≡ codes ++ drop at out
put_first_lem codes out out' at r e p = let z : r ≡ 0 = omega (arith, p.place) in rw z at p.bytes

-- bytes put behind others
pub put_behind : {codes more out out₁ out₂ : List ℕ} {at a b : ℕ} → b ≤ length out → Put codes out out₁ a at → Put more out₁ out₂ b a
    → Put (codes ++ more) out out₂ b at
put_behind {codes} {more} {out} {out₁} {out₂} {at} {a} {b} h p q =
    let t : take a out₁ ≡ take at out ++ codes = grind (arith, common_steps, p.bytes, p.place, q.place, h) in
    let d : drop b out₁ ≡ drop b out = rw (← q.place, ← drop-drop (length more) a out₁, ← drop-drop (length more) a out)
    (ap (drop (length more)) (put_rest codes out out₁ a at (omega (arith, q.place)) p)) in
    record {
      place = omega (arith, length-append codes more, p.place, q.place);
      bytes = q.bytes ∙ rw (t, d, append_assoc (take at out) codes (more ++ drop b out), append_assoc codes more (drop b out)) refl;
    }

-- the part of a list from a place to its end, as it is lent on
abbrev pub rest_of : List ℕ → ℕ → List ℕ
rest_of l k = take (length l - k) (drop k l)

pub rest_part : (l : List ℕ) (k : ℕ) → rest_of l k ≡ drop k l
rest_part l k = take_all (length l - k) (drop k l) (omega (arith, length-drop k l))

-- bytes put at the start of such a part of an output
pub put_part : {codes out part : List ℕ} {at r : ℕ} → Put codes (rest_of out at) part r 0
    → Put codes out (take at out ++ (part ++ drop (length out - at) (drop at out))) (at + r) at
put_part {codes} {out} {part} {at} {r} p =
    let e : part ≡ codes ++ drop r (drop at out) = rw (rest_part out at) at p.bytes in
    let h : length (drop at out) ≤ length out - at = omega (arith, length-drop at out) in
    record {
      place = omega (arith, p.place);
      bytes = rw (e, drop_of_length-le (drop at out) h, append-nil, drop-drop r at out) refl;
    }

-- two bytes stored one behind the other
pub put_two : (out : List ℕ) (at a b : ℕ) → at + 1 < length out → Put (a ∷ b ∷ []) out (set (set out at a) (at + 1) b) (at + 2) at
put_two out at a b h =
    let first = put_at out at a (omega (arith, h)) in
    let l = put_length (a ∷ []) out (set out at a) (at + 1) at (omega (arith, h)) first in
    let e : at + 1 + 1 ≡ at + 2 = omega arith in
    put_behind (omega (arith, h)) first (rw e at (put_at (set out at a) (at + 1) b (omega (arith, h, l))))
