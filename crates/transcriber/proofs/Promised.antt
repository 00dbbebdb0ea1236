-- What the transcriber's promise to the layers above it gives.
use Rattle.laws.proofs.Kit.{ℕ, ◌-◌, ◌≡◌, ◌∙◌, arith, List, ◌++◌, length, drop}
use Rattle.spec.specs.{Tape.tape, Layers.TapePromise, declared.Edition.Edition}

-- a tape that was put as far behind the output's start as it is long stands there
pub tape_first : {ed : Edition} {m out out' : List ℕ} {end steps : ℕ} → end ≡ length (tape ed m) → TapePromise ed m out out' end steps
    → out' ≡ tape ed m ++ drop end out
tape_first {ed} {m} {out} {out'} {end} e p = let z : end - length (tape ed m) ≡ 0 = omega (arith, e) in p.output ∙ rw z
