use Rattle.laws.proofs.Kit.{◌≡◌, arith, length, take-length}
use Rattle.editor.proofs.Walking.{copying_none, copying_length, copying_more}
use Rattle.editor.proofs.copy_all.Goals as goal

pub loop-k-init : goal.loop-k-init
loop-k-init c = copying_none _ _

pub loop-k-preserved : goal.loop-k-preserved
loop-k-preserved c = copying_more c.loop-k.invariant c.loop-k-test.true (omega (arith, c.loop-k-test.true, c.requires))

pub returns : goal.returns
returns c =
    let t = c.args.text.now in
    let e : c.loop-k.k ≡ length t = omega arith in
    rw (e, take-length t) at c.loop-k.invariant.put
