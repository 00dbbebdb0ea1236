-- The editor's steps as one walk over the text.
-- Assumes nothing: these are definitions.
use Rattle.std.specs.Prelude.{ℕ, suc, Bool, cond, List, [], ◌∷◌, eqb}
use Rattle.spec.specs.{Letters.is_break, Editing.replaced, Editing.one_break}

-- does the byte stand for a break, itself or as a mark of punctuation?
abbrev pub breaks : ℕ → Bool
breaks b = is_break (replaced b)

-- the break that waits, if there is one, put before bytes
unfoldable pub put_wait : ℕ → List ℕ → List ℕ
put_wait wait t = cond (eqb wait 0) t (wait ∷ t)

-- What is left of a text behind a byte that is no break and the break that waits since then, 0
-- where none does.
unfoldable pub edit_from : ℕ → List ℕ → List ℕ
edit_from wait [] = []
edit_from wait (b ∷ t) =
    cond (breaks b) (edit_from (one_break wait (replaced b)) t) (put_wait wait (b ∷ edit_from 0 t))

-- how many bytes of a text stand before the first for which a test fails
unfoldable pub leading : (ℕ → Bool) → List ℕ → ℕ
leading test [] = 0
leading test (b ∷ t) = cond (test b) (suc (leading test t)) 0
