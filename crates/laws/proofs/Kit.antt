-- The names of the kit that proofs use, each as its library has it, so that a proof brings them in by one line.
pub use Prim.Native.Nat.{◌%◌, ◌*◌, ◌+◌, ◌-◌, ◌/◌, ◌<◌, ◌^◌, ◌≤◌, suc, zero, ℕ}
pub use mathlib.Core.Path.{◌∙◌, ◌≡◌, ap, refl, subst, sym}
pub use mathlib.Core.Logic.{◌↔◌, ◌≢◌, ◌⊎◌, inl, inr, ⊎_elim}
pub use mathlib.Core.Bool.{Bool, ◌&&◌, ◌||◌, and_comm, and-eq-true_iff, and-false, and-or_distrib_left, and-true, cond, false, false≢true}
pub use mathlib.Core.Bool.{not, or_assoc, or_comm, or-false, or-true, true, true≢false}
pub use mathlib.Core.List.{List, [], ◌++◌, ◌∷◌, append_assoc, append-nil, map}
pub use native.Mathlib.Numerals.{add-one}
pub use native.Mathlib.Omega.{arith}
pub use lib.Dec.{eqb, leb}
pub use lib.ListN.{get_or-append as List·getD-append, get_or-eq_default as List·getD-eq-default, drop, drop_of_length-le, get_or, length}
pub use lib.ListN.{length-append, length-drop, length-take, set, take, take-append-drop}
pub use lib.Seq.{append_snoc, drop-append-add, drop_at, drop-cons, drop-drop, drop-length, get_or-append-add, get_or_at, get_or-drop}
pub use lib.Seq.{get_or-take, length-take-le, set_split, take-add, take_all, take-append-le, take_at, take-length, take-suc}
pub use lib.Seq.{take-suc-set, take-take}
pub use borrow.Author.Tests.{eq-eqb, eqb-false, eqb-true, le-leb, le-ltb, leb-false, leb-true, lt-leb, lt-ltb, ne_eqb, not-false, not-true}
pub use borrow.Author.Rules.{rules}
pub use Rattle.std.proofs.lemmas.Bool.{and_parts}
