-- How the code of reader and writer goes: a sequence at a time.
-- Assumes nothing: these are definitions.
use Rattle.std.specs.Prelude.{ℕ, ◌+◌, ◌≤◌, ◌≡◌, List, length, drop}
use Rattle.spec.specs.Utf8.{decoded, read_to}
use Rattle.utf8.specs.declared.Extent.{Extent}

-- A loop over a text stands at place i and has read n bytes: from there on the rest is read, of the
-- octets and of the bytes.
pub record Stands (t : List ℕ) (i n : ℕ) : Type 0 where
  pub within : i ≤ length t
  pub octets : i + read_to (drop i t) ≡ read_to t
  pub bytes : drop n (decoded t) ≡ decoded (drop i t)
  pub most : n ≤ length (decoded t)

-- how far a text is readable
pub record Reaches (t : List ℕ) (r : Extent) : Type 0 where
  pub octets : r.octets ≡ read_to t
  pub bytes : r.bytes ≡ length (decoded t)
