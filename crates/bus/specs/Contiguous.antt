-- Parts of a bank that lie one behind the other, without gap or overlap.
-- Assumes nothing.
use Rattle.std.specs.Prelude.{◌≡◌, List, ℕ, ◌+◌, None, Some, slice_get}

-- the parts of a list, each with its first offset and the offset behind its last byte, from one offset to another
pub record Contiguous {A : Type 0} (start behind : A → ℕ) (from to : ℕ) (xs : List A) : Type 0 where
  pub first : {x : A} → slice_get xs 0 ≡ Some x → start x ≡ from
  pub next : {x y : A} (i : ℕ) → slice_get xs i ≡ Some x → slice_get xs (i + 1) ≡ Some y → start y ≡ behind x
  pub last : {x : A} (i : ℕ) → slice_get xs i ≡ Some x → slice_get xs (i + 1) ≡ None → behind x ≡ to
