-- The theorems on values: no mask is shown as a number, each case has its number, and what is written reads back.
-- Assumes nothing.
use Rattle.std.specs.Prelude.{Some}
use mathlib.Core.Path.{◌≡◌, refl, sym, ◌∙◌}
use mathlib.Core.Bool.{Bool, true, false, cond}
use mathlib.Core.List.{List}
use Prim.Native.Nat.{ℕ, ◌+◌, ◌≤◌}
use native.Mathlib.Omega.{arith}
use borrow.Author.Tests.{le-leb, eqb-true, eqb-false}
use lib.Dec.{eqb}
use lib.ListN.{length, take, drop, length-append, length-drop}
use lib.Seq.{take_all, take_at}
use Rattle.bus.specs.declared.BankValue.TheVariants.{Reading, NotImplemented, TemporarilyUnavailable}
use Rattle.bus.specs.Number.{low_bytes}
use Rattle.bus.specs.Width.{bytes_of, mask_of, tmask_of}
use Rattle.bus.specs.Value.{raw_of, value_of, encoded, NoMask, NoMaskShown, EveryRawKept, ReadsBack}
use Rattle.bus.proofs.Lists.{no_element}
use Rattle.bus.proofs.Number.{length_low_bytes, number_low_bytes}

pub no_mask_shown : NoMaskShown
no_mask_shown w raw v e = by (eqb raw (mask_of w)) (eqb raw (tmask_of w)) refl refl e
  where
    by :
        (a b : Bool) → eqb raw (mask_of w) ≡ a → eqb raw (tmask_of w) ≡ b →
        value_of (cond a NotImplemented (cond b TemporarilyUnavailable (Reading raw))) ≡ Some v →
        NoMask w raw v
    by true b p q s = no_element s
    by false true p q s = no_element s
    by false false p q s =
        let same : v ≡ raw = cc in
        record {
          is_raw = same;
          no_mask = λ t. eqb-false raw (mask_of w) p (sym same ∙ t);
          no_tmask = λ t. eqb-false raw (tmask_of w) q (sym same ∙ t);
        }

pub every_raw_kept : EveryRawKept
every_raw_kept w raw = by (eqb raw (mask_of w)) (eqb raw (tmask_of w)) refl refl
  where
    by :
        (a b : Bool) → eqb raw (mask_of w) ≡ a → eqb raw (tmask_of w) ≡ b →
        raw_of w (cond a NotImplemented (cond b TemporarilyUnavailable (Reading raw))) ≡ raw
    by true b p q = sym (eqb-true raw (mask_of w) p)
    by false true p q = sym (eqb-true raw (tmask_of w) q)
    by false false p q = refl

pub reads_back : ReadsBack
reads_back w raw out h =
    let s : List ℕ = low_bytes (bytes_of w) raw in
    let n : length s ≡ bytes_of w = length_low_bytes (bytes_of w) raw in
    let whole : take (length out) s ≡ s = take_all (length out) s (omega arith) in
    let long : 0 + bytes_of w ≤ length (encoded w raw out) = rw (whole, length-append, length-drop) (omega arith) in
    rw (le-leb _ _ long, whole, take_at s (drop (length s) out) (bytes_of w) n, number_low_bytes)
