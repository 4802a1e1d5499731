-- Laws of what is printed for a plan and for a file.
-- Assumes nothing.
use Rattle.std.specs.Prelude.{None, Some}
use mathlib.Core.Path.{◌≡◌, sym, ap, ◌∙◌}
use mathlib.Core.List.{List, ◌++◌}
use Prim.Native.Nat.{ℕ, ◌-◌}
use lib.ListN.{length, take, drop}
use Rattle.bank.specs.declared.refusal.Refusal.{Refusal}
use Rattle.bank.specs.Refusal.{first_of}
use Rattle.records.specs.declared.luminaire_write.Plan.{Plan}
use Rattle.records.specs.Writes.{Store, flat}
use Rattle.records.specs.Plan.{plan_checks, stores_of}
use Rattle.records.proofs.Room.{AcceptedPlan}
use Rattle.stores.specs.File.{parsed}
use Rattle.stores.specs.Listing.{counted, line, stores_word, bad_file, stores_text, refused_text, plan_text, printed}
use Rattle.stores.specs.Steps.{lines}
use Rattle.stores.proofs.Heads.{text_is}
use Rattle.stores.proofs.Lines.{lines_of}

module _ (p : Plan) (text : List ℕ) where
  pub refused_text_lem : {r : Refusal} → first_of (plan_checks p text) ≡ Some r → plan_text p text ≡ refused_text r
  refused_text_lem e = rw e

  pub stores_text_lem : first_of (plan_checks p text) ≡ None → plan_text p text ≡ stores_text (stores_of p text)
  stores_text_lem e = rw e

-- its lines behind their count
module _ {p : Plan} {text : List ℕ} {n : ℕ} {os vs : List ℕ} (a : AcceptedPlan p text n os vs) where
  pub accepted_text : counted stores_word n ++ lines (take n os) (take n vs) ≡ plan_text p text
  accepted_text =
      let ss = stores_of p text in
      rw (a.offsets, a.values, lines_of ss)
      (ap (λ (k : ℕ). counted stores_word k ++ flat (λ (s : Store). line s.offset s.value) ss) a.count ∙ sym (stores_text_lem p text a.sound))

-- by what a file asks for
module _ (file : List ℕ) where
  pub plan_printed : {p : Plan} → parsed file ≡ Some p → printed file ≡ plan_text p (take (length file - 31) (drop 31 file))
  unfolding printed
  plan_printed {p} e = rw e (ap (plan_text p) (text_is file))

  pub bad_printed : parsed file ≡ None → printed file ≡ bad_file
  unfolding printed
  bad_printed e = rw e
