-- The theorems on planned writes: their order, their places, and that no store of an accepted plan is past the bank's end.
-- Assumes nothing.
use Rattle.std.specs.Prelude.{None, Option, Some, slice_get}
use mathlib.Core.Path.{◌≡◌, refl, sym, subst}
use mathlib.Core.Bool.{true}
use mathlib.Core.List.{List, [], ◌∷◌, ◌++◌}
use Prim.Native.Nat.{ℕ, suc, ◌+◌, ◌≤◌}
use native.Mathlib.Omega.{arith}
use borrow.Author.Tests.{le-leb}
use lib.ListN.{length}
use Rattle.bank.specs.declared.luminaire_write.LuminaireField.{LuminaireField}
use Rattle.bank.specs.Refusal.{first_of}
use Rattle.bank.specs.Fields.{luminaire_fields, field_end, is_text_kind}
use Rattle.records.specs.declared.luminaire_write.LuminaireNumbers.{LuminaireNumbers}
use Rattle.records.specs.declared.luminaire_write.Plan.{Plan}
use Rattle.records.specs.declared.luminaire_write.WriteStage.{WriteStage}
use Rattle.records.specs.Writes.{Write, Store, gather, bytes_for, written, writes_at, planned_writes, is_staged, stages_of, part_of, single_bytes, stage_stores, write_stores, stores_at, Each, InField, InPlace, Rising, InOrder, EveryPlanInOrder, Staged, EveryWriteStaged}
use Rattle.records.specs.Plan.{plan_checks, stores_of, EveryStoreInBank}
use Rattle.records.proofs.Gathering.{each_flat, each_gather, each_map}
use Rattle.records.proofs.Table.{by_field, table_rises, Sorted}
use Rattle.records.proofs.Stages.{bytes_fit, other_stores, stores_of_write, StageIn, stages_in_lem}
use Rattle.records.proofs.Accepted.{ends_by_lem}

-- ---- the stores of a write

module _ (place : ℕ) (f : LuminaireField) where
  staged_text : (x y : ℕ) (ys : List ℕ) → is_text_kind f.kind ≡ true → is_staged f.kind (length (x ∷ y ∷ ys)) ≡ true
  staged_text x y ys t = rw t (le-leb 2 (length (x ∷ y ∷ ys)) (omega arith))

  pub staged : Staged place f
  staged =
      record {
        text = λ x y ys t. rw (staged_text x y ys t);
        other = λ bytes t. other_stores place f bytes t;
      }

  single_in : (o : ℕ) (bytes : List ℕ) → f.offset ≤ o → o + length bytes ≤ field_end f → Each (InField f) (single_bytes o bytes)
  single_in o [] a b = tt
  single_in o (x ∷ bytes) a b = ((a, omega arith), single_in (suc o) bytes (omega arith) (omega arith))

  -- they stand in its field
  inside : (bytes : List ℕ) → length bytes ≤ f.len → Each (InField f) (write_stores (written place f bytes))
  inside bytes h =
      each_flat (InField f) (stage_stores bytes) (stages_of place f (length bytes))
      (each_map (StageIn place f bytes h) (λ (s : WriteStage). Each (InField f) (stage_stores bytes s)) (λ s w. single_in s.offset (part_of s.part bytes) w.0 w.1) (stages_of place f (length bytes)) (stages_in_lem place f bytes h))

pub every_write_staged : EveryWriteStaged
every_write_staged place f = staged place f

-- ---- the order of the writes

rising_from : (y z : ℕ) (ws : List Write) → y ≤ z → Rising z ws → Rising y ws
rising_from y z [] h a = tt
rising_from y z (w ∷ ws) h a = (omega (arith, a.0), a.1)

-- at most one write, to the field itself
abbrev Own : LuminaireField → List Write → Type 0
Own f [] = Unit {0}
Own f (w ∷ []) = w.field ≡ f
Own f (w ∷ v ∷ ws) = ⊥

rising_own : (z : ℕ) (f : LuminaireField) (ws rest : List Write) → z ≤ f.offset → Own f ws → Rising (field_end f) rest → Rising z (ws ++ rest)
rising_own z f [] rest h o r = rising_from z (field_end f) rest (omega arith) r
rising_own z f (w ∷ []) rest h o r = rw o (h, r)
rising_own z f (w ∷ v ∷ ws) rest h o r = absurd o

rising_gather : (g : ℕ → LuminaireField → List Write) (z : ℕ) (fs : List LuminaireField) → Sorted z fs → ((i : ℕ) (f : LuminaireField) → Own f (g i f)) → Rising z (gather g fs)
rising_gather g z [] s o = tt
rising_gather g z (f ∷ fs) s o = rising_own z f (g 0 f) (gather (λ i. g (suc i)) fs) s.0 (o 0 f) (rising_gather (λ i. g (suc i)) (field_end f) fs s.1 (λ i. o (suc i)))

module _ (n : LuminaireNumbers) (which : Option ℕ) (text : List ℕ) where
  own : (i : ℕ) (f : LuminaireField) (o : Option (List ℕ)) → bytes_for f.kind n which text i f ≡ o → Own f (writes_at n which text i f)
  own i f None e = rw e tt
  own i f (Some bytes) e = rw e refl

  -- the stores of a field stand in it
  pub in_field : (i : ℕ) (f : LuminaireField) → Each (InField f) (stores_at n which text i f)
  in_field i f = go (bytes_for f.kind n which text i f) refl
    where
      go : (o : Option (List ℕ)) → bytes_for f.kind n which text i f ≡ o → Each (InField f) (stores_at n which text i f)
      go None e = rw e tt
      go (Some bytes) e = subst (Each (InField f)) (sym (stores_of_write n which text i f e)) (inside i f bytes (bytes_fit f.kind n which text i f e))

  placed : (i : ℕ) (f : LuminaireField) → slice_get luminaire_fields i ≡ Some f → (o : Option (List ℕ)) → bytes_for f.kind n which text i f ≡ o → Each InPlace (writes_at n which text i f)
  placed i f t None e = rw e tt
  placed i f t (Some bytes) e =
      let fits = bytes_fit f.kind n which text i f e in
      rw e (record { of_table = t; fits = fits; inside = inside i f bytes fits }, tt)

  pub plan_in_order : InOrder (planned_writes n which text)
  unfolding planned_writes
  plan_in_order =
      record {
        in_place = each_gather InPlace (writes_at n which text) luminaire_fields (λ i f e. placed i f e (bytes_for f.kind n which text i f) refl);
        rising = rising_gather (writes_at n which text) 0 luminaire_fields table_rises (λ i f. own i f (bytes_for f.kind n which text i f) refl);
      }

pub every_plan_in_order : EveryPlanInOrder
every_plan_in_order n which text = plan_in_order n which text

-- ---- an accepted plan

module _ (p : Plan) (text : List ℕ) (last : ℕ) (known : p.layout.last_offset ≡ Some last) where
  field_in_bank : first_of (plan_checks p text) ≡ None → (i : ℕ) (f : LuminaireField) → slice_get luminaire_fields i ≡ Some f → (o : Option (List ℕ)) → bytes_for f.kind p.numbers p.text_field text i f ≡ o → Each (λ (s : Store). s.offset ≤ last) (stores_at p.numbers p.text_field text i f)
  field_in_bank sound i f e None b = rw b tt
  field_in_bank sound i f e (Some bytes) b =
      let end = ends_by_lem p text sound i e b known in
      each_map (InField f) (λ (s : Store). s.offset ≤ last) (λ s h. omega (arith, h.0, h.1, end)) (stores_at p.numbers p.text_field text i f) (in_field p.numbers p.text_field text i f)

  stores_in_bank : first_of (plan_checks p text) ≡ None → Each (λ (s : Store). s.offset ≤ last) (stores_of p text)
  stores_in_bank s =
      subst (Each (λ (s : Store). s.offset ≤ last)) (sym (by_field p.numbers p.text_field text))
      (each_gather (λ (s : Store). s.offset ≤ last) (stores_at p.numbers p.text_field text) luminaire_fields
      (λ i f e. field_in_bank s i f e (bytes_for f.kind p.numbers p.text_field text i f) refl))

pub every_store_in_bank : EveryStoreInBank
every_store_in_bank p text last s known = stores_in_bank p text last known s
