-- Laws of planned writes laid into slices, and of all their bytes.
-- Assumes nothing.
use Rattle.std.proofs.Common.{◌≡◌, sym, ap, ◌∙◌, subst, List, [], ◌∷◌, ◌++◌, ℕ, ◌+◌, ◌<◌, length, take, get_or, set, None, Option, Some, append-nil, length-append}
use Rattle.std.proofs.lemmas.List.{map_push, length-map}
use lib.Seq.{sets}
use Rattle.bus.specs.Value.{laid_into}
use Rattle.bus.proofs.Lists.{laid_more}
use Rattle.bank.specs.declared.luminaire_write.LuminaireField.{LuminaireField}
use Rattle.bank.specs.Fields.{luminaire_fields}
use Rattle.records.specs.declared.luminaire_write.LuminaireNumbers.{LuminaireNumbers}
use Rattle.records.specs.declared.luminaire_write.FieldWrite.{FieldWrite}
use Rattle.records.specs.Writes.{Write, gather, bytes_for, written, writes_at, planned_writes, field_write, field_writes, all_bytes}
use Rattle.records.proofs.Laying.{laid_further}
use Rattle.records.proofs.Gathering.{flat_append}
use Rattle.records.proofs.Table.{next_field}

-- the writes and their bytes in the slices, and how many there are of both
pub record Planned (fs : List FieldWrite) (bs : List ℕ) (ws : List Write) (fs' : List FieldWrite) (bs' : List ℕ) (count used : ℕ) : Type 0 where
  pub count_is : count ≡ length ws
  pub used_is : used ≡ length (all_bytes ws)
  pub writes : fs' ≡ laid_into (field_writes ws) fs
  pub bytes : bs' ≡ laid_into (all_bytes ws) bs

planned_as : {fs fs' : List FieldWrite} {bs bs' : List ℕ} {ws vs : List Write} {count used : ℕ} → ws ≡ vs → Planned fs bs ws fs' bs' count used → Planned fs bs vs fs' bs' count used
planned_as {fs} {fs'} {bs} {bs'} {ws} {vs} {count} {used} e p = subst (λ (r : List Write). Planned fs bs r fs' bs' count used) e p

one_planned : {fs fs' : List FieldWrite} {bs bs' : List ℕ} {count used : ℕ} (ws : List Write) (w : Write) → Planned fs bs ws fs' bs' count used
    → Planned fs bs (ws ++ w ∷ []) (set fs' count (field_write w)) (sets bs' used w.bytes) (count + 1) (used + length w.bytes)
one_planned {fs} {fs'} {bs} {bs'} {count} {used} ws w p =
    let all : all_bytes (ws ++ w ∷ []) ≡ all_bytes ws ++ w.bytes = flat_append (λ (v : Write). v.bytes) ws (w ∷ []) ∙ ap (λ (l : List ℕ). all_bytes ws ++ l) (append-nil w.bytes) in
    record {
      count_is = rw (p.count_is, length-append);
      used_is = rw (p.used_is, all, length-append);
      writes = rw (p.writes, p.count_is, map_push field_write ws w) (ap (λ (n : ℕ). set (laid_into (field_writes ws) fs) n (field_write w)) (sym (length-map ws field_write)) ∙ laid_more (field_writes ws) fs (field_write w));
      bytes = rw (p.bytes, p.used_is, all) (laid_further (all_bytes ws) w.bytes bs);
    }

module _ (m : LuminaireNumbers) (which : Option ℕ) (text : List ℕ) {fs : List FieldWrite} {bs : List ℕ} where
  -- in a loop over the table: the write of a field behind those of the fields before
  module _ {t : List LuminaireField} (is : t ≡ luminaire_fields) (i : ℕ) (d : LuminaireField) (h : i < length t) {fs' : List FieldWrite} {bs' : List ℕ} {count used : ℕ} (before : Planned fs bs (gather (writes_at m which text) (take i luminaire_fields)) fs' bs' count used) where
    abbrev field : LuminaireField
    field = get_or t i d

    next_are : {ws : List Write} → writes_at m which text i field ≡ ws → gather (writes_at m which text) (take i luminaire_fields) ++ ws ≡ gather (writes_at m which text) (take (i + 1) luminaire_fields)
    next_are e = sym (next_field is i d h (writes_at m which text) ∙ ap (λ (ws : List Write). gather (writes_at m which text) (take i luminaire_fields) ++ ws) e)

    pub none_next : bytes_for field.kind m which text i field ≡ None → Planned fs bs (gather (writes_at m which text) (take (i + 1) luminaire_fields)) fs' bs' count used
    none_next b = planned_as (sym (append-nil _) ∙ next_are (rw b)) before

    pub own_next : {bytes : List ℕ} → bytes_for field.kind m which text i field ≡ Some bytes
        → Planned fs bs (gather (writes_at m which text) (take (i + 1) luminaire_fields)) (set fs' count (record { field = i; len = length bytes })) (sets bs' used bytes) (count + 1) (used + length bytes)
    own_next {bytes} b = planned_as (next_are (rw b)) (one_planned (gather (writes_at m which text) (take i luminaire_fields)) (written i field bytes) before)

  -- those of all fields are those of the plan
  pub all_planned : {fields : List LuminaireField} {fs' : List FieldWrite} {bs' : List ℕ} {count used : ℕ} → fields ≡ luminaire_fields
      → Planned fs bs (gather (writes_at m which text) fields) fs' bs' count used → Planned fs bs (planned_writes m which text) fs' bs' count used
  unfolding planned_writes
  all_planned e p = planned_as (ap (gather (writes_at m which text)) e) p
