-- The theorem on the wanted text.
-- Assumes nothing.
use Rattle.std.specs.Prelude.{None, Option, Some}
use mathlib.Core.Path.{◌≡◌, refl, sym, ◌∙◌}
use mathlib.Core.Bool.{true, false, true≢false}
use mathlib.Core.List.{List, [], ◌∷◌}
use Prim.Native.Nat.{ℕ}
use borrow.Author.Tests.{eq-eqb, ne_eqb}
use Rattle.bank.specs.declared.luminaire_write.FieldKind.{FieldKind}
use Rattle.bank.specs.declared.luminaire_write.FieldKind.TheVariants.{LayoutId, Number, Text}
use Rattle.bank.specs.declared.luminaire_write.LuminaireField.{LuminaireField}
use Rattle.bank.specs.Fields.{luminaire_fields, is_text_kind}
use Rattle.records.specs.declared.luminaire_write.LuminaireNumbers.{LuminaireNumbers}
use Rattle.records.specs.Writes.{Write, number_for, is_for, terminated, gather, written, writes_at, planned_writes, if_text, text_writes, TextPlanned, EveryWantedTextPlanned}
use Rattle.records.proofs.Gathering.{flat_gather, gather_nothing, gather_only}

module _ (n : LuminaireNumbers) (which : Option ℕ) (text : List ℕ) where
  -- the text writes of a field
  abbrev text_at : ℕ → LuminaireField → List Write
  text_at place f = text_writes (writes_at n which text place f)

  by_field : text_writes (planned_writes n which text) ≡ gather text_at luminaire_fields
  unfolding planned_writes
  by_field = flat_gather (λ (w : Write). if_text w.field.kind w) (writes_at n which text) luminaire_fields

  -- a number has none, nor a text that is not wanted
  no_text : (place : ℕ) (f : LuminaireField) (kind : FieldKind) → f.kind ≡ kind → (is_text_kind kind ≡ true → is_for which place ≡ false) → text_at place f ≡ []
  no_text place f LayoutId k h = rw k
  no_text place f (Number patch r) k h = go (number_for n patch) refl
    where
      go : (o : Option ℕ) → number_for n patch ≡ o → text_at place f ≡ []
      go None w = rw (k, w)
      go (Some v) w = rw (k, w)
  no_text place f (Text t) k h = rw (k, h refl)

module _ (n : LuminaireNumbers) (text : List ℕ) where
  -- the text that is wanted has one
  own_text : (place : ℕ) (f : LuminaireField) (kind : FieldKind) → f.kind ≡ kind → is_text_kind kind ≡ true → text_at n (Some place) text place f ≡ written place f (terminated f text) ∷ []
  own_text place f LayoutId k t = absurd (true≢false (sym t))
  own_text place f (Number patch r) k t = absurd (true≢false (sym t))
  own_text place f (Text which) k t = rw (k, eq-eqb place place refl)

  text_planned : TextPlanned n text
  text_planned =
      record {
        wanted = λ place f m t.
            by_field n (Some place) text
            ∙ gather_only (text_at n (Some place) text) luminaire_fields place m (λ i h d k. no_text n (Some place) text i h h.kind refl (λ _. ne_eqb place i (λ z. d (sym z))))
            ∙ own_text place f f.kind refl t;
        other = λ which none_wanted.
            by_field n which text ∙ gather_nothing (text_at n which text) luminaire_fields (λ i h k. no_text n which text i h h.kind refl (none_wanted i h k));
      }

pub every_wanted_text_planned : EveryWantedTextPlanned
every_wanted_text_planned n text = text_planned n text
