-- The tables of members that are lent.
use Rattle.std.proofs.Common.{◌≡◌, ℕ, zero, suc, List, [], ◌∷◌, None, map, refl, sym, ap, ◌∙◌, Bor}
use Rattle.std.specs.Prelude.{slice_get}
use Rattle.map_types.specs.declared.tree.DatatypeEl.{DatatypeEl}
use Rattle.map_types.specs.declared.tree.CodeSetEl.{CodeSetEl}
use Rattle.map_types.specs.declared.tree.FieldEl.{FieldEl}
use Rattle.map_types.specs.declared.tree.ComponentEl.{ComponentEl}
use Rattle.map_types.specs.declared.tree.GroupEl.{GroupEl}
use Rattle.map_types.specs.declared.tree.MessageEl.{MessageEl}
use Rattle.map_members.specs.Lent.{lent_members}
use Rattle.map_members.proofs.Lent.{map_seen}
use Rattle.map_links.specs.declared.ids.Ids.{Ids}
use Rattle.map_links.specs.Links.{linked, ids_of}
use Rattle.map_rules.specs.declared.tables.Tables.{Tables}
use Rattle.map_rules.specs.Rules.{length_or_zero, tables_of}

pub seen_past : {A : Type 0} (xs : List (Bor A)) (i : ℕ) → slice_get xs i ≡ None → slice_get (lent_members xs) i ≡ None
seen_past [] i h = refl
seen_past (x ∷ xs) zero h = cc
seen_past (x ∷ xs) (suc i) h = seen_past xs i h

module _ (tables : Tables) (ds : List DatatypeEl) (ss : List (Bor CodeSetEl)) (fs : List (Bor FieldEl)) (is : tables ≡ tables_of ds (lent_members ss) (lent_members fs)) where
  pub set_names : tables.code_sets ≡ map (λ (s : Bor CodeSetEl). s.now.name) ss
  set_names = ap (λ (t : Tables). t.code_sets) is ∙ sym (map_seen (λ (s : CodeSetEl). s.name) ss)

  pub field_lengths : tables.lengths ≡ map (λ (f : Bor FieldEl). length_or_zero f.now.length_id) fs
  field_lengths = ap (λ (t : Tables). t.lengths) is ∙ sym (map_seen (λ (f : FieldEl). length_or_zero f.length_id) fs)

module _ (ids : Ids) (fs : List (Bor FieldEl)) (cs : List (Bor ComponentEl)) (gs : List (Bor GroupEl)) (ms : List (Bor MessageEl)) (is : ids ≡ ids_of (lent_members fs) (linked cs gs ms)) where
  pub field_ids : ids.fields ≡ map (λ (f : Bor FieldEl). f.now.id) fs
  field_ids = ap (λ (i : Ids). i.fields) is ∙ sym (map_seen (λ (f : FieldEl). f.id) fs)

  pub component_ids : ids.components ≡ map (λ (c : Bor ComponentEl). c.now.id) cs
  component_ids = ap (λ (i : Ids). i.components) is ∙ sym (map_seen (λ (c : ComponentEl). c.id) cs)

  pub group_ids : ids.groups ≡ map (λ (g : Bor GroupEl). g.now.id) gs
  group_ids = ap (λ (i : Ids). i.groups) is ∙ sym (map_seen (λ (g : GroupEl). g.id) gs)

  pub message_types : ids.msg_types ≡ map (λ (m : Bor MessageEl). m.now.msg_type) ms
  message_types = ap (λ (i : Ids). i.msg_types) is ∙ sym (map_seen (λ (m : MessageEl). m.msg_type) ms)
