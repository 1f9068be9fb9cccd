-- The state after a beginning, and the room for the writers of a group.
use Rattle.std.proofs.Common.{◌≡◌, ◌≤◌, ◌<◌, ℕ, ◌+◌, ◌*◌, false, [], ◌∷◌, length, drop, refl, sym, ap, ◌∙◌, subst, arith}
use Rattle.std.specs.Prelude.{slice_get}
use Rattle.std.specs.Option.{option_map}
use Rattle.std.proofs.lemmas.List.{length-replicate}
use Rattle.sbe_types.specs.declared.schema.Group.{Group, out-Group}
use Rattle.sbe_types.specs.declared.schema.WireSchema.{WireSchema}
use Rattle.schema_facts.specs.IsChecked.{IsChecked}
use Rattle.schema_facts.specs.Levels.{all_nodes, level_at, fields_at, groups_at, root_of}
use Rattle.typed_writer.specs.declared.stack.TheConstants.{OPEN_LIMIT}
use Rattle.typed_writer.specs.declared.stack.Frame.TheVariants.{Fields}
use Rattle.typed_writer.specs.Held.{Held}
use Rattle.typed_writer.specs.States.{SetsFields, level_of, block_at, deep_at}
use Rattle.typed_writer.specs.Steps.{none_set}
use Rattle.typed_writer.proofs.Checked.{child_shallow, level_shallow}
use Rattle.typed_writer.proofs.Holding.{root_within}

pub root_ready : (schema : WireSchema) (t n : ℕ) (held : Held) → IsChecked schema → t < length schema.messages → n ≡ root_of schema t → held.frames ≡ Fields n ∷ [] →
    held.at + block_at schema n ≤ length held.bytes → held.set ≡ none_set schema n → SetsFields schema held
root_ready schema t n held checked low is frames block set =
    let here : n < length (all_nodes schema) = subst (λ k. k < length (all_nodes schema)) (sym is) (root_within schema t low) in
    let shallow = level_shallow schema n checked here in
    let level : level_of held.frames ≡ n = ap level_of frames in
    record {
      frames = subst (λ fs. fs ≡ Fields (level_of fs) ∷ drop 1 fs) (sym frames) refl;
      level = subst (λ k. k < length (all_nodes schema)) (sym level) here;
      below = subst (λ fs. length fs + 2 * deep_at schema (level_of fs) ≤ OPEN_LIMIT) (sym frames) (omega (arith, shallow));
      block = subst (λ k. held.at + block_at schema k ≤ length held.bytes) (sym level) block;
      marks = ap length set ∙ length-replicate (length (fields_at schema n)) false ∙ ap (λ k. length (fields_at schema k)) (sym level);
    }

-- a group has room for its two writers
pub group_room : (schema : WireSchema) (n child i deep : ℕ) → n < length (all_nodes schema) → i < length (groups_at schema n) →
    level_at schema child ≡ option_map (λ (g : Group). (out-Group g).level) (slice_get (groups_at schema n) i) → deep + 2 * deep_at schema n ≤ OPEN_LIMIT → deep < OPEN_LIMIT
group_room schema n child i deep low within is room = let less = child_shallow schema n child i low within is in omega (arith, less, room)
