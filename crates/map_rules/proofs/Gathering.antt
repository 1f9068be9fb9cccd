-- What is judged of gathered members is judged of the repository's.
use Rattle.std.proofs.Common.{◌≡◌, List, flat_map, subst, Bor}
use Rattle.std.specs.Prelude.{Result}
use Rattle.map_types.specs.declared.codes.MapErr.{MapErr}
use Rattle.map_types.specs.declared.tree.RepositoryItem.{RepositoryItem}
use Rattle.map_types.specs.declared.tree.CodeSetEl.{CodeSetEl}
use Rattle.map_types.specs.declared.tree.FieldEl.{FieldEl}
use Rattle.map_types.specs.declared.tree.ComponentEl.{ComponentEl}
use Rattle.map_types.specs.declared.tree.GroupEl.{GroupEl}
use Rattle.map_types.specs.declared.tree.MessageEl.{MessageEl}
use Rattle.map_types.specs.Trees.{code_sets_of, fields_of, components_of, groups_of, messages_of}
use Rattle.map_members.specs.Lent.{lent_members}
use Rattle.map_links.specs.Links.{Linked, linked}
use Rattle.map_rules.specs.declared.tables.Tables.{Tables}
use Rattle.map_rules.specs.Verdicts.{Answers}
use Rattle.map_rules.specs.Rules.{fields_verdict, items_linked, lists_verdict}

module _ (items : List RepositoryItem) (r : Result (Unit {0}) MapErr) where
  pub of_items : (tables : Tables) (fields : List FieldEl) (cs : List (Bor ComponentEl)) (gs : List (Bor GroupEl)) (ms : List (Bor MessageEl)) →
      lent_members cs ≡ flat_map components_of items → lent_members gs ≡ flat_map groups_of items → lent_members ms ≡ flat_map messages_of items →
      Answers r (fields_verdict tables fields (linked cs gs ms)) → Answers r (fields_verdict tables fields (items_linked items))
  of_items tables fields cs gs ms c g m h =
      let all : linked cs gs ms ≡ items_linked items = λ j. record { components = c j; groups = g j; messages = m j } in
      subst (λ (l : Linked). Answers r (fields_verdict tables fields l)) all h

  pub of_lists : (sets : List (Bor CodeSetEl)) (fields : List (Bor FieldEl)) → lent_members sets ≡ flat_map code_sets_of items → lent_members fields ≡ flat_map fields_of items →
      Answers r (lists_verdict items (lent_members sets) (lent_members fields)) → Answers r (lists_verdict items (flat_map code_sets_of items) (flat_map fields_of items))
  of_lists sets fields s f h =
      subst (λ (xs : List CodeSetEl). Answers r (lists_verdict items xs (flat_map fields_of items))) s
      (subst (λ (xs : List FieldEl). Answers r (lists_verdict items (lent_members sets) xs)) f h)
