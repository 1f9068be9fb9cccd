-- All rules that are asked of a mapping, in order.
use Rattle.std.specs.Prelude.{◌≡◌, ℕ, ◌+◌, Bool, true, false, if◌then◌else◌, List, [], ◌∷◌, ◌++◌, codes, map, length, Ok, Err}
use Rattle.std.specs.List.{list_any}
use Rattle.map_types.specs.Trees.{Members}
use Rattle.map_links.specs.declared.ids.Ids.{Ids}
use Rattle.map_links.specs.Links.{linked_of, ids_of, nodes_of}
use Rattle.map_rules.specs.declared.rule.Rule.{Rule}
use Rattle.map_rules.specs.declared.tables.Tables.{Tables}
use Rattle.map_rules.specs.Verdicts.{Refusal, Verdict, path_of}
use Rattle.map_rules.specs.Rules.{tables_of, code_set_rules, field_rules, component_rules, group_rules, message_rules}

-- a rule of a member, and whether it is broken
pub record Question : Type 0 where
  pub refusal : Refusal
  pub broken : Bool

-- The rule is broken.
abbrev pub is_broken : Question → Bool
is_broken q = q.broken

-- A rule for the member with an index in a list.
abbrev pub question : List ℕ → ℕ → Rule → Question
question list i r = record { refusal = record { code = r.code; path = path_of list i }; broken = r.broken }

-- the rules for each member of a list, from index i on
abbrev pub list_questions : {A : Type 0} → List ℕ → (ℕ → A → List Rule) → ℕ → List A → List Question
list_questions list rules i [] = []
list_questions list rules i (x ∷ xs) = map (question list i) (rules i x) ++ list_questions list rules (i + 1) xs

-- the rules for all members, by tables of their names and ids
abbrev pub questions_by : Tables → Ids → Members → List Question
questions_by tables ids m =
    list_questions (codes "codeSets") (code_set_rules tables) 0 m.code_sets
    ++ (list_questions (codes "fields") (field_rules ids tables m.fields) 0 m.fields
    ++ (list_questions (codes "components") (component_rules (length m.components) ids (nodes_of (length m.components) ids (linked_of m))) 0 m.components
    ++ (list_questions (codes "groups") (group_rules (length m.components) ids (nodes_of (length m.components) ids (linked_of m))) 0 m.groups
    ++ list_questions (codes "messages") (message_rules (length m.components) ids (nodes_of (length m.components) ids (linked_of m))) 0 m.messages)))

-- all rules that are asked of a mapping: code sets, fields, components, groups, messages; member by member; rule by
-- rule
abbrev pub questions : Members → List Question
questions m = questions_by (tables_of m.datatypes m.code_sets m.fields) (ids_of m.fields (linked_of m)) m

-- The first refusal, of the first rule that is broken.
abbrev pub first_refusal : List Question → Verdict
first_refusal [] = Ok tt
first_refusal (q ∷ qs) = if q.broken then Err q.refusal else first_refusal qs

-- the refusal is of a rule that is broken, before which none is broken
pub record IsFirst (qs : List Question) (refusal : Refusal) : Type 0 where
  pub before : List Question
  pub here : Question
  pub after : List Question
  pub all : qs ≡ before ++ here ∷ after
  pub kept : list_any is_broken before ≡ false
  pub broken : here.broken ≡ true
  pub told : here.refusal ≡ refusal
