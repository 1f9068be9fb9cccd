-- Judgements that found no rule broken, taken apart.
use Rattle.std.proofs.Common.{◌≡◌, ℕ, Bool, true, false, List, [], ◌∷◌, Option, refl, ap, sym}
use mathlib.Core.Former.{Count}
use Rattle.std.specs.Prelude.{Ok, Err, ⊤, codes, if◌then◌else◌, ◌||◌, ◌&&◌, not}
use Rattle.std.specs.List.{AllByRecursion}
use Rattle.sbe_types.specs.declared.tree.FieldEl.{FieldEl}
use Rattle.sbe_types.specs.declared.tree.DataEl.{DataEl}
use Rattle.sbe_types.specs.declared.tree.PartItem.{PartItem, Row_of-PartItem, end_of-PartItem, more_of-PartItem, items-the_row-PartItem}
use Rattle.sbe_types.specs.declared.tree.PartItem as part
use Rattle.schema_rules.specs.declared.codes.CCode.{CCode}
use Rattle.schema_rules.specs.declared.codes.CCode.TheVariants as rule
use Rattle.schema_rules.specs.declared.codes.PartClass.TheVariants as class
use Rattle.schema_rules.specs.declared.levels.PartHead.{PartHead}
use Rattle.schema_rules.specs.Judging.{CheckResult, ◌>>=◌, Rules, first_of, refuse, at_element}
use Rattle.schema_rules.specs.Names.{type_named}
use Rattle.schema_rules.specs.Kinds.{members_named}
use Rattle.schema_rules.specs.PartRules.{Scope, PartsBefore, no_part, with_part, part_name, entries_level, part_rules, field_rules, field_head, field_check, has_bad_presence, data_rules, data_check, dimension_rules, group_rules, level_check, part_check, parts_check}

-- ---- steps

-- no rule is broken
abbrev pub Kept : Rules → Type 0
Kept rs = AllByRecursion (λ r. r.1 ≡ false) rs

-- two judgements, of which the second takes what the first found
pub record Steps {A B : Type 0} (j : CheckResult A) (f : A → CheckResult B) (b : B) : Type 0 where
  pub found : A
  pub first : j ≡ Ok found
  pub next : f found ≡ Ok b

-- such judgements, where both found nothing broken
pub steps : {A B : Type 0} (j : CheckResult A) (f : A → CheckResult B) (b : B) → (j >>= f) ≡ Ok b → Steps j f b
steps (Ok x) f b h = record { found = x; first = refl; next = h }
steps (Err e) f b h = cc

-- two judgements, one after another
pub both : {B : Type 0} (j : CheckResult (Unit {0})) (k : CheckResult B) (b : B) → (j >>= (λ _. k)) ≡ Ok b → (j ≡ Ok tt) × (k ≡ Ok b)
both (Ok x) k b h = (refl, h)
both (Err e) k b h = cc

-- a judgement after a name found the same
pub behind_ok : {A : Type 0} (front name : List ℕ) (j : CheckResult A) (x : A) → at_element front name j ≡ Ok x → j ≡ Ok x
behind_ok front name (Ok y) x h = h
behind_ok front name (Err e) x h = cc

one_kept : (b : Bool) (code : CCode) (rest : CheckResult (Unit {0})) → (if b then refuse code else rest) ≡ Ok tt → (b ≡ false) × (rest ≡ Ok tt)
one_kept true code rest h = cc
one_kept false code rest h = (refl, h)

-- where none is told, none is broken
pub rules_kept : (rs : Rules) → first_of rs ≡ Ok tt → Kept rs
rules_kept [] h = tt
rules_kept (r ∷ rs) h = let two = one_kept r.1 r.0 (first_of rs) h in (two.0, rules_kept rs two.1)

-- ---- tests

-- of two tests neither holds
pub neither : (a b : Bool) → (a || b) ≡ false → (a ≡ false) × (b ≡ false)
neither true b h = cc
neither false b h = (refl, h)

-- what is not refused holds
pub not_false : (b : Bool) → not b ≡ false → b ≡ true
not_false true h = refl
not_false false h = cc

-- both tests hold
pub all_true : (a b : Bool) → (a && b) ≡ true → (a ≡ true) × (b ≡ true)
all_true true b h = (refl, h)
all_true false b h = cc

-- ---- the parts of a level

-- the scope of the entries of a group
abbrev pub entries_scope : Scope → ℕ → Scope
entries_scope scope own = record { types = scope.types; level = entries_level scope.level own }

-- what the rules on every part ask of one
abbrev pub head_of : Scope → PartItem → PartHead
head_of scope (part.Field f) = field_head scope f
head_of scope (part.Group' name id dimension since length n row) = record { class = class.Group; since = since; is_fixed = false }
head_of scope (part.Data d) = record { class = class.Data; since = d.since_version; is_fixed = false }

-- the rules on a group and on its parts
pub record EntriesKept (scope : Scope) (dimension : List ℕ) (since : ℕ) (stated : Option ℕ) (n : Count) (row : Row_of-PartItem n) : Type 0 where
  pub members : Kept (dimension_rules scope.types dimension)
  pub found : PartsBefore
  pub parts : level_check (entries_scope scope since) no_part row ≡ Ok found
  pub group : Kept (group_rules scope.level.around (members_named scope.types dimension) stated found.all)

-- the rules on one class of parts
abbrev pub OwnKept : Scope → PartsBefore → PartItem → Type 0
OwnKept scope before (part.Field f) =
    Kept (field_rules scope.types before.all.reached f) × (has_bad_presence scope.types f (type_named scope.types f.type_name) ≡ false)
OwnKept scope before (part.Group' name id dimension since length n row) = EntriesKept scope dimension since length _ row
OwnKept scope before (part.Data d) = Kept (data_rules scope.types d)

-- the rules on a part
pub record PartKept (scope : Scope) (before : PartsBefore) (p : PartItem) : Type 0 where
  pub head : Kept (part_rules scope.level before (part_name p) (head_of scope p))
  pub own : OwnKept scope before p

field_kept : (scope : Scope) (before : PartsBefore) (f : FieldEl) → field_check scope before f ≡ Ok tt → PartKept scope before (part.Field f)
field_kept scope before f h =
    let last : CheckResult (Unit {0}) = first_of ((rule.Presence, has_bad_presence scope.types f (type_named scope.types f.type_name)) ∷ []) in
    let middle : CheckResult (Unit {0}) = first_of (part_rules scope.level before f.name (field_head scope f)) in
    let a = both (first_of (field_rules scope.types before.all.reached f)) (middle >>= (λ _. last)) tt h in
    let b = both middle last tt a.1 in
    let presence = rules_kept ((rule.Presence, has_bad_presence scope.types f (type_named scope.types f.type_name)) ∷ []) b.1 in
    record {
      head = rules_kept (part_rules scope.level before f.name (field_head scope f)) b.0;
      own = (rules_kept (field_rules scope.types before.all.reached f) a.0, presence.0);
    }

data_kept : (scope : Scope) (before : PartsBefore) (d : DataEl) → data_check scope before d ≡ Ok tt → PartKept scope before (part.Data d)
data_kept scope before d h =
    let rules : Rules = part_rules scope.level before d.name (head_of scope (part.Data d)) in
    let a = both (first_of (data_rules scope.types d)) (first_of rules) tt h in
    record { head = rules_kept rules a.1; own = rules_kept (data_rules scope.types d) a.0 }

-- a part that was judged
pub part_kept : (scope : Scope) (before : PartsBefore) (p : PartItem) → part_check scope before p ≡ Ok tt → PartKept scope before p
part_kept scope before (part.Field f) h = field_kept scope before f h
part_kept scope before (part.Data d) h = data_kept scope before d h
part_kept scope before (part.Group' name id dimension since length n row) h =
    let rules : Rules = part_rules scope.level before name (head_of scope (part.Group' name id dimension since length n row)) in
    let last : PartsBefore → CheckResult (Unit {0}) = λ parts. first_of (group_rules scope.level.around (members_named scope.types dimension) length parts.all) in
    let inner : CheckResult PartsBefore = level_check (entries_scope scope since) no_part row in
    let a = both (first_of (dimension_rules scope.types dimension)) (first_of rules >>= (λ _. inner >>= last)) tt h in
    let b = both (first_of rules) (inner >>= last) tt a.1 in
    let c = steps inner last tt b.1 in
    record {
      head = rules_kept rules b.0;
      own = record {
        members = rules_kept (dimension_rules scope.types dimension) a.0;
        found = c.found;
        parts = c.first;
        group = rules_kept (group_rules scope.level.around (members_named scope.types dimension) length c.found.all) c.next;
      };
    }

-- each part with what stands before it
abbrev pub EachKept : Scope → PartsBefore → List PartItem → Type 0
EachKept scope before [] = ⊤
EachKept scope before (p ∷ ps) = PartKept scope before p × EachKept scope (with_part scope before p) ps

-- what is told of the parts before and these
abbrev pub parts_after : Scope → PartsBefore → List PartItem → PartsBefore
parts_after scope before [] = before
parts_after scope before (p ∷ ps) = parts_after scope (with_part scope before p) ps

-- parts of which each keeps the rules
pub record PartsKept (scope : Scope) (before : PartsBefore) (ps : List PartItem) (after : PartsBefore) : Type 0 where
  pub each : EachKept scope before ps
  pub told : after ≡ parts_after scope before ps

-- the first of some parts, and the rest
pub first_part : {A : Type 0} (name : List ℕ) (j : CheckResult (Unit {0})) (rest : CheckResult A) (x : A) → (at_element (codes ".") name j >>= (λ _. rest)) ≡ Ok x → (j ≡ Ok tt) × (rest ≡ Ok x)
first_part name j rest x h = let two = both (at_element (codes ".") name j) rest x h in (behind_ok (codes ".") name j tt two.0, two.1)

-- parts that were judged
pub parts_kept : (scope : Scope) (before : PartsBefore) (ps : List PartItem) (after : PartsBefore) → parts_check scope before ps ≡ Ok after → PartsKept scope before ps after
parts_kept scope before [] after h =
    let same : before ≡ after = cc in
    record { each = tt; told = sym same }
parts_kept scope before (p ∷ ps) after h =
    let two = first_part (part_name p) (part_check scope before p) (parts_check scope (with_part scope before p) ps) after h in
    let rest = parts_kept scope (with_part scope before p) ps after two.1 in
    record { each = (part_kept scope before p two.0, rest.each); told = rest.told }

-- the same over a row
pub row_list : (scope : Scope) (before : PartsBefore) (n : _) (row : Row_of-PartItem n) →
    level_check scope before row ≡ parts_check scope before (items-the_row-PartItem n row)
row_list scope before n end_of-PartItem = refl
row_list scope before n (more_of-PartItem p rest) =
    ap (λ (r : CheckResult PartsBefore). at_element (codes ".") (part_name p) (part_check scope before p) >>= (λ _. r))
    (row_list scope (with_part scope before p) _ rest)
