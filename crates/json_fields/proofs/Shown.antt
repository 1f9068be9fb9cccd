-- Values by the lists of their parts.
use Rattle.std.proofs.Common.{◌≡◌, ℕ, List, [], ◌∷◌, ◌++◌, false, Option, Some, None, refl, sym, ap, ◌∙◌}
use Rattle.std.specs.Prelude.{codes, is_some, option_map}
use Rattle.serde_json.specs.Data.{object}
use Rattle.sbe_types.specs.declared.kind.Kind.{Kind, Leaf, Enum, Set, Const, Comp', items-the_row-Member, Row_of-Member, end_of-Member, more_of-Member}
use Rattle.sbe_types.specs.declared.kind.Kind.TheVariants as kinds
use Rattle.sbe_types.specs.declared.kind.Kind.{items_hidden-the_row-Member-0}
use Rattle.sbe_types.specs.declared.kind.ConstValue.{ConstValue}
use Rattle.sbe_types.specs.declared.kind.Member.{Member}
use Rattle.sbe_types.specs.declared.message.Value.{Value, items_hidden-the_row-Value-0}
use Rattle.sbe_types.specs.declared.message.Value as value
use Rattle.json_values.specs.Values.{Entry, listed, zipped, no_entries, shown_data, value_data, row_entries, member_entry, members_in, constant_of, constant_data, is_there}
use Rattle.json_values.specs.Plain.{shown_text, entries_text}
use Rattle.sbe_base.specs.Objects.{Object}
use Rattle.printers.specs.Prints.{Prints}
use Rattle.printers.specs.declared.printer.Printer.{Printer}
use Rattle.printers.proofs.Printing.{reprinted}

row_is : {n : _} (row : Row_of-Member n) (vs : List Value) → row_entries row vs ≡ zipped member_entry (items-the_row-Member _ row) vs
unfolding value_data
row_is end_of-Member vs = refl
row_is (more_of-Member name offset kind rest) [] = refl
row_is (more_of-Member name offset kind rest) (v ∷ vs) = ap (λ es. (name, value_data kind v) ∷ es) (row_is rest vs)

-- the members of a kind with such values
abbrev by_members : Kind → List Value → List Entry
by_members kind vs = zipped member_entry (members_in kind) vs

same_shown : (kind : Kind) (f g : List Value → List Entry) → ((vs : List Value) → f vs ≡ g vs) → (v : Value) → shown_data kind f v ≡ shown_data kind g v
same_shown kind f g h (value.Num n) = refl
same_shown kind f g h value.Null = refl
same_shown kind f g h (value.Text bytes) = refl
same_shown kind f g h (value.Nums es) = refl
same_shown kind f g h (value.Enum n) = refl
same_shown kind f g h (value.Set bits) = refl
same_shown kind f g h (value.Comp' n row) = ap (λ es. Some (object (listed es))) (h _)
same_shown kind f g h value.Const = refl
same_shown kind f g h value.Absent = refl

-- a value by its case, with the members of its kind as a list
shown_is : (kind : Kind) (v : Value) → shown_data kind (by_members kind) v ≡ value_data kind v
unfolding value_data
shown_is (Leaf l) v = same_shown (Leaf l) (by_members (Leaf l)) no_entries (λ vs. refl) v
shown_is (Enum l names) v = same_shown (Enum l names) (by_members (Enum l names)) no_entries (λ vs. refl) v
shown_is (Set p names) v = same_shown (Set p names) (by_members (Set p names)) no_entries (λ vs. refl) v
shown_is (Const k) v = same_shown (Const k) (by_members (Const k)) no_entries (λ vs. refl) v
shown_is (Comp' n members) v = same_shown (Comp' n members) (by_members (Comp' n members)) (row_entries members) (λ vs. sym (row_is members vs)) v

-- a composite
shows_composite : {O : Type 0} {state : O → Object (List ℕ)} {a b : Printer O} (kind : Kind) (vs : List Value) → Prints state a b (codes "{" ++ entries_text false (zipped member_entry (members_in kind) vs)) → Prints state a b (shown_text (value_data kind (value.TheVariants.Comp vs)))
shows_composite kind vs w =
    reprinted (ap (λ xs. codes "{" ++ entries_text false (by_members kind xs)) (sym (items_hidden-the_row-Value-0 vs)) ∙ ap shown_text (shown_is kind (value.TheVariants.Comp vs))) w

-- the members of a composite
pub shows_members : {O : Type 0} {state : O → Object (List ℕ)} {a b : Printer O} (ms : List Member) (vs : List Value) → Prints state a b (codes "{" ++ entries_text false (zipped member_entry ms vs)) → Prints state a b (shown_text (value_data (kinds.Comp ms) (value.TheVariants.Comp vs)))
shows_members ms vs w =
    shows_composite (kinds.Comp ms) vs (reprinted (ap (λ xs. codes "{" ++ entries_text false (zipped member_entry xs vs)) (sym (items_hidden-the_row-Member-0 ms))) w)

constant_there : (o : Option ConstValue) → is_some o ≡ is_some (option_map constant_data o)
constant_there None = refl
constant_there (Some c) = refl

there_by : (kind : Kind) (v : Value) → is_there kind v ≡ is_some (shown_data kind (by_members kind) v)
there_by kind (value.Num n) = refl
there_by kind value.Null = refl
there_by kind (value.Text bytes) = refl
there_by kind (value.Nums es) = refl
there_by kind (value.Enum n) = refl
there_by kind (value.Set bits) = refl
there_by kind (value.Comp' n row) = refl
there_by kind value.Const = constant_there (constant_of kind)
there_by kind value.Absent = refl

-- something is shown of a value that is there
pub there_is : (kind : Kind) (v : Value) → is_there kind v ≡ is_some (value_data kind v)
there_is kind v = there_by kind v ∙ ap is_some (shown_is kind v)
