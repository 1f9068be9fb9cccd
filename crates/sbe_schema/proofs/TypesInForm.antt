-- What the types that are read are like.
use Rattle.std.proofs.Common.{◌≡◌, ℕ, suc, ◌+◌, ◌≤◌, List, [], ◌∷◌, length, refl, ap, sym, subst, ◌∙◌, arith}
use Rattle.std.specs.Prelude.{Ok, Err, None, codes, decimal}
use Rattle.std.specs.List.{AllByRecursion}
use Rattle.std.specs.Ordering.{nat_cmp, match_ordering}
use Rattle.std.specs.Cmp.Lexicographic.{slice_cmp}
use Rattle.std.specs.declared.cmp.Ordering.{Ordering}
use Rattle.std.specs.declared.cmp.Ordering.TheVariants.{Less, Equal, Greater}
use Rattle.serde_json.specs.Data.{Data, null, boolean, number, string, array, object, Items, no_items, item as one, Members, no_members, member}
use Rattle.json_elements.specs.declared.refusal.Cause.TheVariants.{Shape}
use Rattle.json_elements.specs.Reading.{Reading, refusal, ◌>>=◌, inside, at_child}
use Rattle.json_elements.specs.Forms.{whole, text, text_or_number}
use Rattle.json_elements.specs.Attributes.{needed, with_default, optional}
use Rattle.json_elements.specs.Elements.{items_count, at_most, each, content, no_children, local_name, tree, branches, branches_among, branches_listed, branches_from}
use Rattle.json_elements.proofs.Trees.{By, branches_each}
use Rattle.sbe_types.specs.declared.limits.TheConstants.{LENGTH_LIMIT, MEMBER_LIMIT, VALUE_LIMIT}
use Rattle.sbe_types.specs.declared.tree.ValidValueEl.{ValidValueEl}
use Rattle.sbe_types.specs.declared.tree.ChoiceEl.{ChoiceEl}
use mathlib.Core.Former.{Count}
use Rattle.sbe_types.specs.declared.tree.MemberItem.{MemberItem, Row_of-MemberItem, end_of-MemberItem, more_of-MemberItem, items-the_row-MemberItem, items_hidden-the_row-MemberItem-0}
use Rattle.sbe_types.specs.declared.tree.MemberItem as item
use Rattle.sbe_types.specs.declared.tree.CompositeEl.{CompositeEl}
use Rattle.sbe_types.specs.InForm.{IsName, IsWithin, IsTypeInForm, IsEnumInForm, IsSetInForm, IsRefInForm, count_members, IsMemberInForm, AreMembersInForm, IsCompositeInForm}
use Rattle.sbe_schema.specs.declared.element_name.ElementName.{ElementName}
use Rattle.sbe_schema.specs.declared.element_name.ElementName.TheVariants as element
use Rattle.sbe_schema.specs.declared.types.Standing.{Standing}
use Rattle.sbe_schema.specs.declared.types.Standing.TheVariants.{Declared, Member}
use Rattle.sbe_schema.specs.Forms.{a_name, a_value_ref, a_primitive, a_presence, a_length, element_of}
use Rattle.sbe_schema.specs.Types.{offset_from, since_from, type_from, ref_from, valid_value_from, enum_child, valid_value, enum_from, choice_from, set_child, choice, set_from, composite_from, composite_child, by_member}
use Rattle.json_elements.proofs.Yields.{Yields, ok_yields, err_yields, then_yields, inside_yields, needed_yields, default_yields, each_yields, each_count, at_most_yields, named_yields}
use Rattle.sbe_schema.proofs.InForm.{name_yields, length_yields, within_yields}

offset_yields : (standing : Standing) (d : Data) → Yields IsWithin (offset_from standing d)
offset_yields Declared d = ok_yields IsWithin None tt
offset_yields Member d = within_yields (codes "offset") d

pub type_yields : (standing : Standing) (d : Data) → Yields IsTypeInForm (type_from standing d)
type_yields standing d =
    then_yields IsTypeInForm (content d) _ (λ children _.
    then_yields IsTypeInForm (needed a_name (codes "name") d) _ (λ name is_named.
    then_yields IsTypeInForm (needed a_primitive (codes "primitiveType") d) _ (λ primitive _.
    then_yields IsTypeInForm (with_default 1 a_length (codes "length") d) _ (λ its_length is_long.
    then_yields IsTypeInForm (optional a_presence (codes "presence") d) _ (λ presence _.
    then_yields IsTypeInForm (optional whole (codes "nullValue") d) _ (λ null_value _.
    then_yields IsTypeInForm (optional whole (codes "minValue") d) _ (λ min_value _.
    then_yields IsTypeInForm (optional whole (codes "maxValue") d) _ (λ max_value _.
    then_yields IsTypeInForm (optional text (codes "characterEncoding") d) _ (λ encoding _.
    then_yields IsTypeInForm (optional a_value_ref (codes "valueRef") d) _ (λ ref _.
    then_yields IsTypeInForm (optional text_or_number (codes "text") d) _ (λ its_text _.
    then_yields IsTypeInForm (offset_from standing d) _ (λ offset is_placed.
    then_yields IsTypeInForm (since_from standing d) _ (λ since _.
    then_yields IsTypeInForm (no_children children) _ (λ _ _.
    ok_yields IsTypeInForm _ (record {
      name = needed_yields IsName a_name (codes "name") d name_yields name is_named;
      primitives = default_yields (λ k. k ≤ LENGTH_LIMIT) 1 a_length (codes "length") d (omega arith) length_yields its_length is_long;
      place = offset_yields standing d offset is_placed;
    })))))))))))))))

ref_yields : (d : Data) → Yields IsRefInForm (ref_from d)
ref_yields d =
    then_yields IsRefInForm (content d) _ (λ children _.
    then_yields IsRefInForm (needed a_name (codes "name") d) _ (λ name is_named.
    then_yields IsRefInForm (needed a_name (codes "type") d) _ (λ type_name _.
    then_yields IsRefInForm (offset_from Member d) _ (λ offset is_placed.
    then_yields IsRefInForm (since_from Member d) _ (λ since _.
    then_yields IsRefInForm (no_children children) _ (λ _ _.
    ok_yields IsRefInForm _ (record {
      name = needed_yields IsName a_name (codes "name") d name_yields name is_named;
      place = offset_yields Member d offset is_placed;
    })))))))

-- ---- enums and sets

abbrev HasName : ValidValueEl → Type 0
HasName v = IsName v.name

abbrev HasChoiceName : ChoiceEl → Type 0
HasChoiceName c = IsName c.name

valid_value_from_yields : (d : Data) → Yields HasName (valid_value_from d)
valid_value_from_yields d =
    then_yields HasName (content d) _ (λ children _.
    then_yields HasName (needed a_name (codes "name") d) _ (λ name is_named.
    then_yields HasName (needed text_or_number (codes "text") d) _ (λ its_text _.
    then_yields HasName (no_children children) _ (λ _ _.
    ok_yields HasName _ (needed_yields IsName a_name (codes "name") d name_yields name is_named)))))

enum_child_yields : (name : ElementName) (d : Data) → Yields HasName (enum_child name d)
enum_child_yields element.ValidValue d = inside_yields HasName (codes "validValue") (valid_value_from d) (valid_value_from_yields d)
enum_child_yields _ d = err_yields HasName (refusal Shape [])

value_yields : (d : Data) → Yields HasName (valid_value d)
value_yields d = named_yields HasName (λ name. enum_child (element_of name)) d (λ name inner. enum_child_yields (element_of name) inner)

pub enum_yields : (standing : Standing) (d : Data) → Yields IsEnumInForm (enum_from standing d)
enum_yields standing d =
    then_yields IsEnumInForm (content d) _ (λ children _.
    then_yields IsEnumInForm (needed a_name (codes "name") d) _ (λ name is_named.
    then_yields IsEnumInForm (needed a_name (codes "encodingType") d) _ (λ encoding _.
    then_yields IsEnumInForm (offset_from standing d) _ (λ offset is_placed.
    then_yields IsEnumInForm (since_from standing d) _ (λ since _.
    then_yields IsEnumInForm (at_most VALUE_LIMIT (items_count children)) _ (λ u fits.
    then_yields IsEnumInForm (each valid_value 0 children) _ (λ values are_read.
    ok_yields IsEnumInForm _ (record {
      name = needed_yields IsName a_name (codes "name") d name_yields name is_named;
      count = subst (λ n. n ≤ VALUE_LIMIT) (sym (each_count valid_value 0 children values are_read)) (at_most_yields VALUE_LIMIT (items_count children) u fits);
      values = each_yields HasName valid_value 0 children value_yields values are_read;
      place = offset_yields standing d offset is_placed;
    }))))))))

choice_from_yields : (d : Data) → Yields HasChoiceName (choice_from d)
choice_from_yields d =
    then_yields HasChoiceName (content d) _ (λ children _.
    then_yields HasChoiceName (needed a_name (codes "name") d) _ (λ name is_named.
    then_yields HasChoiceName (needed text_or_number (codes "text") d) _ (λ its_text _.
    then_yields HasChoiceName (no_children children) _ (λ _ _.
    ok_yields HasChoiceName _ (needed_yields IsName a_name (codes "name") d name_yields name is_named)))))

set_child_yields : (name : ElementName) (d : Data) → Yields HasChoiceName (set_child name d)
set_child_yields element.Choice d = inside_yields HasChoiceName (codes "choice") (choice_from d) (choice_from_yields d)
set_child_yields _ d = err_yields HasChoiceName (refusal Shape [])

choice_yields : (d : Data) → Yields HasChoiceName (choice d)
choice_yields d = named_yields HasChoiceName (λ name. set_child (element_of name)) d (λ name inner. set_child_yields (element_of name) inner)

pub set_yields : (standing : Standing) (d : Data) → Yields IsSetInForm (set_from standing d)
set_yields standing d =
    then_yields IsSetInForm (content d) _ (λ children _.
    then_yields IsSetInForm (needed a_name (codes "name") d) _ (λ name is_named.
    then_yields IsSetInForm (needed a_name (codes "encodingType") d) _ (λ encoding _.
    then_yields IsSetInForm (offset_from standing d) _ (λ offset is_placed.
    then_yields IsSetInForm (since_from standing d) _ (λ since _.
    then_yields IsSetInForm (each choice 0 children) _ (λ choices are_read.
    ok_yields IsSetInForm _ (record {
      name = needed_yields IsName a_name (codes "name") d name_yields name is_named;
      choices = each_yields HasChoiceName choice 0 children choice_yields choices are_read;
      place = offset_yields standing d offset is_placed;
    })))))))

-- ---- elements inside elements of the same kind

-- what is read of an element is so, where what is read of its children is so and they are as many as there are
abbrev pub Keeps : {A : Type 0} → (A → Type 0) → By A → Type 0
Keeps {A} P by = (name : List ℕ) (d : Data) (read : Reading (List A)) → Yields (AllByRecursion P) read
    → ((ds : Items) → content d ≡ Ok ds → Yields (λ xs. length xs ≡ items_count ds) read) → Yields P (by name d read)

pub branches_count : {A : Type 0} (by : By A) (d : Data) (ds : Items) → content d ≡ Ok ds → Yields (λ xs. length xs ≡ items_count ds) (branches by d)
branches_count by d ds h = subst (Yields (λ xs. length xs ≡ items_count ds)) (sym (branches_each by d ds h)) (each_count (tree by) 0 ds)

one_of : {A : Type 0} (P : A → Type 0) (o : Ordering) (x y z : Reading A) → Yields P x → Yields P y → Yields P z → Yields P (match_ordering o x y z)
one_of P Less x y z h k l = h
one_of P Equal x y z h k l = k
one_of P Greater x y z h k l = l

mutual
  pub tree_yields : {A : Type 0} (P : A → Type 0) (by : By A) → Keeps P by → (d : Data) → Yields P (tree by d)
  tree_yields P by keeps null = err_yields P (refusal Shape [])
  tree_yields P by keeps (boolean b) = err_yields P (refusal Shape [])
  tree_yields P by keeps (number n) = err_yields P (refusal Shape [])
  tree_yields P by keeps (string s) = err_yields P (refusal Shape [])
  tree_yields P by keeps (array ds) = err_yields P (refusal Shape [])
  tree_yields P by keeps (object no_members) = err_yields P (refusal Shape [])
  tree_yields P by keeps (object (member key d no_members)) = keeps (local_name key) d (branches by d) (branches_yields P by keeps d) (branches_count by d)
  tree_yields P by keeps (object (member key d (member l e ms))) = err_yields P (refusal Shape [])

  pub branches_yields : {A : Type 0} (P : A → Type 0) (by : By A) → Keeps P by → (d : Data) → Yields (AllByRecursion P) (branches by d)
  branches_yields P by keeps null = ok_yields (AllByRecursion P) [] tt
  branches_yields P by keeps (boolean b) = ok_yields (AllByRecursion P) [] tt
  branches_yields P by keeps (number n) = ok_yields (AllByRecursion P) [] tt
  branches_yields P by keeps (string s) = ok_yields (AllByRecursion P) [] tt
  branches_yields P by keeps (array ds) = ok_yields (AllByRecursion P) [] tt
  branches_yields P by keeps (object ms) = among_yields P by keeps ms

  among_yields : {A : Type 0} (P : A → Type 0) (by : By A) → Keeps P by → (ms : Members) → Yields (AllByRecursion P) (branches_among by ms)
  among_yields P by keeps no_members = ok_yields (AllByRecursion P) [] tt
  among_yields P by keeps (member key d ms) =
      one_of (AllByRecursion P) (slice_cmp nat_cmp (codes "content") key) (branches_among by ms) (branches_listed by d) (branches_among by ms)
      (among_yields P by keeps ms) (listed_yields P by keeps d) (among_yields P by keeps ms)

  listed_yields : {A : Type 0} (P : A → Type 0) (by : By A) → Keeps P by → (d : Data) → Yields (AllByRecursion P) (branches_listed by d)
  listed_yields P by keeps null = ok_yields (AllByRecursion P) [] tt
  listed_yields P by keeps (boolean b) = ok_yields (AllByRecursion P) [] tt
  listed_yields P by keeps (number n) = ok_yields (AllByRecursion P) [] tt
  listed_yields P by keeps (string s) = ok_yields (AllByRecursion P) [] tt
  listed_yields P by keeps (object ms) = ok_yields (AllByRecursion P) [] tt
  listed_yields P by keeps (array ds) = from_yields P by keeps 0 ds

  from_yields : {A : Type 0} (P : A → Type 0) (by : By A) → Keeps P by → (i : ℕ) (ds : Items) → Yields (AllByRecursion P) (branches_from by i ds)
  from_yields P by keeps i no_items = ok_yields (AllByRecursion P) [] tt
  from_yields P by keeps i (one d ds) =
      then_yields (AllByRecursion P) (at_child i (tree by d)) _ (λ x at.
      then_yields (AllByRecursion P) (branches_from by (i + 1) ds) _ (λ xs rest.
      ok_yields (AllByRecursion P) (x ∷ xs) (
        inside_yields P (codes "content") (inside (decimal i) (tree by d)) (inside_yields P (decimal i) (tree by d) (tree_yields P by keeps d)) x at,
        from_yields P by keeps (i + 1) ds xs rest,
      )))

-- ---- composites

-- a composite in form, whose offset keeps its limit
abbrev pub IsInnerInForm : CompositeEl → Type 0
IsInnerInForm c = IsCompositeInForm c × IsWithin c.offset

pub composite_yields : (standing : Standing) (d : Data) (read : Reading (List MemberItem)) → Yields (AllByRecursion IsMemberInForm) read
    → ((ds : Items) → content d ≡ Ok ds → Yields (λ xs. length xs ≡ items_count ds) read) → Yields IsInnerInForm (composite_from standing d read)
composite_yields standing d read are counted =
    then_yields IsInnerInForm (content d) _ (λ children there.
    then_yields IsInnerInForm (needed a_name (codes "name") d) _ (λ name is_named.
    then_yields IsInnerInForm (offset_from standing d) _ (λ offset is_placed.
    then_yields IsInnerInForm (since_from standing d) _ (λ since _.
    then_yields IsInnerInForm (at_most MEMBER_LIMIT (items_count children)) _ (λ u fits.
    then_yields IsInnerInForm read _ (λ members is_read.
    ok_yields IsInnerInForm _ (
      record {
        name = needed_yields IsName a_name (codes "name") d name_yields name is_named;
        count = subst (λ n. n ≤ MEMBER_LIMIT) (sym (counted children there members is_read)) (at_most_yields MEMBER_LIMIT (items_count children) u fits);
        members = are members is_read;
      },
      offset_yields standing d offset is_placed,
    )))))))

abbrev row_in : MemberItem → (n : Count) × Row_of-MemberItem n
row_in (item.Composite' _ _ _ _ row) = (_, row)
row_in _ = (_, end_of-MemberItem)

row_count : (n : _) (row : Row_of-MemberItem n) → count_members row ≡ length (items-the_row-MemberItem n row)
row_count n end_of-MemberItem = refl
row_count n (more_of-MemberItem m rest) = ap suc (row_count _ rest)

row_in_form : (n : _) (row : Row_of-MemberItem n) → AllByRecursion IsMemberInForm (items-the_row-MemberItem n row) → AreMembersInForm row
row_in_form n end_of-MemberItem h = tt
row_in_form n (more_of-MemberItem m rest) h = (h.0, row_in_form _ rest h.1)

-- a composite as a member of another
member_in_form : (c : CompositeEl) → IsInnerInForm c → IsMemberInForm (item.Composite c)
member_in_form c h =
    let row = row_in (item.Composite c) in (
      h.0.name,
      h.1,
      subst (λ n. n ≤ MEMBER_LIMIT) (sym (row_count row.0 row.1 ∙ ap length (items_hidden-the_row-MemberItem-0 c.children))) h.0.count,
      row_in_form row.0 row.1 (subst (AllByRecursion IsMemberInForm) (sym (items_hidden-the_row-MemberItem-0 c.children)) h.0.members),
    )

pub made_yields : {A B : Type 0} (P : A → Type 0) (Q : B → Type 0) (r : Reading A) (make : A → B) → Yields P r → ((x : A) → P x → Q (make x)) → Yields Q (r >>= (λ x. Ok (make x)))
made_yields P Q (Ok x) make h kept = ok_yields Q (make x) (kept x (h x refl))
made_yields P Q (Err e) make h kept = err_yields Q e

child_yields : (name : ElementName) (d : Data) (read : Reading (List MemberItem)) → Yields (AllByRecursion IsMemberInForm) read
    → ((ds : Items) → content d ≡ Ok ds → Yields (λ xs. length xs ≡ items_count ds) read) → Yields IsMemberInForm (composite_child name d read)
child_yields element.Type d read are counted =
    made_yields IsTypeInForm IsMemberInForm (inside (codes "type") (type_from Member d)) item.Type (inside_yields IsTypeInForm (codes "type") (type_from Member d) (type_yields Member d)) (λ t h. h)
child_yields element.Enum d read are counted =
    made_yields IsEnumInForm IsMemberInForm (inside (codes "enum") (enum_from Member d)) item.Enum (inside_yields IsEnumInForm (codes "enum") (enum_from Member d) (enum_yields Member d)) (λ e h. h)
child_yields element.Set d read are counted =
    made_yields IsSetInForm IsMemberInForm (inside (codes "set") (set_from Member d)) item.Set (inside_yields IsSetInForm (codes "set") (set_from Member d) (set_yields Member d)) (λ s h. h)
child_yields element.Ref d read are counted =
    made_yields IsRefInForm IsMemberInForm (inside (codes "ref") (ref_from d)) item.Ref (inside_yields IsRefInForm (codes "ref") (ref_from d) (ref_yields d)) (λ r h. h)
child_yields element.Composite d read are counted =
    made_yields IsInnerInForm IsMemberInForm (inside (codes "composite") (composite_from Member d read)) item.Composite
    (inside_yields IsInnerInForm (codes "composite") (composite_from Member d read) (composite_yields Member d read are counted)) member_in_form
child_yields _ d read are counted = err_yields IsMemberInForm (refusal Shape [])

pub members_keep : Keeps IsMemberInForm by_member
members_keep name d read are counted = child_yields (element_of name) d read are counted
