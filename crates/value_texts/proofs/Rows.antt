-- Texts by the row of a plan.
use Rattle.std.proofs.Common.{◌≡◌, ℕ, true, List, Option, Some, None, ℤ, refl, sym, ap, subst, ◌∙◌}
use Rattle.std.specs.Prelude.{IfSome, slice_get}
use Rattle.std.specs.Option.{option_map}
use Rattle.sbe_types.specs.declared.kind.Leaf.{Leaf as LeafOf}
use Rattle.sbe_types.specs.declared.message.Block.{out-Block}
use Rattle.sbe_types.specs.declared.message.Value.{Value}
use Rattle.sbe_types.specs.declared.message.Value.TheVariants as value
use Rattle.sbe_types.specs.Numbers.{natural}
use Rattle.fix_values.specs.declared.rule.NumRule.{NumRule}
use Rattle.fix_values.specs.Values.{text_of}
use Rattle.tagvalue_codec.specs.Drafts.{Draft}
use Rattle.flyweight_view.specs.declared.values.FieldBytes.{FieldBytes}
use Rattle.flyweight_view.specs.ByTable.{ShowsField}
use Rattle.flyweight_view.specs.TypedBlocks.{TypedBlock}
use Rattle.bridge_rules.specs.Members.{mantissa_in, members_in, month_in, number_in, unit_in, and_then}
use Rattle.bridge_rules.specs.Texts.{floating_text, moment_text, month_text, text_if_any}
use Rattle.bridge_table.specs.declared.rule.Epoch.{Epoch}
use Rattle.bridge_table.specs.declared.rule.Unit.{Unit as UnitRow}
use Rattle.bridge_table.specs.declared.rule.Unit.TheVariants as unit
use Rattle.bridge_table.specs.Rows.{epoch_of, unit_of}
use Rattle.bridge_terms.specs.Parts.{TagLists}
use Rattle.message_walk.specs.Rows.{field_of, IsByTable, IsForField}
use Rattle.bridge_rules.specs.Rules.{Rule}
use Rattle.bridge_rules.proofs.OptionLemmas.{some_is}
use Rattle.message_walk.specs.States.{IsPut, PutResult}
use Rattle.message_walk.proofs.Nth.{nth_is}
use Rattle.value_texts.specs.declared.row.TextRule.{TextRule}
use Rattle.value_texts.specs.declared.row.TextRule.TheVariants as row
use Rattle.value_texts.specs.declared.row.ValueText.{ValueText}
use Rattle.value_texts.specs.Rows.{row_text, AsksWords, CanAsk, CanAskOf, Reads, Spells, SpellsText}
use Rattle.value_texts.specs.FieldViews.{choices_in, is_word, nth_number, unit_seen, CanReadAny, IsSeenOf}
use Rattle.value_texts.proofs.Members.{mantissa_is, second_is}

-- the number of a field may be asked of its rule
asked_of : (rule : NumRule) (found : Option FieldBytes) (i : ℕ) (seen : TypedBlock) → IfSome found (λ f. option_map (λ p. p.kind) (slice_get seen.fields i) ≡ Some f.kind.now) → CanReadAny found
    → IsSeenOf found (field_of seen i) → CanAskOf (row.Number rule) i seen → CanAsk rule (number_in (field_of seen i))
asked_of rule None i seen kind ready is asks = subst (λ v. CanAsk rule (number_in v)) (sym is) tt
asked_of rule (Some f) i seen kind ready is asks =
    asks.number f.kind.now kind ready.order (record { order = f.order; known = is.0; bytes = f.bytes.now; shown = is.1 })

-- what is read of a value is what its text is of
pub number_row : (lists : TagLists) (d : Draft) (tag : ℕ) (r : PutResult) (rule : NumRule) (found : Option FieldBytes) (i : ℕ) (seen : TypedBlock) (n : Option ℤ)
    → number_in (field_of seen i) ≡ n → IfSome found (λ f. option_map (λ p. p.kind) (slice_get seen.fields i) ≡ Some f.kind.now) → CanReadAny found
    → IsSeenOf found (field_of seen i) → CanAskOf (row.Number rule) i seen → (CanAsk rule n → IsPut lists d tag (text_if_any n (λ n. text_of rule n)) r)
    → IsPut lists d tag (row_text (row.Number rule) (field_of seen i)) r
number_row lists d tag r rule found i seen n read kind ready shown asks puts =
    subst (λ n. IsPut lists d tag (text_if_any n (λ n. text_of rule n)) r) (sym read) (puts (subst (CanAsk rule) read (asked_of rule found i seen kind ready shown asks)))

word_asked : (rule : NumRule) (n : Option ℤ) → IfSome n (λ n. is_word n ≡ true) → AsksWords (row.Choices rule) → CanAsk rule n
word_asked rule None small words = tt
word_asked rule (Some n) small words = words n small

pub choices_row : (lists : TagLists) (d : Draft) (tag : ℕ) (r : PutResult) (rule : NumRule) (v : Value) (n : Option ℤ) → choices_in v ≡ n → IfSome n (λ n. is_word n ≡ true)
    → AsksWords (row.Choices rule) → (CanAsk rule n → IsPut lists d tag (text_if_any n (λ n. text_of rule n)) r) → IsPut lists d tag (row_text (row.Choices rule) v) r
choices_row lists d tag r rule v n read small asks puts =
    subst (λ n. IsPut lists d tag (text_if_any n (λ n. text_of rule n)) r) (sym read) (puts (word_asked rule n small asks))

pub floating_row : (lists : TagLists) (d : Draft) (tag : ℕ) (r : PutResult) (v : Value) (m e : LeafOf) (vs : List Value) → members_in v ≡ vs
    → IsPut lists d tag (text_if_any (nth_number 0 vs) (λ n. floating_text m e (nth_number 1 vs) n)) r → IsPut lists d tag (row_text (row.Floating m e) v) r
floating_row lists d tag r v m e vs members put =
    subst (λ o. IsPut lists d tag (text_if_any (mantissa_in v) (λ n. floating_text m e o n)) r) (sym (second_is (members_in v) ∙ ap (nth_number 1) members))
    (subst (λ n. IsPut lists d tag (text_if_any n (λ n. floating_text m e (nth_number 1 vs) n)) r) (sym (mantissa_is v ∙ ap (nth_number 0) members)) put)

units_are : (u : UnitRow) (v : Value) → unit_in (unit_of u) v ≡ unit_seen u (members_in v)
units_are (unit.Always u) v = refl
units_are (unit.OnWire leaf) v = ap (λ o. and_then o (λ u. Some (natural u))) (second_is (members_in v))

pub moment_row : (lists : TagLists) (d : Draft) (tag : ℕ) (r : PutResult) (v : Value) (from : Epoch) (u : UnitRow) (vs : List Value) → members_in v ≡ vs
    → IsPut lists d tag (text_if_any (nth_number 0 vs) (λ n. moment_text (epoch_of from) (unit_seen u vs) n)) r → IsPut lists d tag (row_text (row.Moment from u) v) r
moment_row lists d tag r v from u vs members put =
    subst (λ o. IsPut lists d tag (text_if_any (mantissa_in v) (λ n. moment_text (epoch_of from) o n)) r) (sym (units_are u v ∙ ap (unit_seen u) members))
    (subst (λ n. IsPut lists d tag (text_if_any n (λ n. moment_text (epoch_of from) (unit_seen u vs) n)) r) (sym (mantissa_is v ∙ ap (nth_number 0) members)) put)

pub month_row : (lists : TagLists) (d : Draft) (tag : ℕ) (r : PutResult) (v : Value) (vs : List Value) → members_in v ≡ vs
    → IsPut lists d tag (text_if_any (nth_number 0 vs) (λ year. month_text (month_in vs))) r → IsPut lists d tag (row_text row.Month v) r
month_row lists d tag r v vs members put =
    subst (λ ms. IsPut lists d tag (text_if_any (mantissa_in v) (λ year. month_text (month_in ms))) r) (sym members)
    (subst (λ n. IsPut lists d tag (text_if_any n (λ year. month_text (month_in vs))) r) (sym (mantissa_is v ∙ ap (nth_number 0) members)) put)

-- what may be asked of a row whose rule is that of a field's kind
pub asks_of : (row : TextRule) (rule : Rule) (i : ℕ) (seen : TypedBlock) → SpellsText row rule → IsForField rule i seen.fields → CanAskOf row i seen
asks_of row rule i seen by near = record {
  number = λ k there order is.
      let same : near.field.kind ≡ k = some_is (sym (ap (option_map (λ f. f.kind)) near.there) ∙ there) in
      by.asked k (field_of seen i) (subst (λ k. IsByTable k rule) same near.by_table) order is;
  words = by.words;
}

-- what the bytes of a field show is what is read of its value, where the row spells the rule of its kind
pub reads_of : (own : ValueText) (rule : Rule) (i : ℕ) (seen : TypedBlock) (bytes : List ℕ) → Spells own rule → IsForField rule i seen.fields → ShowsField seen i bytes → Reads own.rule own.face (field_of seen i) bytes
reads_of own rule i seen bytes by near shows =
    let same : near.field.kind ≡ shows.field.kind = some_is (sym (ap (option_map (λ f. f.kind)) near.there) ∙ ap (option_map (λ f. f.kind)) shows.there) in
    subst (λ v. Reads own.rule own.face v bytes) (sym (nth_is value.Absent i (out-Block seen.block).fields shows.value shows.given))
    (by.reads shows.field.kind shows.value shows.known bytes (subst (λ k. IsByTable k rule) same near.by_table) shows.order shows.shown)
