-- Leaves, enums, sets and composites, part by part.
use Rattle.std.proofs.Common.{◌≡◌, min, ℤ, pos, ◌+ℤ◌, true, false, cond, ◌<◌, ◌≤◌, ◌+◌, ℕ, List, ◌∷◌, length, drop, get_or, refl, sym, ap, ◌∙◌, subst}
use Rattle.std.specs.Prelude.{slice_get}
use Rattle.std.proofs.lemmas.List.{drop_all}
use Rattle.rand_pcg.specs.Lcg.{Lcg}
use Rattle.sbe_types.specs.declared.kind.Primitive.{Primitive}
use Rattle.sbe_types.specs.declared.kind.LeafShape.{LeafShape}
use Rattle.sbe_types.specs.declared.kind.Leaf.{Leaf as LeafOf}
use Rattle.sbe_types.specs.declared.kind.Kind.{Kind, Leaf, Enum, Set, Const, Comp, Row_of-Member, end_of-Member, more_of-Member, items-the_row-Member, items_hidden-the_row-Member-0}
use Rattle.sbe_types.specs.declared.kind.ConstValue.{ConstValue}
use Rattle.sbe_types.specs.declared.kind.Member.{Member}
use Rattle.sbe_types.specs.declared.kind.Named.{Named}
use Rattle.sbe_types.specs.declared.message.Elem.{Elem}
use Rattle.sbe_types.specs.declared.message.Value.{Value}
use Rattle.sbe_types.specs.declared.message.Value.TheVariants as value
use Rattle.sbe_types.specs.Shows.{is_ranged, text_value}
use Rattle.sbe_types.proofs.KindRows.{row_in}
use Rattle.vectors.specs.declared.numbers.TheConstants.{FIRST_LETTER, LETTERS, WORD_LIMIT}
use Rattle.vectors.specs.Drawing.{◌>>=◌, always, below, each, times}
use Rattle.vectors.specs.Values.{size_of, number_in, number_value, number_drawn, element_value, element_drawn, least_byte, byte_of, byte_count, text_byte_drawn, text_length_drawn, text_drawn, there_drawn, leaf_drawn, listed_value, choice_drawn, enum_drawn, with_bit, bits_drawn, value_drawn, row_drawn, member_drawn}
use Rattle.vectors.proofs.Gathering.{made, item_at}

-- ---- leaves

pub number_is : (leaf : LeafOf) (words next : Lcg) (n : ℤ) (v : Value) → number_in leaf.low leaf.high words ≡ (n, next) → v ≡ number_value leaf n → number_drawn leaf words ≡ (v, next)
number_is leaf words next n v h is = made (number_in leaf.low leaf.high) (number_value leaf) words next n h ∙ ap (λ (x : Value). (x, next)) (sym is)

pub number_step : (low high : ℤ) (n k : ℕ) (words next : Lcg) → n ≡ min (size_of low high) WORD_LIMIT → below n words ≡ (k, next) → number_in low high words ≡ (low +ℤ pos k, next)
number_step low high n k words next is h = ap (λ m. (below m >>= (λ k. always (low +ℤ pos k))) words) (sym is) ∙ made (below n) (λ k. low +ℤ pos k) words next k h

pub element_is : (leaf : LeafOf) (words next : Lcg) (n : ℤ) (e : Elem) → number_in leaf.low leaf.high words ≡ (n, next) → e ≡ element_value leaf n → element_drawn leaf words ≡ (e, next)
element_is leaf words next n e h is = made (number_in leaf.low leaf.high) (element_value leaf) words next n h ∙ ap (λ (x : Elem). (x, next)) (sym is)

pub text_is : (leaf : LeafOf) (words one two : Lcg) (n count : ℕ) (bytes : List ℕ) (v : Value) → text_length_drawn leaf words ≡ (n, one) → count ≡ byte_count leaf n →
    times count (text_byte_drawn leaf) one ≡ (bytes, two) → v ≡ text_value leaf bytes → text_drawn leaf words ≡ (v, two)
text_is leaf words one two n count bytes v a many b is =
    ap (λ (p : ℕ × Lcg). (text_value leaf (times (byte_count leaf p.0) (text_byte_drawn leaf) p.1).0, (times (byte_count leaf p.0) (text_byte_drawn leaf) p.1).1)) a
    ∙ ap (λ k. (text_value leaf (times k (text_byte_drawn leaf) one).0, (times k (text_byte_drawn leaf) one).1)) (sym many)
    ∙ ap (λ (q : List ℕ × Lcg). (text_value leaf q.0, q.1)) b ∙ ap (λ (x : Value). (x, two)) (sym is)

-- a letter, or a byte of the range
pub letter_is : (leaf : LeafOf) (words next : Lcg) (n : ℕ) → is_ranged leaf.shape ≡ false → below LETTERS words ≡ (n, next) → text_byte_drawn leaf words ≡ (FIRST_LETTER + n, next)
letter_is leaf words next n off h =
    ap (λ t. (cond t (number_in (least_byte leaf) leaf.high >>= (λ n. always (byte_of n))) (below LETTERS >>= (λ n. always (FIRST_LETTER + n)))) words) off
    ∙ made (below LETTERS) (λ n. FIRST_LETTER + n) words next n h

pub ranged_is : (leaf : LeafOf) (low : ℤ) (words next : Lcg) (n : ℤ) (b : ℕ) → is_ranged leaf.shape ≡ true → low ≡ least_byte leaf → number_in low leaf.high words ≡ (n, next) → b ≡ byte_of n →
    text_byte_drawn leaf words ≡ (b, next)
ranged_is leaf low words next n b on least h is =
    ap (λ t. (cond t (number_in (least_byte leaf) leaf.high >>= (λ n. always (byte_of n))) (below LETTERS >>= (λ n. always (FIRST_LETTER + n)))) words) on
    ∙ ap (λ l. (number_in l leaf.high >>= (λ n. always (byte_of n))) words) (sym least)
    ∙ made (number_in low leaf.high) byte_of words next n h ∙ ap (λ (x : ℕ). (x, next)) (sym is)

-- a leaf that is there, by its shape
pub there_is : (shape : LeafShape) (leaf : LeafOf) (words : Lcg) (r : Value × Lcg) → leaf.shape ≡ shape → there_drawn shape leaf words ≡ r → there_drawn leaf.shape leaf words ≡ r
there_is shape leaf words r is h = ap (λ s. there_drawn s leaf words) is ∙ h

-- ---- enums

pub choice_is : (leaf : LeafOf) (values : List Named) (words next : Lcg) (n many : ℕ) (v : Value) → many ≡ length values → below many words ≡ (n, next) → v ≡ listed_value leaf (slice_get values n) → choice_drawn leaf values words ≡ (v, next)
choice_is leaf values words next n many v same h is =
    ap (λ k. (below k >>= (λ n. always (listed_value leaf (slice_get values n)))) words) (sym same)
    ∙ made (below many) (λ n. listed_value leaf (slice_get values n)) words next n h ∙ ap (λ (x : Value). (x, next)) (sym is)

-- ---- sets

-- the next choice of a set
pub bits_go : (choices items : List Named) (i : ℕ) (choice : Named) (bits n : ℕ) (words next : Lcg) (whole : ℕ × Lcg) → items ≡ choices → i < length items → choice ≡ get_or items i choice → below 2 words ≡ (n, next) →
    bits_drawn bits (drop i choices) words ≡ whole → bits_drawn (with_bit bits choice.number n) (drop (i + 1) choices) next ≡ whole
unfolding bits_drawn
bits_go choices items i choice bits n words next whole same within at h so_far =
    let rest = drop (i + 1) choices in
    let is = item_at choices i choice (subst (λ zs. i < length zs) same within) (subst (λ zs. choice ≡ get_or zs i choice) same at) in
    sym (ap (λ l. bits_drawn bits l words) is ∙ ap (λ (z : ℕ × Lcg). bits_drawn (with_bit bits choice.number z.0) rest z.1) h) ∙ so_far

-- after the last choice
pub bits_end : (choices items : List Named) (i bits : ℕ) (words : Lcg) (whole : ℕ × Lcg) → items ≡ choices → length items ≤ i → bits_drawn bits (drop i choices) words ≡ whole → whole ≡ (bits, words)
unfolding bits_drawn
bits_end choices items i bits words whole same after so_far = sym so_far ∙ ap (λ l. bits_drawn bits l words) (drop_all i choices (subst (λ zs. length zs ≤ i) same after))

-- ---- composites

row_each : (n : _) (row : Row_of-Member n) (words : Lcg) → row_drawn row words ≡ each member_drawn (items-the_row-Member n row) words
unfolding value_drawn each
row_each n end_of-Member words = refl
row_each n (more_of-Member name offset kind rest) words =
    ap (λ (z : List Value × Lcg). ((value_drawn kind words).0 ∷ z.0, z.1)) (row_each _ rest (value_drawn kind words).1)

-- a composite by the list of its members
pub comp_drawn : (members : List Member) (words next : Lcg) (values : List Value) → each member_drawn members words ≡ (values, next) → value_drawn (Comp members) words ≡ (value.Comp values, next)
unfolding value_drawn
comp_drawn members words next values h =
    let row = row_in (Comp members) in
    ap (λ (z : List Value × Lcg). (value.Comp z.0, z.1)) (row_each row.0 row.1 words ∙ ap (λ l. each member_drawn l words) (items_hidden-the_row-Member-0 members) ∙ h)

-- ---- kinds

pub leaf_kind : (kind : Kind) (leaf : LeafOf) (words : Lcg) (r : Value × Lcg) → kind ≡ Leaf leaf → leaf_drawn leaf words ≡ r → value_drawn kind words ≡ r
unfolding value_drawn
leaf_kind kind leaf words r is h = ap (λ k. value_drawn k words) is ∙ h

pub enum_kind : (kind : Kind) (leaf : LeafOf) (values : List Named) (words : Lcg) (r : Value × Lcg) → kind ≡ Enum leaf values → enum_drawn leaf values words ≡ r → value_drawn kind words ≡ r
unfolding value_drawn
enum_kind kind leaf values words r is h = ap (λ k. value_drawn k words) is ∙ h

pub set_kind : (kind : Kind) (prim : Primitive) (choices : List Named) (words next : Lcg) (bits : ℕ) → kind ≡ Set prim choices → bits_drawn 0 choices words ≡ (bits, next) → value_drawn kind words ≡ (value.Set bits, next)
unfolding value_drawn
set_kind kind prim choices words next bits is h = ap (λ k. value_drawn k words) is ∙ ap (λ (z : ℕ × Lcg). (value.Set z.0, z.1)) h

pub const_kind : (kind : Kind) (c : ConstValue) (words : Lcg) → kind ≡ Const c → value_drawn kind words ≡ (value.Const, words)
unfolding value_drawn
const_kind kind c words is = ap (λ k. value_drawn k words) is

pub comp_kind : (kind : Kind) (members : List Member) (words next : Lcg) (values : List Value) → kind ≡ Comp members → each member_drawn members words ≡ (values, next) → value_drawn kind words ≡ (value.Comp values, next)
comp_kind kind members words next values is h = ap (λ k. value_drawn k words) is ∙ comp_drawn members words next values h
