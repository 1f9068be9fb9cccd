-- Data as it is, and as a text.
use Rattle.std.proofs.Common.{◌≡◌, ◌<◌, ℕ, List, [], ◌∷◌, length, Option, Some, None, Ok, Err, refl, sym, ap, subst, arith}
use Rattle.sbe_types.specs.declared.kind.Leaf.{Leaf as LeafOf}
use Rattle.fix_values.specs.declared.rule.V.{V}
use Rattle.fix_values.specs.Values.{text_shown}
use Rattle.tagvalue_codec.specs.Drafts.{Draft}
use Rattle.bridge_rules.specs.Rules.{raw_data, text_data}
use Rattle.bridge_rules.specs.Texts.{text_by, field_text, judged_text}
use Rattle.bridge_terms.specs.Parts.{TagLists}
use Rattle.message_walk.specs.declared.halt.Halt.{Halt}
use Rattle.message_walk.specs.declared.halt.Cause.TheVariants as cause
use Rattle.message_walk.specs.declared.put.Put.TheVariants as put
use Rattle.message_walk.specs.Rows.{value_of_bytes}
use Rattle.message_walk.specs.States.{IsPut, PutResult}

pub raw_none : (lists : TagLists) (d : Draft) (h : Halt) (tag : ℕ) (leaf : LeafOf) (found : Option (List ℕ)) → found ≡ None
    → IsPut lists d tag (text_by (raw_data leaf) (value_of_bytes found)) (record { put = put.Nothing; draft = d; halt = h })
raw_none lists d h tag leaf None is = (refl, refl)
raw_none lists d h tag leaf (Some t) is = absurd cc

pub raw_empty : (lists : TagLists) (d : Draft) (h : Halt) (tag : ℕ) (leaf : LeafOf) (found : Option (List ℕ)) (t : List ℕ) → found ≡ Some t → length t ≡ 0
    → IsPut lists d tag (text_by (raw_data leaf) (value_of_bytes found)) (record { put = put.Nothing; draft = d; halt = h })
raw_empty lists d h tag leaf found [] is none =
    subst (λ o. IsPut lists d tag (text_by (raw_data leaf) (value_of_bytes o)) (record { put = put.Nothing; draft = d; halt = h })) (sym is) (refl, refl)
raw_empty lists d h tag leaf found (b ∷ bs) is none = absurd (omega (arith, none))

pub raw_some : (lists : TagLists) (d : Draft) (r : PutResult) (tag : ℕ) (leaf : LeafOf) (found : Option (List ℕ)) (t : List ℕ) → found ≡ Some t → 0 < length t
    → IsPut lists d tag (Ok (Some t)) r → IsPut lists d tag (text_by (raw_data leaf) (value_of_bytes found)) r
raw_some lists d r tag leaf found [] is some put = absurd (omega (arith, some))
raw_some lists d r tag leaf found (b ∷ bs) is some put = subst (λ o. IsPut lists d tag (text_by (raw_data leaf) (value_of_bytes o)) r) (sym is) put

pub passage_none : (lists : TagLists) (d : Draft) (h : Halt) (tag : ℕ) (leaf : LeafOf) (found : Option (List ℕ)) → found ≡ None
    → IsPut lists d tag (text_by (text_data leaf) (value_of_bytes found)) (record { put = put.Nothing; draft = d; halt = h })
passage_none lists d h tag leaf None is = (refl, refl)
passage_none lists d h tag leaf (Some t) is = absurd cc

pub passage_empty : (lists : TagLists) (d : Draft) (h : Halt) (tag : ℕ) (leaf : LeafOf) (found : Option (List ℕ)) (t : List ℕ) → found ≡ Some t → length t ≡ 0
    → IsPut lists d tag (text_by (text_data leaf) (value_of_bytes found)) (record { put = put.Nothing; draft = d; halt = h })
passage_empty lists d h tag leaf found [] is none =
    subst (λ o. IsPut lists d tag (text_by (text_data leaf) (value_of_bytes o)) (record { put = put.Nothing; draft = d; halt = h })) (sym is) (refl, refl)
passage_empty lists d h tag leaf found (b ∷ bs) is none = absurd (omega (arith, none))

pub passage_some : (lists : TagLists) (d : Draft) (r : PutResult) (tag : ℕ) (leaf : LeafOf) (found : Option (List ℕ)) (t : List ℕ) → found ≡ Some t → 0 < length t
    → IsPut lists d tag (field_text (judged_text t (text_shown t))) r → IsPut lists d tag (text_by (text_data leaf) (value_of_bytes found)) r
passage_some lists d r tag leaf found [] is some put = absurd (omega (arith, some))
passage_some lists d r tag leaf found (b ∷ bs) is some put = subst (λ o. IsPut lists d tag (text_by (text_data leaf) (value_of_bytes o)) r) (sym is) put

pub judged_fine : (lists : TagLists) (d : Draft) (r : PutResult) (tag : ℕ) (t : List ℕ) → text_shown t ≡ Ok tt → IsPut lists d tag (Ok (Some t)) r
    → IsPut lists d tag (field_text (judged_text t (text_shown t))) r
judged_fine lists d r tag t fine put = subst (λ o. IsPut lists d tag (field_text (judged_text t o)) r) (sym fine) put

pub judged_bad : (lists : TagLists) (d : Draft) (h : Halt) (tag : ℕ) (t : List ℕ) (v : V) → text_shown t ≡ Err v → h ≡ record { cause = cause.NoText v; way = [] }
    → IsPut lists d tag (field_text (judged_text t (text_shown t))) (record { put = put.Refused; draft = d; halt = h })
judged_bad lists d h tag t v bad halted =
    subst (λ o. IsPut lists d tag (field_text (judged_text t o)) (record { put = put.Refused; draft = d; halt = h })) (sym bad)
    (ap (λ h. record { draft = d; halt = Some h }) halted, refl)
