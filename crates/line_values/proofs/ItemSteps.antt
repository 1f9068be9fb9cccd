-- The next item of an array.
use Rattle.std.proofs.Common.{◌≡◌, ℕ, suc, ◌+◌, ◌<◌, Bool, List, [], ◌∷◌, ◌++◌, length, drop, get_or, Some, Ok, sym, ap, ◌∙◌, add-one}
use Rattle.serde_json.specs.Data.{Data, Items, item}
use Rattle.json_data.specs.declared.data.Json.{Json}
use Rattle.json_data.specs.Trees.{data_of, items_of}
use Rattle.sbe_types.specs.declared.message.Elem.{Elem}
use Rattle.serde_json.specs.Find.{as_array}
use Rattle.line_values.specs.declared.refusals.JCode.TheVariants as code
use Rattle.line_values.specs.Refusals.{Reading, ◌>>=◌, or_refuse}
use Rattle.line_values.specs.Objects.{each, at_item}
use Rattle.line_values.specs.Values.{element_in, elements_of, array_in}
use Rattle.line_values.proofs.NameSteps.{there}
use Rattle.line_values.proofs.ListSteps.{with_front, front_more}

-- item i of the values, and those after it
pub item_there : (vs : List Json) (i : ℕ) (v : Json) → i < length vs → v ≡ get_or vs i v → items_of (drop i vs) ≡ item (data_of v) (items_of (drop (i + 1) vs))
item_there vs i v h is = ap items_of (there vs i v h is)

-- an array by its items
pub array_found : (nulls : Bool) (d : Data) (ds es : Items) → as_array d ≡ Some ds → es ≡ ds → array_in nulls d ≡ elements_of nulls es
array_found nulls d ds es h same = ap (λ o. or_refuse code.Kind [] o >>= elements_of nulls) h ∙ ap (elements_of nulls) (sym same)

pub each_more : {A : Type 0} (by : Data → Reading A) (vs : List Json) (front : List A) (i : ℕ) (d : Json) (x : A) → i < length vs → d ≡ get_or vs i d → at_item i (by (data_of d)) ≡ Ok x
    → with_front (front ++ x ∷ []) (each by (i + 1) (items_of (drop (i + 1) vs))) ≡ with_front front (each by i (items_of (drop i vs)))
unfolding each
each_more by vs front i d x h is read =
    front_more front x _ ∙ ap (with_front front) (sym (ap (each by i) (item_there vs i d h is)
    ∙ ap (λ o. o >>= (λ y. each by (suc i) (items_of (drop (i + 1) vs)) >>= (λ xs. Ok (y ∷ xs)))) read
    ∙ ap (λ n. each by n (items_of (drop (i + 1) vs)) >>= (λ xs. Ok (x ∷ xs))) (sym (add-one i))))

pub elements_more : (nulls : Bool) (vs : List Json) (front : List Elem) (i : ℕ) (d : Json) (x : Elem) → i < length vs → d ≡ get_or vs i d → at_item i (element_in nulls (data_of d)) ≡ Ok x
    → with_front (front ++ x ∷ []) (each (element_in nulls) (i + 1) (items_of (drop (i + 1) vs))) ≡ with_front front (each (element_in nulls) i (items_of (drop i vs)))
elements_more nulls vs front i d x h is read = each_more (element_in nulls) vs front i d x h is read
