-- A whole message: all of it is written, or its first refusal is told.
use Rattle.std.proofs.Common.{◌≡◌, Bool, true, false, cond, List, [], ◌∷◌, ◌++◌, length, Option, Some, None, refl, sym, ap, subst, ◌∙◌}
use Rattle.std.specs.Prelude.{flat_map, nat_lt}
use Rattle.tagvalue_codec.specs.Texts.{text_over}
use Rattle.tagvalue_codec.specs.Fields.{Field, bytes_of, field_bytes}
use Rattle.tagvalue_codec.specs.Drafts.{Draft}
use Rattle.tagvalue_codec.specs.declared.write.Phase.TheVariants.{Open}
use Rattle.bridge_terms.specs.Parts.{TagLists}
use Rattle.bridge_terms.specs.MessageFields.{with_lengths, after_length, length_in}
use Rattle.bridge_terms.specs.Places.{Written, Refused, Places, over_limit, unwritten, first_over, or_refused, place_fields}
use Rattle.message_walk.specs.Halts.{halt_of}
use Rattle.message_walk.specs.Messages.{IsMessagePut, IsPutOr}
use Rattle.message_walk.specs.States.{State, after, after_places, fields_bytes, full_at, is_over, text_size, with_fields}

nothing_after : {X : Type 0} (xs : List X) → xs ++ [] ≡ xs
nothing_after [] = refl
nothing_after (x ∷ xs) = ap (λ ys. x ∷ ys) (nothing_after xs)

joined : {X : Type 0} (xs ys zs : List X) → (xs ++ ys) ++ zs ≡ xs ++ (ys ++ zs)
joined [] ys zs = refl
joined (x ∷ xs) ys zs = ap (λ us. x ∷ us) (joined xs ys zs)

each_joined : {X Y : Type 0} (f : X → List Y) (xs ys : List X) → flat_map f (xs ++ ys) ≡ flat_map f xs ++ flat_map f ys
each_joined f [] ys = refl
each_joined f (x ∷ xs) ys = ap (λ zs. f x ++ zs) (each_joined f xs ys) ∙ sym (joined (f x) (flat_map f xs) (flat_map f ys))

pub bytes_joined : (lists : TagLists) (xs ys : List Field) → fields_bytes lists (xs ++ ys) ≡ fields_bytes lists xs ++ fields_bytes lists ys
bytes_joined lists xs ys =
    ap bytes_of (each_joined (λ f. after_length (length_in f.tag lists.lengths) f) xs ys)
    ∙ each_joined field_bytes (with_lengths lists xs) (with_lengths lists ys)

-- a draft with fields, and then others
body_on : (lists : TagLists) (d : Draft) (xs ys : List Field) → (d.body ++ fields_bytes lists xs) ++ fields_bytes lists ys ≡ d.body ++ fields_bytes lists (xs ++ ys)
body_on lists d xs ys = joined d.body (fields_bytes lists xs) (fields_bytes lists ys) ∙ ap (λ more. d.body ++ more) (sym (bytes_joined lists xs ys))

fields_on : (lists : TagLists) (d : Draft) (xs ys : List Field) → with_fields lists (with_fields lists d xs) ys ≡ with_fields lists d (xs ++ ys)
fields_on lists d xs ys = ap (λ body. record { phase = Open; begin = d.begin; body = body; limit = d.limit }) (body_on lists d xs ys)

no_fields : (lists : TagLists) (d : Draft) → d.phase ≡ Open → d ≡ with_fields lists d []
no_fields lists d begun =
    ap (λ phase. record { phase = phase; begin = d.begin; body = d.body; limit = d.limit }) begun
    ∙ ap (λ body. record { phase = Open; begin = d.begin; body = body; limit = d.limit }) (sym (nothing_after d.body))

sized : (lists : TagLists) (d : Draft) (before fields : List Field) → text_size lists (with_fields lists d before) fields ≡ text_size lists d (before ++ fields)
sized lists d before fields = ap (λ body. length (text_over d.begin body)) (body_on lists d before fields)

-- the first place over the limit is the one that the definition finds, or the places go on
over_here : (lists : TagLists) (d : Draft) (before : List Field) (x : Written) (xs : List Written) (r : Option Refused) (b : Bool)
    → is_over lists (with_fields lists d before) x.fields ≡ b
    → IsPutOr (or_refused (first_over (text_size lists d) d.limit (before ++ x.fields) xs) r) (with_fields lists d ((before ++ x.fields) ++ place_fields xs))
    (after_places lists (with_fields lists (with_fields lists d before) x.fields) xs r).draft (after_places lists (with_fields lists (with_fields lists d before) x.fields) xs r).halt
    → IsPutOr (or_refused (cond b (Some (record { way = x.way; size = text_size lists d (before ++ x.fields) })) (first_over (text_size lists d) d.limit (before ++ x.fields) xs)) r)
    (with_fields lists d ((before ++ x.fields) ++ place_fields xs))
    (cond b (record { draft = with_fields lists d before; halt = Some (full_at lists (with_fields lists d before) x) })
    (after_places lists (with_fields lists (with_fields lists d before) x.fields) xs r)).draft
    (cond b (record { draft = with_fields lists d before; halt = Some (full_at lists (with_fields lists d before) x) })
    (after_places lists (with_fields lists (with_fields lists d before) x.fields) xs r)).halt
over_here lists d before x xs r true is more = (
  over_limit (record { way = x.way; size = text_size lists d (before ++ x.fields) }),
  refl,
  ap (λ size. halt_of (over_limit (record { way = x.way; size = size }))) (sized lists d before x.fields),
)
over_here lists d before x xs r false is more = more

put_from : (lists : TagLists) (d : Draft) (before : List Field) (xs : List Written) (r : Option Refused)
    → IsPutOr (or_refused (first_over (text_size lists d) d.limit before xs) r) (with_fields lists d (before ++ place_fields xs))
    (after_places lists (with_fields lists d before) xs r).draft (after_places lists (with_fields lists d before) xs r).halt
put_from lists d before [] None = (refl, ap (with_fields lists d) (sym (nothing_after before)))
put_from lists d before [] (Some u) = (unwritten u, refl, refl)
put_from lists d before (x ∷ xs) r =
    let further : IsPutOr (or_refused (first_over (text_size lists d) d.limit (before ++ x.fields) xs) r) (with_fields lists d ((before ++ x.fields) ++ place_fields xs))
    (after_places lists (with_fields lists (with_fields lists d before) x.fields) xs r).draft (after_places lists (with_fields lists (with_fields lists d before) x.fields) xs r).halt
    = subst (λ e. IsPutOr (or_refused (first_over (text_size lists d) d.limit (before ++ x.fields) xs) r) (with_fields lists d ((before ++ x.fields) ++ place_fields xs))
    (after_places lists e xs r).draft (after_places lists e xs r).halt) (sym (fields_on lists d before x.fields)) (put_from lists d (before ++ x.fields) xs r) in
    let here = over_here lists d before x xs r (is_over lists (with_fields lists d before) x.fields) refl further in
    subst (λ fields. IsPutOr (or_refused (first_over (text_size lists d) d.limit before (x ∷ xs)) r) (with_fields lists d fields)
    (after_places lists (with_fields lists d before) (x ∷ xs) r).draft (after_places lists (with_fields lists d before) (x ∷ xs) r).halt) (joined before x.fields (place_fields xs))
    (subst (λ b. IsPutOr (or_refused (cond b (Some (record { way = x.way; size = text_size lists d (before ++ x.fields) })) (first_over (text_size lists d) d.limit (before ++ x.fields) xs)) r)
    (with_fields lists d ((before ++ x.fields) ++ place_fields xs))
    (after_places lists (with_fields lists d before) (x ∷ xs) r).draft (after_places lists (with_fields lists d before) (x ∷ xs) r).halt)
    (ap (λ n. nat_lt d.limit n) (sized lists d before x.fields)) here)

pub message_put : (lists : TagLists) (d : Draft) (all : Places) (s : State) → d.phase ≡ Open → s ≡ after lists d all → IsMessagePut lists d all s
message_put lists d all s begun is =
    subst (λ s. IsMessagePut lists d all s) (sym (is ∙ ap (λ d. after lists d all) (no_fields lists d begun))) (put_from lists d [] all.places all.refused)
