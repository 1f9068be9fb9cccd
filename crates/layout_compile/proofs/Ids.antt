-- Messages by their ids.
use Rattle.std.proofs.Common.{◌≡◌, ◌+◌, ◌<◌, ℕ, suc, Bool, true, false, cond, List, [], ◌∷◌, ◌++◌, length, take, get_or, Option, Some, None, refl, sym, ap, ◌∙◌, arith}
use Rattle.std.specs.Prelude.{◌==◌}
use Rattle.std.specs.Option.{option_map, option_or}
use Rattle.std.proofs.lemmas.List.{length-take-le}
use Rattle.sbe_types.specs.declared.schema.Level.{Level, out-Level}
use Rattle.sbe_wire.specs.Faults.{message_named}
use Rattle.layout_tables.proofs.Items.{take_one}

-- the number of the first message of an id
abbrev number_of_id : ℕ → ℕ → List Level → Option ℕ
number_of_id i id levels = option_map (λ (m : ℕ × Level). m.0) (message_named i id levels)

-- one message before the others
before : (b : Bool) (i : ℕ) (x : Level) (o p : Option (ℕ × Level)) (q : Option ℕ) → option_map (λ (m : ℕ × Level). m.0) o ≡ option_or (option_map (λ (m : ℕ × Level). m.0) p) q →
    option_map (λ (m : ℕ × Level). m.0) (cond b (Some (i, x)) o) ≡ option_or (option_map (λ (m : ℕ × Level). m.0) (cond b (Some (i, x)) p)) q
before true i x o p q h = refl
before false i x o p q h = h

at_end : (b : Bool) (i : ℕ) (l : Level) → option_map (λ (m : ℕ × Level). m.0) (cond b (Some (i, l)) None) ≡ cond b (Some (i + 0)) None
at_end true i l = ap Some (omega arith)
at_end false i l = refl

id_more : (i id : ℕ) (ls : List Level) (l : Level) → number_of_id i id (ls ++ l ∷ []) ≡ option_or (number_of_id i id ls) (cond ((out-Level l).id == id) (Some (i + length ls)) None)
id_more i id [] l = at_end ((out-Level l).id == id) i l
id_more i id (x ∷ ls) l =
    let same : suc i + length ls ≡ i + length (x ∷ ls) = omega arith in
    before ((out-Level x).id == id) i x (message_named (suc i) id (ls ++ l ∷ [])) (message_named (suc i) id ls) _
    (id_more (suc i) id ls l ∙ ap (λ n. option_or (number_of_id (suc i) id ls) (cond ((out-Level l).id == id) (Some n) None)) same)

-- the table knows one more message
pub one_more : (id : ℕ) (ls : List Level) (i : ℕ) (l : Level) (old new : Option ℕ) → i < length ls → l ≡ get_or ls i l → old ≡ number_of_id 0 id (take i ls) →
    new ≡ option_or old (cond ((out-Level l).id == id) (Some i) None) → new ≡ number_of_id 0 id (take (i + 1) ls)
one_more id ls i l old new h is before now =
    let long : 0 + length (take i ls) ≡ i = omega (arith, length-take-le i ls (omega arith)) in
    now ∙ ap (λ o. option_or o (cond ((out-Level l).id == id) (Some i) None)) before
    ∙ sym (ap (number_of_id 0 id) (take_one ls i l h is) ∙ id_more 0 id (take i ls) l
    ∙ ap (λ n. option_or (number_of_id 0 id (take i ls)) (cond ((out-Level l).id == id) (Some n) None)) long)
