-- A verdict is the first rule that is broken of all that are asked.
use Rattle.std.proofs.Common.{◌≡◌, ℕ, ◌+◌, Bool, true, false, List, [], ◌∷◌, ◌++◌, codes, map, length, refl, sym, ap, ◌∙◌}
use Rattle.std.specs.Prelude.{if◌then◌else◌, ◌||◌, Some, Err}
use Rattle.std.specs.List.{list_any}
use Rattle.map_types.specs.Trees.{Members}
use Rattle.map_links.specs.Links.{linked_of, ids_of, nodes_of}
use Rattle.map_rules.specs.declared.rule.Rule.{Rule}
use Rattle.map_rules.specs.Verdicts.{Refusal, Verdict, ◌then◌, first_broken, path_of, member_verdict, list_verdict}
use Rattle.map_rules.specs.Rules.{tables_of, code_set_rules, field_rules, component_rules, group_rules, message_rules, verdict}
use Rattle.map_rules.specs.Questions.{Question, is_broken, question, list_questions, questions, first_refusal, IsFirst}

step : (b : Bool) (e : Refusal) (x y rest : Verdict) → x ≡ (y then rest) → (if b then Err e else x) ≡ ((if b then Err e else y) then rest)
step true e x y rest h = refl
step false e x y rest h = h

joined : (qs rs : List Question) → first_refusal (qs ++ rs) ≡ (first_refusal qs then first_refusal rs)
joined [] rs = refl
joined (q ∷ qs) rs = step q.broken q.refusal (first_refusal (qs ++ rs)) (first_refusal qs) (first_refusal rs) (joined qs rs)

chosen : (list : List ℕ) (i : ℕ) (r : Rule) (b : Bool) (rs : List Rule) → first_refusal (map (question list i) rs) ≡ member_verdict list i (first_broken rs) →
    (if b then Err (record { code = r.code; path = path_of list i }) else first_refusal (map (question list i) rs)) ≡ member_verdict list i (if b then Some r.code else first_broken rs)
chosen list i r true rs h = refl
chosen list i r false rs h = h

of_member : (list : List ℕ) (i : ℕ) (rs : List Rule) → first_refusal (map (question list i) rs) ≡ member_verdict list i (first_broken rs)
of_member list i [] = refl
of_member list i (r ∷ rs) = chosen list i r r.broken rs (of_member list i rs)

of_list : {A : Type 0} (list : List ℕ) (rules : ℕ → A → List Rule) (i : ℕ) (xs : List A) → first_refusal (list_questions list rules i xs) ≡ list_verdict list rules i xs
of_list list rules i [] = refl
of_list list rules i (x ∷ xs) =
    joined (map (question list i) (rules i x)) (list_questions list rules (i + 1) xs)
    ∙ ap (λ v. v then first_refusal (list_questions list rules (i + 1) xs)) (of_member list i (rules i x))
    ∙ ap (λ v. member_verdict list i (first_broken (rules i x)) then v) (of_list list rules (i + 1) xs)

both : {A : Type 0} (list : List ℕ) (rules : ℕ → A → List Rule) (xs : List A) (qs : List Question) (v : Verdict) → first_refusal qs ≡ v →
    first_refusal (list_questions list rules 0 xs ++ qs) ≡ (list_verdict list rules 0 xs then v)
both list rules xs qs v h =
    joined (list_questions list rules 0 xs) qs
    ∙ ap (λ u. u then first_refusal qs) (of_list list rules 0 xs)
    ∙ ap (λ u. list_verdict list rules 0 xs then u) h

pub verdict_asked : (m : Members) → verdict m ≡ first_refusal (questions m)
verdict_asked m =
    let ids = ids_of m.fields (linked_of m) in
    let graph = nodes_of (length m.components) ids (linked_of m) in
    let tables = tables_of m.datatypes m.code_sets m.fields in
    sym (both (codes "codeSets") (code_set_rules tables) m.code_sets _ _
    (both (codes "fields") (field_rules ids tables m.fields) m.fields _ _
    (both (codes "components") (component_rules (length m.components) ids graph) m.components _ _
    (both (codes "groups") (group_rules (length m.components) ids graph) m.groups _ _
    (of_list (codes "messages") (message_rules (length m.components) ids graph) 0 m.messages)))))

-- ---- the first that is broken

same_Err : (e f : Refusal) → ◌≡◌ {A = Verdict} (Err e) (Err f) → e ≡ f
same_Err e f h = cc

found : (q : Question) (qs : List Question) (e : Refusal) (b : Bool) → q.broken ≡ b → (first_refusal qs ≡ Err e → IsFirst qs e) → (if b then Err q.refusal else first_refusal qs) ≡ Err e → IsFirst (q ∷ qs) e
found q qs e true is more h = record { before = []; here = q; after = qs; all = refl; kept = refl; broken = is; told = same_Err q.refusal e h }
found q qs e false is more h =
    let first : IsFirst qs e = more h in
    record {
      before = q ∷ first.before;
      here = first.here;
      after = first.after;
      all = ap (λ rs. q ∷ rs) first.all;
      kept = ap (λ b. b || list_any is_broken first.before) is ∙ first.kept;
      broken = first.broken;
      told = first.told;
    }

pub is_first : (qs : List Question) (e : Refusal) → first_refusal qs ≡ Err e → IsFirst qs e
is_first [] e h = cc
is_first (q ∷ qs) e h = found q qs e q.broken refl (is_first qs e) h

neither : (p q : Bool) → (p || q) ≡ false → (p ≡ false) × (q ≡ false)
neither true q h = cc
neither false q h = (refl, h)

reached : (before after : List Question) (here : Question) (e : Refusal) → list_any is_broken before ≡ false → here.broken ≡ true → here.refusal ≡ e → first_refusal (before ++ here ∷ after) ≡ Err e
reached [] after here e kept broken told = ap (λ (b : Bool). if b then Err here.refusal else first_refusal after) broken ∙ ap Err told
reached (q ∷ before) after here e kept broken told =
    let k = neither q.broken (list_any is_broken before) kept in
    ap (λ (b : Bool). if b then Err q.refusal else first_refusal (before ++ here ∷ after)) k.0 ∙ reached before after here e k.1 broken told

pub first_is : (qs : List Question) (e : Refusal) → IsFirst qs e → first_refusal qs ≡ Err e
first_is qs e f = ap first_refusal f.all ∙ reached f.before f.after f.here e f.kept f.broken f.told
