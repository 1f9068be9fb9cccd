-- The tags of rows of a plan have one to nine digits.
use Rattle.std.proofs.Common.{◌≡◌, ℕ, ◌<◌, ◌^◌, ◌==◌, inl, inr, true, List, [], ◌∷◌, ◌++◌, decimal, sym, ◌∙◌, subst, arith}
use Rattle.std.proofs.lemmas.Bool.{eqb-true, false≢true}
use Rattle.std.proofs.lemmas.Fmt.{decimal_injective}
use Rattle.std.proofs.lemmas.List.{append_cancel_right}
use Rattle.tagvalue_codec.specs.Drafts.{IsReady}
use Rattle.tagvalue_codec.specs.Fields.{IsTag, tag_bytes}
use Rattle.bridge_rules.specs.Rules.{Rule}
use Rattle.bridge_rules.proofs.BoolLemmas.{either, second_of}
use Rattle.bridge_terms.specs.Parts.{TagLists}
use Rattle.bridge_terms.specs.Plans.{Plan, all_tags, done, group, is_in, single}
use Rattle.bridge_plan.proofs.Planning.{in_append}
use Rattle.message_walk.specs.declared.plan.PlanRow.{PlanRow}
use Rattle.message_walk.specs.Rows.{AreRows}
use Rattle.exact_plans.specs.Rows.{AreTagged}
use Rattle.exact_plans.proofs.ClearRows.{all_back, all_front}

-- bytes that may begin a field are those of one tag
pub tag_ready : (tag : ℕ) (bytes : List ℕ) → tag < 2 ^ 64 → bytes ≡ tag_bytes tag → IsReady bytes → IsTag tag
tag_ready tag bytes small shown is =
    let same : decimal is.tag ≡ decimal tag = append_cancel_right (decimal is.tag) (decimal tag) (61 ∷ []) (sym is.bytes_are ∙ shown) in
    let below : is.tag < 2 ^ 64 = omega (arith, is.tagged.below) in
    subst IsTag (decimal_injective is.tag tag below small same) is.tagged

-- the first number, or one of the others
first_or : (P : ℕ → Type 0) (first : ℕ) (others : List ℕ) (n : ℕ) → P first → (is_in n others ≡ true → P n) → is_in n (first ∷ others) ≡ true → P n
first_or P first others n own later among =
    elim (either (first == n)) [
      | inl same ↦ subst P (eqb-true first n same) own
      | inr other ↦ later (second_of (first == n) (is_in n others) among other)
    ]

-- one of some numbers, or one of others
one_of : (P : ℕ → Type 0) (some others : List ℕ) (n : ℕ) → (is_in n some ≡ true → P n) → (is_in n others ≡ true → P n) → is_in n (some ++ others) ≡ true → P n
one_of P some others n own later among =
    elim (in_append n some others among) [
      | inl left ↦ own left
      | inr right ↦ later right
    ]

module _ {R : Type 0} (spells : R → Rule → Type 0) (lists : TagLists) where
  pub tagged_rows : (p : Plan) (rows : List (PlanRow R)) → AreRows spells lists p rows → AreTagged rows → (tag : ℕ) → is_in tag (all_tags p) ≡ true → IsTag tag
  tagged_rows done rows are all tag among = absurd (false≢true among)
  tagged_rows (single s rest) rows are all tag among =
      let own : AreTagged (are.0 ∷ are.1) = subst (λ (rs : List (PlanRow R)). AreTagged rs) are.2 all in
      first_or IsTag s.tag (all_tags rest) tag (subst IsTag are.3 own.0) (tagged_rows rest are.1 are.5 own.1 tag) among
  tagged_rows (group g inner rest) rows are all tag among =
      let own : AreTagged (are.0 ∷ (are.1 ++ are.2)) = subst (λ (rs : List (PlanRow R)). AreTagged rs) are.3 all in
      first_or IsTag g.tag (all_tags inner ++ all_tags rest) tag (subst IsTag are.4 own.0)
      (one_of IsTag (all_tags inner) (all_tags rest) tag
      (tagged_rows inner are.1 are.8 (all_front (λ (r : PlanRow R). IsTag r.lead) are.1 are.2 own.1) tag)
      (tagged_rows rest are.2 are.9 (all_back (λ (r : PlanRow R). IsTag r.lead) are.1 are.2 own.1) tag))
      among
