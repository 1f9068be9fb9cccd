-- The fields of a message, after those that are given for a head, can follow one another.
use Rattle.std.proofs.Common.{◌≡◌, ◌<◌, ℕ, true, List, [], ◌++◌, length, Ok, sym, subst}
use Rattle.sbe_types.specs.declared.message.Value.{Value}
use Rattle.sbe_types.specs.declared.schema.Level.{Level}
use Rattle.tagvalue_codec.specs.declared.data_tags.Pair.{Pair}
use Rattle.tagvalue_codec.specs.Fields.{Field, IsTag, bytes_of}
use Rattle.tagvalue_codec.specs.Texts.{Body, Free}
use Rattle.reference_graph.specs.Expansion.{Structure}
use Rattle.bridge_rules.specs.Sound.{IsShown}
use Rattle.bridge_terms.specs.MessageFields.{fields_of, message_parts, with_lengths}
use Rattle.bridge_terms.specs.Parts.{is_application}
use Rattle.bridge_terms.specs.PlanFacts.{AreCounted, EachValue}
use Rattle.bridge_terms.specs.Plans.{Each, Plan, Tree, all_tags, is_in}
use Rattle.bridge_terms.proofs.Writing.{each_more, fields_among, fields_is}
use Rattle.bridge_plan.specs.CheckedLevels.{IsCovered}
use Rattle.bridge_plan.specs.Covers.{plan_of}
use Rattle.bridge_plan.specs.Mappings.{Mapping}
use Rattle.bridge_plan.proofs.Passing.{passed_over}
use Rattle.same_texts.specs.Follow.{AreTags, IsAlone, IsFramed}
use Rattle.same_texts.specs.Same.{ArePairsOf, IsClear}
use Rattle.same_texts.proofs.Ends.{own_follow}
use Rattle.same_texts.proofs.Following.{all_follow, alone_follow}
use Rattle.same_texts.proofs.Passing.{each_kept}

-- what holds of the tags of a plan holds of those of a message's fields
fields_tagged : (P : ℕ → Type 0) (p : Plan) (t : Tree Value p) (own : List Field) → ((tag : ℕ) → is_in tag (all_tags p) ≡ true → P tag) → fields_of p t ≡ Ok own → Each (λ f. P f.tag) own
fields_tagged P p t own all h =
    let is = fields_is (message_parts p t) own h in
    subst (Each (λ f. P f.tag)) (sym is.2) (each_more (λ f. is_in f.tag (all_tags p) ≡ true) (λ f. P f.tag) (λ f among. all f.tag among) _ (fields_among p t is.0 is.1))

module _ (m : Mapping) (s : Structure) (level : Level) (values : Tree Value (plan_of m s level)) (own : List Field) where
  abbrev p : Plan
  p = plan_of m s level

  own_application : IsCovered m s level → fields_of p values ≡ Ok own → Each (λ f. is_application m.lists f ≡ true) own
  own_application covered written =
      subst (Each (λ f. is_application m.lists f ≡ true)) (passed_over m s level covered.distinct covered.covered [] tt values own written) (each_kept m.lists (with_lengths m.lists own))

  pub given_follow : (tags : List Pair) (given : List Field) → ArePairsOf tags m.lists → AreTags tags (all_tags p) → IsFramed m.lists → Each (IsAlone tags) given → IsCovered m s level → IsClear m.lists p
      → EachValue IsShown p values → AreCounted p values → fields_of p values ≡ Ok own → length (bytes_of (with_lengths m.lists own)) < 1000000000
      → Body tags Free (given ++ with_lengths m.lists own) (bytes_of (given ++ with_lengths m.lists own))
  given_follow tags given pairs tagged framed alone covered clear shown counted written short =
      let application = own_application covered written in
      let each : Each (λ f. IsTag f.tag) own = fields_tagged IsTag p values own tagged.each written in
      let can = own_follow m.lists tags pairs p values own framed clear shown counted written application each short in
      alone_follow tags m.lists pairs given (with_lengths m.lists own) alone (all_follow tags m.lists pairs tagged.pairs own can)
