-- A whole message that is moved, filled and counted.
use Rattle.std.proofs.Common.{◌≡◌, ◌≤◌, ◌<◌, ◌+◌, ◌*◌, ◌^◌, ℕ, Bool, true, false, cond, List, length, Option, Some, None, Result, Ok, Err, refl, sym, ap, ◌∙◌, subst, arith}
use Rattle.std.specs.Prelude.{nat_le, slice_get}
use Rattle.std.specs.Option.{option_map}
use Rattle.std.proofs.lemmas.Bool.Decides.{nat_tests}
use Rattle.std.proofs.lemmas.Option.{slice_get_within}
use Rattle.sbe_types.specs.declared.schema.Level.{Level, out-Level}
use Rattle.sbe_types.specs.declared.schema.WireSchema.{WireSchema}
use Rattle.sbe_types.specs.declared.message.Block.{Block}
use Rattle.sbe_types.specs.declared.message.Msg.{Msg}
use Rattle.sbe_wire.specs.Faults.{message_named}
use Rattle.sbe_wire.specs.Lays.{Lays}
use Rattle.sbe_wire.proofs.Messages.{named_is}
use Rattle.schema_facts.specs.CheckedLevels.{groups_deep}
use Rattle.schema_facts.specs.IsChecked.{IsChecked}
use Rattle.schema_facts.proofs.KindDeclared.{all_at}
use Rattle.schema_rules.specs.PartRules.{most_groups}
use Rattle.version_laws.specs.Projected.{lifted, lifted_from, lifted_block, projected, with_block}
use Rattle.regrade_laws.specs.Fill.{Fills}
use Rattle.regrade_laws.specs.Filled.{filled_block}
use Rattle.regrade_laws.specs.Regraded.{moved, filled_by, filled_in, in_version, regraded}
use Rattle.regrade_laws.specs.Regraded as why
use Rattle.regrade_laws.specs.Counts.{dropped, dropped_at, dropped_count, filled, filled_of, filled_at, filled_count}
use Rattle.regrade_laws.specs.Sizes.{most_among}
use Rattle.regrade_laws.proofs.Fit.{dropped_fits, filled_fits}
use Rattle.regrade.specs.declared.filler.Filler.{Filler}
use Rattle.regrade.specs.declared.filler.Unfilled.TheVariants.{NoFill}
use Rattle.regrade.specs.declared.regrading.Regraded.{Regraded}
use Rattle.regrade.specs.declared.regrading.RegradeErr.{RegradeErr}
use Rattle.regrade.specs.Fillings.{IsFilled}
use Rattle.regrade.specs.Regrades.{HasWay, LiesInFrame, Answers, Regrades}

-- ---- lifted

none_named : (o : Option (ℕ × Level)) → None ≡ option_map (λ (m : ℕ × Level). m.0) o → o ≡ None
none_named None h = refl
none_named (Some m) h = cc

some_named : (o : Option (ℕ × Level)) (t : ℕ) → Some t ≡ option_map (λ (m : ℕ × Level). m.0) o → (l : Level) × (o ≡ Some (t, l))
some_named None t h = cc
some_named (Some m) t h = let same : t ≡ m.0 = cc in (m.1, ap (λ k. Some (k, m.1)) (sym same))

none_at : {A : Type 0} (xs : List A) (i : ℕ) → length xs ≤ i → slice_get xs i ≡ None
none_at xs i h = by (slice_get xs i) refl
  where
    by : (o : Option _) → slice_get xs i ≡ o → slice_get xs i ≡ None
    by None e = e
    by (Some x) e = absurd (omega (arith, slice_get_within xs i x e, h))

module _ (from to : WireSchema) (m : Msg) where
  pub no_level : length from.messages ≤ m.template → None ≡ lifted from to m
  no_level h = sym (ap (lifted_from from to m) (none_at from.messages m.template h))

  module _ (level : Level) (at : slice_get from.messages m.template ≡ Some level) where
    pub no_namesake : None ≡ option_map (λ (m : ℕ × Level). m.0) (message_named 0 (out-Level level).id to.messages) → None ≡ lifted from to m
    no_namesake h =
        sym (ap (lifted_from from to m) at ∙ ap (λ o. with_block m o (λ other. lifted_block from.version other m.block)) (none_named (message_named 0 (out-Level level).id to.messages) h))

    module _ (t : ℕ) (found : Some t ≡ option_map (λ (m : ℕ × Level). m.0) (message_named 0 (out-Level level).id to.messages)) where
      named : (l : Level) × (message_named 0 (out-Level level).id to.messages ≡ Some (t, l))
      named = some_named (message_named 0 (out-Level level).id to.messages) t found

      pub namesake_within : t < length to.messages
      namesake_within = slice_get_within to.messages t named.0 (named_is to (out-Level level).id (t, named.0) named.1)

      pub lifted_there : (other : Level) (block : Block) → slice_get to.messages t ≡ Some other → block ≡ lifted_block from.version other m.block →
          ◌≡◌ {A = Option Msg} (Some (record { template = t; version = m.version; block = block })) (lifted from to m)
      lifted_there other block there is =
          let both : Some other ≡ Some named.0 = sym there ∙ named_is to (out-Level level).id (t, named.0) named.1 in
          let same : other ≡ named.0 = cc in
          let right : block ≡ lifted_block from.version named.0 m.block = is ∙ ap (λ (l : Level). lifted_block from.version l m.block) same in
          ap (λ b. let x : Msg = record { template = t; version = m.version; block = b } in Some x) right
          ∙ sym (ap (lifted_from from to m) at ∙ ap (λ o. with_block m o (λ other. lifted_block from.version other m.block)) named.1)

-- ---- moved

module _ (from to : WireSchema) (m : Msg) where
  pub moved_up : from.version ≤ to.version → (o : Option Msg) → o ≡ lifted from to m → o ≡ moved from to m
  moved_up up o h = let is : nat_le from.version to.version ≡ true = grind (arith, nat_tests, up) in h ∙ sym (ap (λ t. cond t (lifted from to m) (projected to from m)) is)

  pub moved_down : to.version < from.version → (o : Option Msg) → o ≡ projected to from m → o ≡ moved from to m
  moved_down down o h = let is : nat_le from.version to.version ≡ false = grind (arith, nat_tests, down) in h ∙ sym (ap (λ t. cond t (lifted from to m) (projected to from m)) is)

  -- ---- dropped

  pub none_dropped : from.version ≤ to.version → 0 ≡ dropped from to m
  none_dropped up = let is : nat_le from.version to.version ≡ true = grind (arith, nat_tests, up) in sym (ap (λ t. cond t 0 (dropped_at to.version m (slice_get from.messages m.template))) is)

  module _ (down : to.version < from.version) where
    dropped_down : dropped from to m ≡ dropped_at to.version m (slice_get from.messages m.template)
    dropped_down = let is : nat_le from.version to.version ≡ false = grind (arith, nat_tests, down) in ap (λ t. cond t 0 (dropped_at to.version m (slice_get from.messages m.template))) is

    pub nothing_dropped : length from.messages ≤ m.template → 0 ≡ dropped from to m
    nothing_dropped h = sym (dropped_down ∙ ap (dropped_at to.version m) (none_at from.messages m.template h))

    pub dropped_there : (level : Level) → slice_get from.messages m.template ≡ Some level → dropped from to m ≡ dropped_count to.version level m.block
    dropped_there level at = dropped_down ∙ ap (dropped_at to.version m) at

-- ---- filled

module _ (to : WireSchema) (m : Msg) where
  pub no_level_filled : length to.messages ≤ m.template → filled_in to (Some m) ≡ Err why.NoTemplate
  no_level_filled h = ap (filled_by to.version m) (none_at to.messages m.template h)

  module _ (level : Level) (at : slice_get to.messages m.template ≡ Some level) where
    pub count_there : filled_of to (Some m) ≡ filled_count level m.block
    count_there = ap (filled_at m.block) at

    pub told_there : (block : Block) → filled_block level m.block ≡ Ok block → filled_in to (Some m) ≡ Ok (record { template = m.template; version = to.version; block = block })
    told_there block h = ap (filled_by to.version m) at ∙ ap (in_version to.version m) h

    pub lack_there : (path : List _) → filled_block level m.block ≡ Err path → filled_in to (Some m) ≡ Err (why.NoFill path)
    lack_there path h = ap (filled_by to.version m) at ∙ ap (in_version to.version m) h

-- the levels of a message of a checked schema are shallow
pub shallow_there : (schema : WireSchema) (i : ℕ) (level : Level) → IsChecked schema → slice_get schema.messages i ≡ Some level → groups_deep level ≤ most_groups
shallow_there schema i level checked at = all_at (λ level. groups_deep level ≤ most_groups) schema.messages i level checked.nesting at

-- ---- the whole

module _ (from to : WireSchema) (m : Msg) (way : HasWay from to) (lies : LiesInFrame from m) (checked : IsChecked from) (good : IsChecked to) where
  pub dropped_room : dropped from to m < 2 ^ 64
  dropped_room = omega (arith, dropped_fits from to way.0 way.1 checked good m lies.0 lies.1, lies.2)

  pub filled_room : (n : Msg) → Some n ≡ moved from to m → filled_of to (Some n) < 2 ^ 64
  filled_room n is = let same : filled_of to (Some n) ≡ filled from to m = ap (filled_of to) is in omega (arith, same, filled_fits from to way.0 way.1 checked good m lies.0 lies.1, lies.2)

-- what is answered of a moved message is the answer
pub answers_moved : (from to : WireSchema) (m n : Msg) (count : ℕ) (result : Result Regraded RegradeErr) → Some n ≡ moved from to m → count ≡ dropped from to m →
    Answers (record { told = filled_in to (Some n); dropped = count; filled = filled_of to (Some n) }) result → Regrades from to m result
answers_moved from to m n count result is same h =
    subst (λ o. Answers (record { told = filled_in to o; dropped = dropped from to m; filled = filled_of to o }) result) is
    (subst (λ k. Answers (record { told = filled_in to (Some n); dropped = k; filled = filled_of to (Some n) }) result) same h)

pub no_message : (from to : WireSchema) (m : Msg) → None ≡ moved from to m → regraded from to m ≡ Err why.NoTemplate
no_message from to m is = ap (filled_in to) (sym is)
