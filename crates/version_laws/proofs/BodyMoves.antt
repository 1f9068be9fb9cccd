-- Bodies of schemas that stand to each other.
use Rattle.std.proofs.Common.{◌≡◌, ◌⊎◌, inl, inr, ℕ, ◌<◌, ◌≤◌, Bool, true, false, List, ◌++◌, length, Option, Some, None, refl, sym, ap, ◌∙◌, subst, arith, append_assoc}
use Rattle.std.specs.Prelude.{IsTrue, not, ◌||◌, min, nat_le, nat_lt, codes, slice_get}
use Rattle.std.proofs.lemmas.Bool.Decides.{nat_tests}
use Rattle.sbe_types.specs.declared.schema.Level.{Level, out-Level}
use Rattle.sbe_types.specs.declared.schema.WireSchema.{WireSchema}
use Rattle.sbe_types.specs.declared.message.Block.{Block, out-Block}
use Rattle.sbe_types.specs.declared.message.Msg.{Msg}
use Rattle.sbe_types.specs.Shown.{is_listed}
use Rattle.sbe_wire.specs.Named.{number_named}
use Rattle.sbe_wire.specs.Versions.{acting, is_known, mode_of}
use Rattle.sbe_wire.specs.Lays.{HeaderLays, BlockLays, TailLays, Lays}
use Rattle.sbe_wire.specs.Faults.{message_named}
use Rattle.sbe_wire.specs.Placed.{IsPlaced, IsPlacedLevel}
use Rattle.sbe_wire.proofs.Messages.{named_is, named_id}
use Rattle.version_laws.specs.Projected.{projected, lifted, projected_block, lifted_block, with_block, projected_from, lifted_from}
use Rattle.version_laws.specs.Plain.{Plain}
use Rattle.version_laws.proofs.Stands.{Lists, Listed, LevelStands, SchemaStands}
use Rattle.version_laws.proofs.KindMoves.{Keeps, flipped}
use Rattle.version_laws.proofs.BlockMoves.{moded, AlikeTo, DeadBeyond, lift_block, cut_block}
use Rattle.version_laws.proofs.NamedMoves.{numbers_are, ends_are}
use Rattle.version_laws.proofs.TailMoves.{fields_stand, placed_fields, lifted_fields, projected_fields, lift_tail}
use Rattle.version_laws.proofs.TailCuts.{cut_root}
use Rattle.version_laws.proofs.Tests.{listed_too, same_listed}

some_is : {A : Type 0} {x y : A} → ◌≡◌ {A = Option A} (Some x) (Some y) → x ≡ y
some_is h = cc

-- ---- versions

-- the older version isn't above the later one: then what old has is alive under both or neither, whatever the message's version
alike_at : (w o n : ℕ) → o ≤ n → AlikeTo o (min w o) (min w n)
alike_at w o n low since old = grind (arith, nat_tests)

dead_at : (w o n : ℕ) → w ≤ o → DeadBeyond o (min w n)
dead_at w o n low since old = grind (arith, nat_tests)

dead_equal : (w o n : ℕ) → o ≡ n → DeadBeyond o (min w n)
dead_equal w o n same since old = grind (arith, nat_tests)

unknown : (w o : ℕ) → o < w → nat_le w o ≡ false
unknown w o h = grind (arith, nat_tests)

known_is : (w o : ℕ) → w ≤ o → nat_le w o ≡ true
known_is w o h = grind (arith, nat_tests)

-- ---- names

or_no : (t : Bool) → (t || false) ≡ t
or_no true = refl
or_no false = refl

or_yes : (t : Bool) → (t || true) ≡ true
or_yes true = refl
or_yes false = refl

-- what the older one lists, the later one does
keeps_up : (more known known' : Bool) → known ≡ true → Keeps (Listed more) known known'
keeps_up more known known' k xs ys h n e =
    let there = listed_too more xs ys n h (sym (or_no (is_listed xs n)) ∙ ap (λ t. is_listed xs n || not t) (sym k) ∙ e) in
    ap (λ t. t || not known') there

-- in a message of a later version than old's, old shows every number
keeps_all : (R : Lists) (known known' : Bool) → known' ≡ false → Keeps R known known'
keeps_all R known known' k xs ys h n e = ap (λ t. is_listed ys n || not t) k ∙ or_yes (is_listed ys n)

-- at one version both list the same
keeps_same : (more known known' : Bool) → more ≡ false → known ≡ known' → Keeps (flipped (Listed more)) known known'
keeps_same more known known' m k xs ys h n e =
    let same : is_listed ys n ≡ is_listed xs n = same_listed ys xs n (subst (λ m. Listed m ys xs) m h) in
    ap (λ t. t || not known') same ∙ ap (λ t. is_listed xs n || not t) (sym k) ∙ e

-- ---- headers

header_moves : (old new : WireSchema) → SchemaStands old new → (block template version : ℕ) (b : List ℕ) → HeaderLays old block template version b → HeaderLays new block template version b
header_moves old new stands block template version b lies =
    let number : (name : List ℕ) → number_named old.order old.header.members name b ≡ number_named new.order new.header.members name b =
    λ name. ap (λ o. number_named o old.header.members name b) stands.order ∙ numbers_are (Listed false) new.order name old.header.members new.header.members stands.header b in
    record {
      wide = lies.wide ∙ ends_are (Listed false) 0 old.header.members 0 new.header.members stands.header refl;
      says_block = sym (number (codes "blockLength")) ∙ lies.says_block;
      says_template = sym (number (codes "templateId")) ∙ lies.says_template;
      says_schema = sym (number (codes "schemaId")) ∙ lies.says_schema ∙ stands.id;
      says_version = sym (number (codes "version")) ∙ lies.says_version;
    }

header_back : (old new : WireSchema) → SchemaStands old new → (block template version : ℕ) (b : List ℕ) → HeaderLays new block template version b → HeaderLays old block template version b
header_back old new stands block template version b lies =
    let number : (name : List ℕ) → number_named old.order old.header.members name b ≡ number_named new.order new.header.members name b =
    λ name. ap (λ o. number_named o old.header.members name b) stands.order ∙ numbers_are (Listed false) new.order name old.header.members new.header.members stands.header b in
    record {
      wide = lies.wide ∙ sym (ends_are (Listed false) 0 old.header.members 0 new.header.members stands.header refl);
      says_block = number (codes "blockLength") ∙ lies.says_block;
      says_template = number (codes "templateId") ∙ lies.says_template;
      says_schema = number (codes "schemaId") ∙ lies.says_schema ∙ sym stands.id;
      says_version = number (codes "version") ∙ lies.says_version;
    }

-- ---- what lies under old lies, lifted, under new

pub lifts : (old new : WireSchema) → SchemaStands old new → (m : Msg) (body : List ℕ) → m.version ≤ old.version → Lays old m body →
    (n : Msg) × (lifted old new m ≡ Some n) × Lays new n body
lifts old new stands m body early lies =
    let level = lies.0 in
    let there = stands.messages m.template level lies.5 in
    let found = there.0 in
    let n : Msg = record { template = found.0; version = m.version; block = lifted_block old.version found.1 m.block } in
    let is : lifted old new m ≡ Some n =
    ap (lifted_from old new m) lies.5
    ∙ ap (λ o. with_block m o (λ l. lifted_block old.version l m.block)) there.1 in
    let R = Listed (nat_lt old.version new.version) in
    let known_old : is_known old m.version ≡ true = known_is m.version old.version early in
    let known_new : is_known new m.version ≡ true = known_is m.version new.version (omega (arith, early, stands.version)) in
    let keeps : Keeps R (is_known old m.version) (is_known new m.version) = keeps_up _ _ _ known_old in
    let alike : AlikeTo old.version (acting old m.version) (acting new m.version) = alike_at m.version old.version new.version stands.version in
    let dead : DeadBeyond old.version (acting new m.version) = dead_at m.version old.version new.version early in
    let header : HeaderLays new (length lies.2) (out-Level found.1).id m.version lies.1 =
    subst (λ i. HeaderLays new (length lies.2) i m.version lies.1) (sym (named_id 0 (out-Level level).id new.messages found there.1))
    (header_moves old new stands (length lies.2) (out-Level level).id m.version lies.1 lies.7) in
    let block : BlockLays (mode_of new m.version) (out-Level found.1).fields (out-Block n.block).fields lies.2 =
    subst (λ vs. BlockLays (mode_of new m.version) (out-Level found.1).fields vs lies.2) (sym (lifted_fields old.version found.1 m.block))
    (lift_block new.order R _ _ old.version _ _ alike keeps dead (out-Level level).fields (out-Level found.1).fields (fields_stand R old.version level found.1 there.2) (out-Block m.block).fields lies.2
    (subst (λ o. BlockLays (moded o (is_known old m.version) (acting old m.version)) (out-Level level).fields (out-Block m.block).fields lies.2) stands.order lies.8)) in
    let tail : TailLays (mode_of new m.version) found.1 n.block lies.3 =
    lift_tail new.order R _ _ old.version _ _ alike keeps dead level found.1 there.2 m.block lies.3
    (subst (λ o. TailLays (moded o (is_known old m.version) (acting old m.version)) level m.block lies.3) stands.order lies.9) in
    (n, is, (found.1, lies.1, lies.2, lies.3, lies.4, named_is new (out-Level level).id found there.1, lies.6, header, block, tail, λ k. lies.10 known_old))

no_way : ◌≡◌ {A = Bool} false true → ⊥
no_way k = cc

not_less : (o n : ℕ) → o ≡ n → nat_lt o n ≡ false
not_less o n e = grind (arith, nat_tests)

known_back : (old new : WireSchema) (w : ℕ) → old.version ≤ new.version → nat_le w old.version ≡ true → nat_le w new.version ≡ true
known_back old new w low k = grind (arith, nat_tests)

pieces : (body header block tail rest front back : List ℕ) → body ≡ header ++ block ++ tail ++ rest → tail ≡ front ++ back → body ≡ header ++ block ++ front ++ (back ++ rest)
pieces body header block tail rest front back h k =
    h ∙ ap (λ t. header ++ block ++ t ++ rest) k ∙ ap (λ t. t ++ rest) (sym (append_assoc (header ++ block) front back)) ∙ append_assoc ((header ++ block) ++ front) back rest

abbrev projected_as : WireSchema → Msg → Level → ℕ → Msg
projected_as old m level template = record { template = template; version = m.version; block = projected_block old.version level m.block }

-- ---- what lies under new lies, projected, under old

keeps_back : (old new : WireSchema) (w : ℕ) → (old.version < w) ⊎ (old.version ≡ new.version) → Keeps (flipped (Listed (nat_lt old.version new.version))) (is_known new w) (is_known old w)
keeps_back old new w late = elim late [
  | inl e ↦ keeps_all _ _ _ (unknown w old.version e)
  | inr e ↦ keeps_same _ _ _ (not_less old.version new.version e) (ap (nat_le w) (sym e))
]

-- where old knows all parts of the message, no addition is alive
dead_back : (old new : WireSchema) (w : ℕ) → (old.version < w) ⊎ (old.version ≡ new.version) → IsTrue (is_known old w) → DeadBeyond old.version (acting new w)
dead_back old new w late known = elim late [
  | inl e ↦ absurd (no_way (sym (unknown w old.version e) ∙ known))
  | inr e ↦ dead_equal w old.version new.version e
]

projects_as : (old new : WireSchema) → SchemaStands old new → IsPlaced new → (m : Msg) (body : List ℕ) → (old.version < m.version) ⊎ (old.version ≡ new.version) → Plain old new m → (lies : Lays new m body) →
    (t : ℕ × Level) → message_named 0 (out-Level lies.0).id old.messages ≡ Some t → Lays old (projected_as old m lies.0 t.0) body
projects_as old new stands placed m body late plain lies t found =
    let level = lies.0 in
    let R = Listed (nat_lt old.version new.version) in
    let old_at : slice_get old.messages t.0 ≡ Some t.1 = named_is old (out-Level level).id t found in
    let id : (out-Level t.1).id ≡ (out-Level level).id = named_id 0 (out-Level level).id old.messages t found in
    let there = stands.messages t.0 t.1 old_at in
    let same : there.0 ≡ (m.template, level) = some_is (sym there.1 ∙ ap (λ i. message_named 0 i new.messages) id ∙ placed.ids m.template level lies.5) in
    let extends : LevelStands R old.version t.1 level = subst (λ (m : ℕ × Level). LevelStands R old.version t.1 m.1) same there.2 in
    let n : Msg = projected_as old m level t.0 in
    let alike : AlikeTo old.version (acting old m.version) (acting new m.version) = alike_at m.version old.version new.version stands.version in
    let keeps = keeps_back old new m.version late in
    let level_placed : IsPlacedLevel level = placed.levels m.template level lies.5 in
    let header : HeaderLays old (length lies.2) (out-Level t.1).id m.version lies.1 =
    subst (λ i. HeaderLays old (length lies.2) i m.version lies.1) (sym id) (header_back old new stands (length lies.2) (out-Level level).id m.version lies.1 lies.7) in
    let block : BlockLays (mode_of old m.version) (out-Level t.1).fields (out-Block n.block).fields lies.2 =
    subst (λ vs. BlockLays (mode_of old m.version) (out-Level t.1).fields vs lies.2) (sym (projected_fields old.version level m.block))
    (cut_block old.order R _ _ old.version _ _ alike keeps (out-Level t.1).fields (out-Level level).fields (fields_stand R old.version t.1 level extends) (placed_fields level level_placed) (out-Block m.block).fields lies.2
    (subst (λ o. BlockLays (moded o (is_known new m.version) (acting new m.version)) (out-Level level).fields (out-Block m.block).fields lies.2) (sym stands.order) lies.8)) in
    let cut = cut_root old.order R _ _ old.version _ _ alike keeps t.1 level extends level_placed m.block lies.3 (plain level lies.5)
    (subst (λ o. TailLays (moded o (is_known new m.version) (acting new m.version)) level m.block lies.3) (sym stands.order) lies.9) in (
      t.1,
      lies.1,
      lies.2,
      cut.0,
      cut.1 ++ lies.4,
      old_at,
      pieces body lies.1 lies.2 lies.3 lies.4 cut.0 cut.1 lies.6 cut.2,
      header,
      block,
      cut.3,
      λ k. ap (λ r. r ++ lies.4) (cut.4 (dead_back old new m.version late k)) ∙ lies.10 (known_back old new m.version stands.version k),
    )

pub projects : (old new : WireSchema) → SchemaStands old new → IsPlaced new → (m n : Msg) (body : List ℕ) → (old.version < m.version) ⊎ (old.version ≡ new.version) → Plain old new m → Lays new m body →
    projected old new m ≡ Some n → Lays old n body
projects old new stands placed m n body late plain lies is = pick (message_named 0 (out-Level lies.0).id old.messages) refl (sym named ∙ is)
  where
    named : projected old new m ≡ with_block m (message_named 0 (out-Level lies.0).id old.messages) (λ l. projected_block old.version lies.0 m.block)
    named = ap (projected_from old m) lies.5

    pick : (o : Option (ℕ × Level)) → message_named 0 (out-Level lies.0).id old.messages ≡ o → with_block m o (λ l. projected_block old.version lies.0 m.block) ≡ Some n → Lays old n body
    pick None e k = cc
    pick (Some t) e k = subst (λ n. Lays old n body) (some_is k) (projects_as old new stands placed m body late plain lies t e)

pub has_template : (m : Msg) (o : Option (ℕ × Level)) (block : Level → Block) (n : Msg) → with_block m o block ≡ Some n → (t : ℕ × Level) × (o ≡ Some t)
has_template m None block n h = cc
has_template m (Some t) block n h = (t, refl)
