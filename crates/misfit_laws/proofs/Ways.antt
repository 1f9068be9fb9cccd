-- The path of a message's misfit leads to a part of its template, and lack of room has no path.
use Rattle.std.proofs.Common.{◌≡◌, ◌⊎◌, inl, inr, ℕ, suc, ◌+◌, Bool, true, false, true≢false, cond, List, [], ◌∷◌, length, Option, Some, None, Ok, Err, pos, refl, sym, ap, ◌∙◌, subst}
use Rattle.std.specs.Prelude.{⊤, ◌==◌, nat_le, map, is_some, slice_get, codes}
use Rattle.std.specs.Option.{option_and_then, IsSome}
use denote.Hole.Carrier as carrier
use Rattle.sbe_types.specs.declared.schema.Group as groups_of
use Rattle.sbe_types.specs.declared.schema.Level as levels
use Rattle.sbe_types.specs.declared.path.Step.{Step}
use Rattle.sbe_types.specs.declared.path.Step.TheVariants as way
use Rattle.sbe_types.specs.declared.kind.Member.{Member}
use Rattle.sbe_types.specs.declared.schema.DataField.{DataField}
use Rattle.sbe_types.specs.declared.schema.Group.{Group, Group', out-Group}
use Rattle.sbe_types.specs.declared.schema.Level.{Level, Level', out-Level, Row_of-Group, end_of-Group, more_of-Group, items-the_row-Group, items_shown-the_row-Group-0}
use Rattle.sbe_types.specs.declared.schema.WireSchema.{WireSchema}
use Rattle.sbe_types.specs.declared.message.Value.{Value}
use Rattle.sbe_types.specs.declared.message.DataVal.{DataVal}
use Rattle.sbe_types.specs.declared.message.DataVal.TheVariants as dataval
use Rattle.sbe_types.specs.declared.message.Block.{Block, out-Block}
use Rattle.sbe_types.specs.declared.message.GroupVal.{GroupVal}
use Rattle.sbe_types.specs.declared.message.Msg.{Msg}
use Rattle.sbe_types.specs.Numbers.{prim_width}
use Rattle.sbe_types.specs.Places.{members_end}
use Rattle.sbe_types.specs.Shown.{admits}
use Rattle.sbe_wire.specs.declared.codes.NCode.{NCode}
use Rattle.sbe_wire.specs.declared.codes.NCode.TheVariants as code
use Rattle.sbe_wire.specs.Canonical.{entries_in}
use Rattle.sbe_wire.specs.Named.{is_admitted}
use Rattle.sbe_wire.specs.Misfit.{Misfit, misfit_in, inside_step, or_else, unless, is_full, fields_misfit, bad_shape, parts_shape, each_misfit, entries_shape, block_shape, groups_shape, group_shape, Taken, ◌then◌, taken_in, refused, take_bytes, passed, block_taken, part_taken, parts_taken, each_taken, entries_taken, tail_taken, groups_taken, group_taken, refusal_of, root_taken, root_misfit, misfit}
use Rattle.schema_facts.specs.IsChecked.{IsChecked}
use Rattle.layout_tables.specs.Paths.{Inside, in_level, in_group, in_nothing, group_part, data_part, level_parts, parts_inside, path_from, IsPathOf}
use Rattle.writing_laws.specs.Writable.{IsWritableDimension, IsWritableLevel, AreWritableGroups, IsWritableGroup, IsWritable}
use Rattle.writing_laws.proofs.Refusals.{or_none, in_none}
use Rattle.writable_schemas.proofs.CheckedSchemas.{schema_writable}
use Rattle.misfit_laws.proofs.Leading.{Leads, LeadsBy, here, part_leads, entry_leads, Behind, first_is, next_are, fields_stand, groups_stand}
use Rattle.misfit_laws.proofs.ValueWays.{LeadsOn, fields_told}
use Rattle.misfit_laws.proofs.ShapeWays.{bad, block_told, data_behind, shape_of, looked_at}

-- ---- bytes that are counted, or a misfit

-- the path of a misfit leads on from the place, and that of lack of room is empty
abbrev pub Way : Inside → Misfit → Type 0
Way inside m = (is_full m.code ≡ true → m.path ≡ []) × Leads inside m.path

abbrev pub LeadsOnOrCounts : Inside → Taken → Type 0
LeadsOnOrCounts inside (Ok n) = ⊤
LeadsOnOrCounts inside (Err m) = Way inside m

never_full : (m : Misfit) → is_full m.code ≡ false → is_full m.code ≡ true → m.path ≡ []
never_full m h full = absurd (true≢false (sym full ∙ h))

went_then : (inside : Inside) (r : Taken) (f : ℕ → Taken) → LeadsOnOrCounts inside r → ((n : ℕ) → LeadsOnOrCounts inside (f n)) → LeadsOnOrCounts inside (r then f)
went_then inside (Ok n) f h g = g n
went_then inside (Err m) f h g = h

went_step : (inside : Inside) (step : Step) (below : Inside) (r : Taken) → LeadsBy inside step below → LeadsOnOrCounts below r → LeadsOnOrCounts inside (taken_in step r)
went_step inside step below (Ok n) leads h = tt
went_step inside step below (Err m) leads h = by (is_full m.code) refl
  where
    by : (t : Bool) → is_full m.code ≡ t → LeadsOnOrCounts inside (Err (cond t m (inside_step step m)))
    by true e = (h.0, here inside m.path (h.0 e))
    by false e = (never_full (inside_step step m) e, leads m.path h.1)

went_refused : (inside : Inside) (c : NCode) (n : ℕ) → LeadsOnOrCounts inside (refused c n)
went_refused inside c n = (λ full. refl, here inside [] refl)

went_where : (inside : Inside) (t : Bool) (r : Taken) (c : NCode) (n : ℕ) → LeadsOnOrCounts inside r → LeadsOnOrCounts inside (cond t r (refused c n))
went_where inside true r c n h = h
went_where inside false r c n h = went_refused inside c n

went_bytes : (inside : Inside) (limit before n : ℕ) → LeadsOnOrCounts inside (take_bytes limit before n)
went_bytes inside limit before n = went_where inside (nat_le (before + n) limit) (Ok (before + n)) code.Full (before + n) tt

went_passed : (inside : Inside) (n : ℕ) (m : Option Misfit) → LeadsOn inside m → LeadsOnOrCounts inside (passed n m)
went_passed inside n None h = tt
went_passed inside n (Some m) h = (never_full m h.0, h.1)

-- ---- blocks and data

pub went_block : (level : Level) (limit before n : ℕ) (values : List Value) → LeadsOnOrCounts (in_level level) (block_taken limit before n (out-Level level).fields values)
went_block level limit before n values =
    let fields = (out-Level level).fields in
    went_then (in_level level) (take_bytes limit before n) (λ after. passed after (fields_misfit 0 fields values)) (went_bytes (in_level level) limit before n)
    (λ after. went_passed (in_level level) after (fields_misfit 0 fields values) (fields_told (in_level level) 0 fields values (fields_stand level)))

went_data : (inside : Inside) (limit before : ℕ) (part : DataField) (v : DataVal) → LeadsOnOrCounts inside (part_taken limit before part v)
went_data inside limit before part dataval.Absent = tt
went_data inside limit before part (dataval.Bytes bytes) =
    went_where inside (admits part.length (pos (length bytes))) (take_bytes limit before (prim_width part.length.prim + length bytes)) code.Length (length bytes)
    (went_bytes inside limit before (prim_width part.length.prim + length bytes))

went_parts : (inside : Inside) (limit i before : ℕ) (ps : List DataField) (vs : List DataVal) → Behind (parts_inside inside) i (map data_part ps) → LeadsOnOrCounts inside (parts_taken limit i before ps vs)
went_parts inside limit i before [] vs stand = tt
went_parts inside limit i before (p ∷ ps) [] stand = tt
went_parts inside limit i before (p ∷ ps) (v ∷ vs) stand =
    let leads = part_leads inside i (data_part p) (first_is (parts_inside inside) i (data_part p) (map data_part ps) stand) in
    went_then inside (taken_in (way.Part i) (part_taken limit before p v)) (λ after. parts_taken limit (suc i) after ps vs)
    (went_step inside (way.Part i) in_nothing (part_taken limit before p v) leads (went_data in_nothing limit before p v))
    (λ after. went_parts inside limit (suc i) after ps vs (next_are (parts_inside inside) i (data_part p) (map data_part ps) stand))

-- ---- entries

went_each : (level : Level) (shape : Block → Option Misfit) (taken : ℕ → Block → Taken) → ((block : Block) (before : ℕ) → shape block ≡ None → LeadsOnOrCounts (in_level level) (taken before block)) →
    (i j before : ℕ) (blocks : List Block) → each_misfit shape j blocks ≡ None → LeadsOnOrCounts (in_group level) (each_taken taken i before blocks)
went_each level shape taken went i j before [] h = tt
went_each level shape taken went i j before (block ∷ blocks) h =
    let two = or_none (misfit_in (way.Entry j) (shape block)) (each_misfit shape (suc j) blocks) h in
    went_then (in_group level) (taken_in (way.Entry i) (taken before block)) (λ after. each_taken taken (suc i) after blocks)
    (went_step (in_group level) (way.Entry i) (in_level level) (taken before block) (entry_leads level i) (went block before (in_none (way.Entry j) (shape block) two.0)))
    (λ after. went_each level shape taken went (suc i) (suc j) after blocks two.1)

-- what comes only where a number of entries is admitted
went_admitted : (inside : Inside) (t : Bool) (r : Taken) (n : ℕ) → (t ≡ true → LeadsOnOrCounts inside r) → LeadsOnOrCounts inside (cond t r (refused code.Count n))
went_admitted inside true r n h = h refl
went_admitted inside false r n h = went_refused inside code.Count n

went_entries : (level : Level) (limit before block_length : ℕ) (dim : List Member) (shape : Block → Option Misfit) (taken : ℕ → Block → Taken) → IsWritableDimension dim block_length →
    ((block : Block) (at : ℕ) → shape block ≡ None → LeadsOnOrCounts (in_level level) (taken at block)) → (blocks : Option (List Block)) → entries_shape shape blocks ≡ None →
    LeadsOnOrCounts (in_group level) (entries_taken limit before dim taken blocks)
went_entries level limit before block_length dim shape taken writable went None h = tt
went_entries level limit before block_length dim shape taken writable went (Some blocks) h =
    went_admitted (in_group level) (is_admitted dim (codes "numInGroup") (length blocks)) (take_bytes limit before (members_end 0 dim) then (λ after. each_taken taken 0 after blocks)) (length blocks)
    (λ admitted.
    went_then (in_group level) (take_bytes limit before (members_end 0 dim)) (λ after. each_taken taken 0 after blocks) (went_bytes (in_group level) limit before (members_end 0 dim))
    (λ after. went_each level shape taken went 0 0 after blocks (looked_at (length blocks) (each_misfit shape 0 blocks) (writable.few (length blocks) admitted) h)))

-- ---- levels

module _ (version limit : ℕ) where
  mutual
    unfolding block_shape tail_taken levels.out-Level groups_of.out-Group carrier.out

    pub went_tail : (level : Level) → IsWritableLevel version level → (block : Block) (before : ℕ) → block_shape level block ≡ None → LeadsOnOrCounts (in_level level) (tail_taken limit before level block)
    went_tail (Level' name id semantic since block_length fields n groups parts) writable block before shape =
        let level = Level' name id semantic since block_length fields n groups parts in
        let gs = (out-Block block).groups in
        let ps = (out-Block block).parts in
        let rest = or_else (groups_shape (length fields) groups gs) (parts_shape (length fields + length gs) ps) in
        let right = shape_of (length fields) (length (out-Block block).fields) (length (items-the_row-Group _ groups)) (length gs) (length parts) (length ps) rest shape in
        let two = or_none (groups_shape (length fields) groups gs) (parts_shape (length fields + length gs) ps) right.1 in
        let same = items_shown-the_row-Group-0 n groups in
        went_then (in_level level) (groups_taken limit (length fields) before groups gs) (λ after. parts_taken limit (length fields + length gs) after parts ps)
        (went_groups (in_level level) (length fields) (length fields) before groups writable.2 gs (subst (λ row. Behind (level_parts level) (length fields) (map group_part row)) same (groups_stand level)) two.0)
        (λ after. went_parts (in_level level) limit (length fields + length gs) after parts ps (data_behind level (length gs) (ap length same ∙ right.0)))

    went_groups : (inside : Inside) (i j before : ℕ) {n : _} (row : Row_of-Group n) → AreWritableGroups version row → (vs : List GroupVal) → Behind (parts_inside inside) i (map group_part (items-the_row-Group _ row)) →
        groups_shape j row vs ≡ None → LeadsOnOrCounts inside (groups_taken limit i before row vs)
    went_groups inside i j before end_of-Group writable vs stand h = tt
    went_groups inside i j before (more_of-Group g rest) writable [] stand h = tt
    went_groups inside i j before (more_of-Group g rest) writable (v ∷ vs) stand h =
        let others = map group_part (items-the_row-Group _ rest) in
        let leads = part_leads inside i (group_part g) (first_is (parts_inside inside) i (group_part g) others stand) in
        let two = or_none (misfit_in (way.Part j) (group_shape g v)) (groups_shape (suc j) rest vs) h in
        went_then inside (taken_in (way.Part i) (group_taken limit before g v)) (λ after. groups_taken limit (suc i) after rest vs)
        (went_step inside (way.Part i) (in_group (out-Group g).level) (group_taken limit before g v) leads (went_group g writable.0 v before (in_none (way.Part j) (group_shape g v) two.0)))
        (λ after. went_groups inside (suc i) (suc j) after rest writable.1 vs (next_are (parts_inside inside) i (group_part g) others stand) two.1)

    went_group : (g : Group) → IsWritableGroup version g → (v : GroupVal) (before : ℕ) → group_shape g v ≡ None → LeadsOnOrCounts (in_group (out-Group g).level) (group_taken limit before g v)
    went_group (Group' dim level) writable v before h =
        went_entries level limit before (out-Level level).block_length dim (λ block. block_shape level block)
        (λ at entry. block_taken limit at (out-Level level).block_length (out-Level level).fields (out-Block entry).fields then (λ after. tail_taken limit after level entry)) writable.1
        (λ entry at right.
        went_then (in_level level) (block_taken limit at (out-Level level).block_length (out-Level level).fields (out-Block entry).fields) (λ after. tail_taken limit after level entry)
        (went_block level limit at (out-Level level).block_length (out-Block entry).fields)
        (λ after. went_tail level writable.2 entry after right))
        (entries_in v) h

-- ---- a message

module _ (schema : WireSchema) (m : Msg) (limit : ℕ) (why : Misfit) where
  is_why : (x : Misfit) → ◌≡◌ {A = Option Misfit} (Some x) (Some why) → x ≡ why
  is_why x h = cc

  err_why : (r : Taken) → refusal_of r ≡ Some why → r ≡ Err why
  err_why (Ok n) h = cc
  err_why (Err x) h = ap Err (is_why x h)

  -- the misfit is of the message's version or shape, or of its parts
  abbrev pub OfRoot : Level → Type 0
  OfRoot level = LeadsOn (in_level level) (Some why) ⊎ ((block_shape level m.block ≡ None) × (root_taken schema limit level m.block ≡ Err why))

  pub root_cases : (level : Level) → root_misfit schema m limit (Some level) ≡ Some why → OfRoot level
  root_cases level h = version (unless (m.version == schema.version) bad_shape) (told_version (m.version == schema.version)) h
    where
      told_version : (t : Bool) → LeadsOn (in_level level) (unless t bad_shape)
      told_version true = tt
      told_version false = bad (in_level level)

      told : (x : Misfit) → LeadsOn (in_level level) (Some x) → ◌≡◌ {A = Option Misfit} (Some x) (Some why) → OfRoot level
      told x h is = inl (subst (λ y. LeadsOn (in_level level) (Some y)) (is_why x is) h)

      shaped : (o : Option Misfit) → block_shape level m.block ≡ o → or_else o (refusal_of (root_taken schema limit level m.block)) ≡ Some why → OfRoot level
      shaped None shape is = inr (shape, err_why (root_taken schema limit level m.block) is)
      shaped (Some x) shape is = told x (subst (LeadsOn (in_level level)) shape (block_told level m.block)) is

      version : (o : Option Misfit) → LeadsOn (in_level level) o → or_else o (or_else (block_shape level m.block) (refusal_of (root_taken schema limit level m.block))) ≡ Some why → OfRoot level
      version None h is = shaped (block_shape level m.block) refl is
      version (Some x) h is = told x h is

  pub misfit_is : (o : Option Level) → slice_get schema.messages m.template ≡ o → misfit schema m limit ≡ Some why → root_misfit schema m limit o ≡ Some why
  unfolding misfit
  misfit_is o at h = sym (ap (root_misfit schema m limit) at) ∙ h

  -- without a template there is no path, and room is not asked for
  pub no_template : root_misfit schema m limit None ≡ Some why → (is_full why.code ≡ false) × (why.path ≡ [])
  no_template h = let same = is_why _ h in (ap (λ (x : Misfit). is_full x.code) (sym same), ap (λ (x : Misfit). x.path) (sym same))

  root_way : IsWritable schema → (level : Level) → slice_get schema.messages m.template ≡ Some level → root_misfit schema m limit (Some level) ≡ Some why → Way (in_level level) why
  root_way writable level at h = elim (root_cases level h) [
    | inl told ↦ (never_full why told.0, told.1)
    | inr parts ↦
        let size : ℕ = members_end 0 schema.header.members + (out-Level level).block_length in
        let went : LeadsOnOrCounts (in_level level) (root_taken schema limit level m.block) =
        went_then (in_level level) (block_taken limit 0 size (out-Level level).fields (out-Block m.block).fields) (λ after. tail_taken limit after level m.block)
        (went_block level limit 0 size (out-Block m.block).fields)
        (λ after. went_tail schema.version limit level (writable.levels m.template level at) m.block after parts.0) in
        subst (LeadsOnOrCounts (in_level level)) parts.1 went
  ]

  leads_path : (level : Level) (steps : List Step) → slice_get schema.messages m.template ≡ Some level → Leads (in_level level) steps → IsPathOf schema m.template steps
  leads_path level steps at leads = ap (λ o. is_some (option_and_then (λ l. path_from true (in_level l) steps) o)) at ∙ leads true

  pub misfit_way : IsChecked schema → IsSome (slice_get schema.messages m.template) → misfit schema m limit ≡ Some why → IsPathOf schema m.template why.path
  misfit_way checked there h = by (slice_get schema.messages m.template) refl there
    where
      by : (o : Option Level) → slice_get schema.messages m.template ≡ o → IsSome o → IsPathOf schema m.template why.path
      by None at some = cc
      by (Some level) at some = leads_path level why.path at (root_way (schema_writable schema checked) level at (misfit_is (Some level) at h)).1

  pub full_of_all : IsChecked schema → misfit schema m limit ≡ Some why → why.code ≡ code.Full → why.path ≡ []
  full_of_all checked h full = by (slice_get schema.messages m.template) refl
    where
      by : (o : Option Level) → slice_get schema.messages m.template ≡ o → why.path ≡ []
      by None at = (no_template (misfit_is None at h)).1
      by (Some level) at = (root_way (schema_writable schema checked) level at (misfit_is (Some level) at h)).0 (ap is_full full)
