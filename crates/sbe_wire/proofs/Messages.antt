-- The message that is read is the one that lies in the body, and the fault that is told is the first one.
use Rattle.std.proofs.Common.{◌≡◌, ◌≢◌, ◌⊎◌, inl, inr, ℕ, suc, ◌+◌, ◌≤◌, ◌<◌, Bool, true, false, cond, List, [], ◌∷◌, ◌++◌, length, take, drop, Option, Some, None, Result, Ok, Err, refl, sym, ap, ◌∙◌, subst, arith, append_assoc, length-append, length-take}
use Rattle.std.proofs.Math.Seq.{take-append_seam, drop-append_seam}
use Rattle.std.proofs.lemmas.List.{take-append-drop}
use Rattle.std.proofs.lemmas.Bool.Decides.{nat_tests}
use Rattle.std.specs.Prelude.{IsTrue, ◌&&◌, ◌==◌, nat_lt, pos, codes, slice_get}
use Rattle.sbe_types.specs.declared.kind.Member.{Member}
use Rattle.sbe_types.specs.declared.schema.Level.{Level, out-Level}
use Rattle.sbe_types.specs.declared.schema.WireSchema.{WireSchema}
use Rattle.sbe_types.specs.declared.message.Block.{Block, out-Block}
use Rattle.sbe_types.specs.declared.message.Msg.{Msg}
use Rattle.sbe_types.specs.Places.{members_end}
use Rattle.sbe_wire.specs.declared.codes.FCode.TheVariants as code
use Rattle.sbe_wire.specs.Versions.{is_known, mode_of, form_of}
use Rattle.sbe_wire.specs.Named.{number_named, place_named}
use Rattle.sbe_wire.specs.Lays.{HeaderLays, BlockLays, EntryLays, TailLays, Lays}
use Rattle.sbe_wire.specs.Faults.{Fault, fault_at, FaultAfter, EntryFault, TailFault, message_named, Heading, floor_in, HeadingLays, HeadingRefused, HeadingFault, HeadingGood, TrailingFault, FirstFault}
use Rattle.sbe_wire.specs.Reading.{entry_read, tail_read, header_bytes, message_check, heading_of, heading_read, rest_check, headed, root_read, message_of}
use Rattle.sbe_wire.specs.Agree.{Judges, Reads}
use Rattle.sbe_wire.specs.Placed.{IsPlaced, IsPlacedLevel}
use Rattle.sbe_wire.proofs.Combine.{ok_is, err_is, empty_is, restated, After, All, Exactly, Fewer, so_many_or, JudgedOf, JudgedFault, computed, at_end}
use Rattle.sbe_wire.proofs.Judging.{never, rejudged}
use Rattle.sbe_wire.proofs.Blocks.{entry_reads}
use Rattle.sbe_wire.proofs.Levels.{placed_fields, ignores, tail_reads}

some_is : {A : Type 0} {x y : A} → ◌≡◌ {A = Option A} (Some x) (Some y) → x ≡ y
some_is h = cc

-- ---- so many bytes of a header

abbrev header_fault : List ℕ → Fault
header_fault b = fault_at code.ShortHeader 0 (pos (length b))

header_reads : (n : ℕ) → Reads (header_bytes n) (Exactly n) (Fewer header_fault n)
header_reads n = so_many_or header_fault n

-- ---- the message of an id

pub named_id : (i id : ℕ) (levels : List Level) (m : ℕ × Level) → message_named i id levels ≡ Some m → (out-Level m.1).id ≡ id
named_id i id [] m h = cc
named_id i id (l ∷ ls) m h = pick ((out-Level l).id == id) refl h (λ k. named_id (suc i) id ls m k)
  where
    pick : (t : Bool) → ((out-Level l).id == id) ≡ t → cond t (Some (i, l)) (message_named (suc i) id ls) ≡ Some m → (message_named (suc i) id ls ≡ Some m → (out-Level m.1).id ≡ id) → (out-Level m.1).id ≡ id
    pick true e k more = ap (λ p. (out-Level p.1).id) (sym (some_is k)) ∙ grind (arith, nat_tests)
    pick false e k more = more k

named_at : (i id : ℕ) (levels : List Level) (m : ℕ × Level) → message_named i id levels ≡ Some m → (k : ℕ) × (m.0 ≡ i + k) × (slice_get levels k ≡ Some m.1)
named_at i id [] m h = cc
named_at i id (l ∷ ls) m h = pick ((out-Level l).id == id) h (λ k. named_at (suc i) id ls m k)
  where
    pick : (t : Bool) → cond t (Some (i, l)) (message_named (suc i) id ls) ≡ Some m → (message_named (suc i) id ls ≡ Some m → (k : ℕ) × (m.0 ≡ suc i + k) × (slice_get ls k ≡ Some m.1)) → (k : ℕ) × (m.0 ≡ i + k) × (slice_get (l ∷ ls) k ≡ Some m.1)
    pick true k more = (0, omega (arith, ap (λ p. p.0) (sym (some_is k))), ap (λ p. Some p.1) (some_is k))
    pick false k more = let found = more k in (suc found.0, omega (arith, found.1), found.2)

pub named_is : (schema : WireSchema) (id : ℕ) (m : ℕ × Level) → message_named 0 id schema.messages ≡ Some m → slice_get schema.messages m.0 ≡ Some m.1
named_is schema id m h =
    let found = named_at 0 id schema.messages m h in
    ap (slice_get schema.messages) (omega (arith, found.1)) ∙ found.2

module _ (schema : WireSchema) where
  abbrev members : List Member
  members = schema.header.members

  abbrev wide : ℕ
  wide = members_end 0 members

  abbrev says : List ℕ → List ℕ → ℕ
  says name head = number_named schema.order members name head

  abbrev found_in : List ℕ → Option (ℕ × Level)
  found_in head = message_named 0 (says (codes "templateId") head) schema.messages

  abbrev heading : List ℕ → ℕ × Level → Heading
  heading head m = record { block = says (codes "blockLength") head; template = m.0; level = m.1; version = says (codes "version") head }

  abbrev floored : Bool → Heading → Result Heading Fault
  floored u h = cond u (Err (fault_at code.BlockShort (place_named members (codes "blockLength")) (pos h.block))) (Ok h)

  abbrev named : Bool → Option (ℕ × Level) → List ℕ → Result Heading Fault
  named t o head = cond t (message_check schema head (says (codes "templateId") head) o) (Err (fault_at code.SchemaId (place_named members (codes "schemaId")) (pos (says (codes "schemaId") head))))

  heading_lays : (head : List ℕ) (m : ℕ × Level) → length head ≡ wide → says (codes "schemaId") head ≡ schema.id → found_in head ≡ Some m → HeadingLays schema (heading head m) head
  heading_lays head m long same found =
      let id : (out-Level m.1).id ≡ says (codes "templateId") head = named_id 0 (says (codes "templateId") head) schema.messages m found in
      record {
        numbers = record { wide = long; says_block = refl; says_template = sym id; says_schema = same; says_version = refl };
        message = ap (λ i. message_named 0 i schema.messages) id ∙ found;
      }

  floored_ok : (h g : Heading) (u : Bool) → nat_lt h.block (floor_in schema h) ≡ u → floored u h ≡ Ok g → (h ≡ g) × (floor_in schema h ≤ h.block)
  floored_ok h g true e k = cc
  floored_ok h g false e k = (ok_is k, grind (arith, nat_tests))

  floored_err : (h : Heading) (f : Fault) (u : Bool) → nat_lt h.block (floor_in schema h) ≡ u → floored u h ≡ Err f → (h.block < floor_in schema h) × (f ≡ fault_at code.BlockShort (place_named members (codes "blockLength")) (pos h.block))
  floored_err h f true e k = (grind (arith, nat_tests), sym (err_is k))
  floored_err h f false e k = absurd (never k)

  heading_sound : (head : List ℕ) (g : Heading) (t : Bool) (o : Option (ℕ × Level)) → length head ≡ wide → (says (codes "schemaId") head == schema.id) ≡ t → found_in head ≡ o → named t o head ≡ Ok g → HeadingGood schema g head
  heading_sound head g false o long e d h = cc
  heading_sound head g true None long e d h = cc
  heading_sound head g true (Some m) long e d h =
      let same : says (codes "schemaId") head ≡ schema.id = grind (arith, nat_tests) in
      let ok = floored_ok (heading head m) g (nat_lt (heading head m).block (floor_in schema (heading head m))) refl h in
      subst (λ g. HeadingGood schema g head) ok.0 (heading_lays head m long same d, ok.1)

  heading_complete : (head : List ℕ) (g : Heading) → HeadingGood schema g head → heading_of schema head ≡ Ok g
  heading_complete head g h =
      let numbers = h.0.numbers in
      let enough : floor_in schema g ≤ g.block = h.1 in
      let t_is : (says (codes "schemaId") head == schema.id) ≡ true = let same : says (codes "schemaId") head ≡ schema.id = numbers.says_schema in grind (arith, nat_tests) in
      let o_is : found_in head ≡ Some (g.template, g.level) = ap (λ i. message_named 0 i schema.messages) numbers.says_template ∙ h.0.message in
      let is : heading head (g.template, g.level) ≡ g =
      ap (λ (k : ℕ). let it : Heading = record { block = k; template = g.template; level = g.level; version = says (codes "version") head } in it) numbers.says_block
      ∙ ap (λ (v : ℕ). let it : Heading = record { block = g.block; template = g.template; level = g.level; version = v } in it) numbers.says_version in
      let u_is : nat_lt g.block (floor_in schema g) ≡ false = grind (arith, nat_tests) in
      ap (λ t. named t (found_in head) head) t_is ∙ ap (λ o. named true o head) o_is
      ∙ ap (λ k. floored (nat_lt k.block (floor_in schema k)) k) is ∙ ap (λ u. floored u g) u_is

  heading_told : (head : List ℕ) (f : Fault) (t : Bool) (o : Option (ℕ × Level)) → length head ≡ wide → (says (codes "schemaId") head == schema.id) ≡ t → found_in head ≡ o → named t o head ≡ Err f → HeadingRefused schema f head
  heading_told head f false o long e d h = inl (other, sym (err_is h))
    where
      other : says (codes "schemaId") head ≢ schema.id
      other same = absurd (omega (arith, same, differ))
        where
          differ : says (codes "schemaId") head ≢ schema.id
          differ = grind (arith, nat_tests)
  heading_told head f true None long e d h = let same : says (codes "schemaId") head ≡ schema.id = grind (arith, nat_tests) in inr (inl (same, d, sym (err_is h)))
  heading_told head f true (Some m) long e d h =
      let same : says (codes "schemaId") head ≡ schema.id = grind (arith, nat_tests) in
      let err = floored_err (heading head m) f (nat_lt (heading head m).block (floor_in schema (heading head m))) refl h in
      inr (inr (heading head m, heading_lays head m long same d, err.0, err.1))

  heading_only : (head : List ℕ) (f : Fault) → HeadingRefused schema f head → heading_of schema head ≡ Err f
  heading_only head f h = elim h [
    | inl e ↦
        let other : says (codes "schemaId") head ≢ schema.id = e.0 in
        let t_is : (says (codes "schemaId") head == schema.id) ≡ false = grind (arith, nat_tests) in
        ap (λ t. named t (found_in head) head) t_is ∙ ap Err (sym e.1)
    | inr e ↦ elim e [
      | inl d ↦
          let same : says (codes "schemaId") head ≡ schema.id = d.0 in
          let t_is : (says (codes "schemaId") head == schema.id) ≡ true = grind (arith, nat_tests) in
          ap (λ t. named t (found_in head) head) t_is ∙ ap (λ o. named true o head) d.1 ∙ ap Err (sym d.2)
      | inr d ↦ low d.0 d.1 d.2 d.3
    ]
  ]
    where
      low : (g : Heading) → HeadingLays schema g head → g.block < floor_in schema g → f ≡ fault_at code.BlockShort (place_named members (codes "blockLength")) (pos g.block) → heading_of schema head ≡ Err f
      low g lays short is =
          let numbers = lays.numbers in
          let same : says (codes "schemaId") head ≡ schema.id = numbers.says_schema in
          let t_is : (says (codes "schemaId") head == schema.id) ≡ true = grind (arith, nat_tests) in
          let o_is : found_in head ≡ Some (g.template, g.level) = ap (λ i. message_named 0 i schema.messages) numbers.says_template ∙ lays.message in
          let whole : heading head (g.template, g.level) ≡ g =
          ap (λ (k : ℕ). let it : Heading = record { block = k; template = g.template; level = g.level; version = says (codes "version") head } in it) numbers.says_block
          ∙ ap (λ (v : ℕ). let it : Heading = record { block = g.block; template = g.template; level = g.level; version = v } in it) numbers.says_version in
          let u_is : nat_lt g.block (floor_in schema g) ≡ true = grind (arith, nat_tests) in
          ap (λ t. named t (found_in head) head) t_is ∙ ap (λ o. named true o head) o_is
          ∙ ap (λ k. floored (nat_lt k.block (floor_in schema k)) k) whole ∙ ap (λ u. floored u g) u_is ∙ ap Err (sym is)

  heading_judges : Judges (λ head. length head ≡ wide) (heading_of schema) (HeadingGood schema) (λ f head. HeadingRefused schema f head)
  heading_judges = record {
    sound = λ head g long h. heading_sound head g (says (codes "schemaId") head == schema.id) (found_in head) long refl refl h;
    complete = heading_complete;
    told = λ head f long h. heading_told head f (says (codes "schemaId") head == schema.id) (found_in head) long refl refl h;
    only = heading_only;
  }

  fault_to : (f : Fault) (b : List ℕ) → JudgedFault (Fewer header_fault wide) (Exactly wide) (λ g head. HeadingRefused schema g head) f b → HeadingFault schema f b
  fault_to f b h = elim h [
    | inl e ↦ inl e
    | inr e ↦
        let front : e.1 ≡ take wide b = sym (ap (take wide) e.3 ∙ ap (λ n. take n (e.1 ++ e.2)) (sym e.4.0) ∙ take-append_seam e.1 e.2) in
        inr (omega (arith, ap length e.3, length-append e.1 e.2, e.4.0), subst (HeadingRefused schema f) (e.4.1 ∙ front) e.5)
  ]

  fault_from : (f : Fault) (b : List ℕ) → HeadingFault schema f b → JudgedFault (Fewer header_fault wide) (Exactly wide) (λ g head. HeadingRefused schema g head) f b
  fault_from f b h = elim h [
    | inl e ↦ inl e
    | inr e ↦
        let long : wide ≤ length b = e.0 in
        inr (take wide b, take wide b, drop wide b, sym (take-append-drop wide b), (simp length-take (omega arith), refl), e.1)
  ]

  heading_reads : Reads (heading_read schema) (HeadingGood schema) (HeadingFault schema)
  heading_reads =
      restated (heading_read schema) (JudgedOf (Exactly wide) (HeadingGood schema)) (HeadingGood schema)
      (JudgedFault (Fewer header_fault wide) (Exactly wide) (λ g head. HeadingRefused schema g head)) (HeadingFault schema)
      (λ g b h. subst (λ a. HeadingGood schema g a) h.1.1 h.2) (λ g b h. (b, (h.0.numbers.wide, refl), h))
      fault_to fault_from
      (computed (header_bytes wide) (heading_of schema) (Exactly wide) (Fewer header_fault wide) (λ head. length head ≡ wide) (HeadingGood schema) (λ g head. HeadingRefused schema g head)
      (header_reads wide) (λ x b h. ap length h.1 ∙ h.0) heading_judges)

  -- ---- what is left

  abbrev RestIs : Bool → Msg → Msg → List ℕ → Type 0
  RestIs known m n rest = (n ≡ m) × (IsTrue known → rest ≡ [])

  rest_ok : (known : Bool) (m n : Msg) (rest : List ℕ) (u : Bool) → nat_lt 0 (length rest) ≡ u → cond (known && u) (Err (fault_at code.Trailing 0 (pos (length rest)))) (Ok m) ≡ Ok n → RestIs known m n rest
  rest_ok true m n rest true e h = cc
  rest_ok true m n rest false e h = (sym (ok_is h), λ k. empty_is rest (grind (arith, nat_tests)))
  rest_ok false m n rest u e h = (sym (ok_is h), λ k. absurd (untrue k))
    where
      untrue : IsTrue false → ⊥
      untrue k = cc

  rest_err : (known : Bool) (m : Msg) (f : Fault) (rest : List ℕ) (u : Bool) → nat_lt 0 (length rest) ≡ u → cond (known && u) (Err (fault_at code.Trailing 0 (pos (length rest)))) (Ok m) ≡ Err f → TrailingFault known f rest
  rest_err true m f rest true e h = (refl, grind (arith, nat_tests), sym (err_is h))
  rest_err true m f rest false e h = absurd (never h)
  rest_err false m f rest u e h = absurd (never h)

  rest_complete : (known : Bool) (m n : Msg) (rest : List ℕ) → RestIs known m n rest → rest_check known m rest ≡ Ok n
  rest_complete true m n rest h = ap (λ r. rest_check true m r) (h.1 refl) ∙ ap Ok (sym h.0)
  rest_complete false m n rest h = ap Ok (sym h.0)

  rest_only : (known : Bool) (m : Msg) (f : Fault) (rest : List ℕ) → TrailingFault known f rest → rest_check known m rest ≡ Err f
  rest_only true m f rest h =
      let some : 0 < length rest = h.1 in
      let u_is : nat_lt 0 (length rest) ≡ true = grind (arith, nat_tests) in
      ap (λ u. cond (true && u) (Err (fault_at code.Trailing 0 (pos (length rest)))) (Ok m)) u_is ∙ ap Err (sym h.2)
  rest_only false m f rest h = absurd (untrue h.0)
    where
      untrue : IsTrue false → ⊥
      untrue k = cc

  rest_judges : (known : Bool) (m : Msg) → Judges All (rest_check known m) (RestIs known m) (TrailingFault known)
  rest_judges known m = record {
    sound = λ rest n g h. rest_ok known m n rest (nat_lt 0 (length rest)) refl h;
    complete = λ rest n h. rest_complete known m n rest h;
    told = λ rest f g h. rest_err known m f rest (nat_lt 0 (length rest)) refl h;
    only = λ rest f h. rest_only known m f rest h;
  }

  -- ---- the root, and the whole body

  abbrev Root : Heading → Block → List ℕ → Type 0
  Root h = EntryLays (λ entry e. TailLays (mode_of schema h.version) h.level entry e) (form_of (mode_of schema h.version) h.level) h.block

  abbrev RootBad : Heading → Fault → List ℕ → Type 0
  RootBad h = EntryFault (TailFault (mode_of schema h.version) h.level) (form_of (mode_of schema h.version) h.level) h.block

  abbrev Ends : Heading → Block → Msg → List ℕ → Type 0
  Ends h block = RestIs (is_known schema h.version) (headed h block)

  placed_level : IsPlaced schema → (h : Heading) (head : List ℕ) → HeadingGood schema h head → IsPlacedLevel h.level
  placed_level placed h head good = placed.levels h.template h.level (named_is schema (out-Level h.level).id (h.template, h.level) good.0.message)

  root_judges : IsPlaced schema → (h : Heading) (head : List ℕ) → HeadingGood schema h head →
      Judges All (root_read schema h) (After (Root h) (Ends h)) (FaultAfter (RootBad h) (Root h) (λ block. TrailingFault (is_known schema h.version)))
  root_judges placed h head good =
      let mode = mode_of schema h.version in
      let level = placed_level placed h head good in
      at_end (entry_read (tail_read mode h.level) mode (out-Level h.level).fields h.block) (λ block. rest_check mode.known (headed h block))
      (Root h) (RootBad h) (Ends h) (λ block. TrailingFault mode.known)
      (entry_reads mode (tail_read mode h.level) (λ entry e. TailLays mode h.level entry e) (TailFault mode h.level) (out-Level h.level).fields h.block
      (ignores mode h.level) good.1 (placed_fields h.level level) (tail_reads mode h.level level))
      (λ block front lies. rest_judges mode.known (headed h block))

  abbrev Whole : Msg → List ℕ → Type 0
  Whole = After (HeadingGood schema) (λ h. After (Root h) (Ends h))

  pieces : (b header back block tail rest entry : List ℕ) → b ≡ header ++ back → back ≡ entry ++ rest → entry ≡ block ++ tail → b ≡ header ++ block ++ tail ++ rest
  pieces b header back block tail rest entry h k e =
      h ∙ ap (λ r. header ++ r) (k ∙ ap (λ r. r ++ rest) e ∙ append_assoc block tail rest)
      ∙ sym (append_assoc (header ++ block) tail rest ∙ append_assoc header block (tail ++ rest))

  lays_to : (m : Msg) (body : List ℕ) → Whole m body → Lays schema m body
  lays_to m body h =
      let heading = h.0 in
      let root = h.5 in
      let entry = root.0 in
      let k = heading.block in
      let long : k ≤ length root.1 = root.4.0 in
      let wide : length (take k root.1) ≡ k = simp length-take (omega arith) in
      let numbers = h.4.0.numbers in
      let header_lays : HeaderLays schema (length (take k root.1)) (out-Level heading.level).id heading.version h.1 = subst (λ n. HeaderLays schema n (out-Level heading.level).id heading.version h.1) (sym wide) numbers in
      let whole : Lays schema (headed heading entry) body = (
        heading.level,
        h.1,
        take k root.1,
        drop k root.1,
        root.2,
        named_is schema (out-Level heading.level).id (heading.template, heading.level) h.4.0.message,
        pieces body h.1 h.2 (take k root.1) (drop k root.1) root.2 root.1 h.3 root.3 (sym (take-append-drop k root.1)),
        header_lays,
        root.4.1,
        root.4.2,
        root.5.1,
      ) in
      subst (λ m. Lays schema m body) (sym root.5.0) whole

  lays_from : IsPlaced schema → (m : Msg) (body : List ℕ) → Lays schema m body → Whole m body
  lays_from placed m body h =
      let level = h.0 in
      let header = h.1 in
      let block = h.2 in
      let tail = h.3 in
      let rest = h.4 in
      let heading : Heading = record { block = length block; template = m.template; level = level; version = m.version } in
      let good : HeadingGood schema heading header = (record { numbers = h.7; message = placed.ids m.template level h.5 }, h.8.0) in
      let front : take (length block) (block ++ tail) ≡ block = take-append_seam block tail in
      let back : drop (length block) (block ++ tail) ≡ tail = drop-append_seam block tail in
      let root : Root heading m.block (block ++ tail) = (
        omega (arith, length-append block tail),
        subst (BlockLays (mode_of schema m.version) (out-Level level).fields (out-Block m.block).fields) (sym front) h.8,
        subst (TailLays (mode_of schema m.version) level m.block) (sym back) h.9,
      ) in (
        heading,
        header,
        (block ++ tail) ++ rest,
        h.6 ∙ append_assoc (header ++ block) tail rest ∙ append_assoc header block (tail ++ rest) ∙ ap (λ r. header ++ r) (sym (append_assoc block tail rest)),
        good,
        (m.block, block ++ tail, rest, refl, root, (refl, h.10)),
      )

  pub message_judges : IsPlaced schema → Judges All (message_of schema) (Lays schema) (FirstFault schema)
  unfolding message_of
  message_judges placed =
      rejudged All All (message_of schema) Whole (Lays schema) (FirstFault schema) (FirstFault schema)
      (λ body g. g) (λ m body g h. lays_to m body h) (lays_from placed) (λ f body h. h) (λ f body h. h)
      (at_end (heading_read schema) (root_read schema) (HeadingGood schema) (HeadingFault schema) (λ h. After (Root h) (Ends h))
      (λ h. FaultAfter (RootBad h) (Root h) (λ block. TrailingFault (is_known schema h.version)))
      heading_reads (root_judges placed))

  -- ---- the laws

  pub one_message : IsPlaced schema → (m n : Msg) (body : List ℕ) → Lays schema m body → Lays schema n body → m ≡ n
  one_message placed m n body h k =
      let judges = message_judges placed in
      ok_is (sym (judges.complete body m h) ∙ judges.complete body n k)

  one_answer : (r : Result Msg Fault) (body : List ℕ) → IsPlaced schema → message_of schema body ≡ r → ((m : Msg) × Lays schema m body) ⊎ ((f : Fault) × FirstFault schema f body × ((g : Fault) → FirstFault schema g body → g ≡ f))
  one_answer (Ok m) body placed e = inl (m, (message_judges placed).sound body m tt e)
  one_answer (Err f) body placed e = inr (f, (message_judges placed).told body f tt e, λ g k. err_is (sym ((message_judges placed).only body g k) ∙ e))

  pub message_or_fault : IsPlaced schema → (body : List ℕ) → ((m : Msg) × Lays schema m body) ⊎ ((f : Fault) × FirstFault schema f body × ((g : Fault) → FirstFault schema g body → g ≡ f))
  message_or_fault placed body = one_answer (message_of schema body) body placed refl

  pub not_both : IsPlaced schema → (m : Msg) (f : Fault) (body : List ℕ) → Lays schema m body → FirstFault schema f body → ⊥
  not_both placed m f body h k = never (sym ((message_judges placed).complete body m h) ∙ (message_judges placed).only body f k)
