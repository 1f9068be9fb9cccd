-- A whole body: what its header says, the message after it, and what is left.
use Rattle.std.proofs.Common.{◌≡◌, ◌≤◌, ◌<◌, ℕ, zero, suc, ◌+◌, ◌-◌, Bool, true, false, cond, List, [], ◌∷◌, ◌++◌, length, take, drop, Option, Some, None, Result, Ok, Err, refl, sym, ap, ◌∙◌, arith, length-drop, length-append}
use Rattle.std.specs.Prelude.{nat_le, nat_lt, ◌&&◌, ◌==◌, pos, codes, slice_get}
use Rattle.std.specs.Option.{option_map}
use Rattle.std.proofs.lemmas.Option.{slice_get_within}
use Rattle.std.proofs.lemmas.Bool.{leb-true}
use Rattle.std.proofs.lemmas.Bool.Decides.{nat_tests}
use Rattle.sbe_types.specs.declared.message.Block.{Block}
use Rattle.sbe_types.specs.declared.message.Msg.{Msg}
use Rattle.sbe_types.specs.declared.schema.Level.{Level, out-Level}
use Rattle.sbe_types.specs.declared.schema.WireSchema.{WireSchema}
use Rattle.sbe_wire.specs.declared.codes.FCode.TheVariants as code
use Rattle.sbe_wire.specs.Faults.{Fault, fault_at, shifted, message_named, Heading}
use Rattle.sbe_wire.specs.Reading.{◌>>=◌, later, and_then, and_check, heading_of, root_read, headed, rest_check, message_of, message_check, floor_check}
use Rattle.sbe_wire.specs.Versions.{acting, floor, mode_of}
use Rattle.schema_facts.specs.Levels.{Node, nodes, nodes_from, node, root_of, level_at}
use Rattle.layout_tables.specs.Heads.{header_width}
use Rattle.layout_tables.proofs.Items.{get_behind}
use Rattle.layout_tables.proofs.Nodes.{nodes_open}
use Rattle.body_walk.specs.Walked.{read_message}
use Rattle.sbe_wire.proofs.Combine.{err_is}
use Rattle.body_walk.specs.declared.header.Start.{Start}
use Rattle.sbe_wire.specs.declared.mode.Mode.{Mode}
use Rattle.body_walk.specs.inner.Cursor.{placed, entries_read}
use Rattle.body_walk.specs.Heads.{head_number, head_place, found_template, named_template, header_template}
use Rattle.body_walk.specs.inner.Starts.{rest_end, root_end, message_end}
use Rattle.body_walk.proofs.Cursor.{EndOf}
use Rattle.body_walk.proofs.Walks.{entry_leaves, tail_leaves}

-- ---- after the header

-- a message, by its template and version
abbrev pub IsMessage : WireSchema → List ℕ → ℕ → ℕ → Type 0
IsMessage schema body template version = (m : Msg) × (message_of schema body ≡ Ok m) × (m.template ≡ template) × (m.version ≡ version)

module _ (known : Bool) (h : Heading) (len w : ℕ) where
  -- the rest, as the reader judges it and as the walk does
  rest_is : (block : Block) (rest : List ℕ) (t u : Bool) → length rest ≤ len → nat_lt 0 (length rest) ≡ t → nat_lt (len - length rest) len ≡ u → t ≡ u
  rest_is block rest true true near e f = refl
  rest_is block rest false false near e f = refl
  rest_is block rest true false near e f = absurd (grind (arith, nat_tests))
  rest_is block rest false true near e f = absurd (grind (arith, nat_tests))

abbrev start_of : Heading → Start
start_of h = record { block = h.block; version = h.version }

module _ (schema : WireSchema) (body : List ℕ) (h : Heading) (fits : header_width schema ≤ length body) where
  abbrev w : ℕ
  w = header_width schema

  abbrev mode : Mode
  mode = mode_of schema h.version

  abbrev entry : Result (Block × List ℕ) Fault
  entry = entries_read mode h.level h.block (drop w body)

  abbrev after : Result (Block × List ℕ) Fault → Result Msg Fault
  after r = later (length body - length (drop w body)) (and_then (drop w body) r (λ block rest. rest_check mode.known (headed h block) rest))

  abbrev told : Result (Block × List ℕ) Fault → Result ℕ Fault
  told r = placed (length body) w r >>= (λ next. rest_end mode.known h.version body next)

  header_is : length body - length (drop w body) ≡ w
  header_is = omega (arith, length-drop w body)

  -- a fault after the header is the walk's
  fault_is : (r : Result (Block × List ℕ) Fault) (f : Fault) → EndOf (drop w body) r → told r ≡ Err f → after r ≡ Err f
  fault_is (Err g) f e h' = ap (λ k. Err (shifted k g)) header_is ∙ ap Err (err_is h')
  fault_is (Ok r) f e h' = ends (mode.known && nat_lt 0 (length r.1)) (mode.known && nat_lt (length body - length r.1) (length body)) refl refl h'
    where
      found : (k : ℕ) × (k ≤ length (drop w body)) × (r.1 ≡ drop k (drop w body))
      found = e r.0 r.1 refl

      short : length r.1 ≤ length (drop w body)
      short = let long : length r.1 ≡ length (drop w body) - found.0 = ap length found.2 ∙ length-drop found.0 (drop w body) in omega arith

      same : nat_lt 0 (length r.1) ≡ nat_lt (length body - length r.1) (length body)
      same = rest_is mode.known h (length body) w r.0 r.1 _ _ (omega (arith, short, length-drop w body)) refl refl

      place : w + (length (drop w body) - length r.1 + 0) ≡ length body - length r.1
      place = omega (arith, short, length-drop w body, fits)

      many : length body - (length body - length r.1) ≡ length r.1
      many = omega (arith, short, length-drop w body)

      ends : (t u : Bool) → (mode.known && nat_lt 0 (length r.1)) ≡ t → (mode.known && nat_lt (length body - length r.1) (length body)) ≡ u →
          cond u (Err (fault_at code.Trailing (length body - length r.1) (pos (length body - (length body - length r.1))))) (Ok h.version) ≡ Err f →
          later (length body - length (drop w body)) (later (length (drop w body) - length r.1) (cond (mode.known && nat_lt 0 (length r.1)) (Err (fault_at code.Trailing 0 (pos (length r.1)))) (Ok (headed h r.0)))) ≡ Err f
      ends true true a b k =
          ap (λ t. later (length body - length (drop w body)) (later (length (drop w body) - length r.1) (cond t (Err (fault_at code.Trailing 0 (pos (length r.1)))) (Ok (headed h r.0))))) a
          ∙ ap (λ n. Err (fault_at code.Trailing (n + (length (drop w body) - length r.1 + 0)) (pos (length r.1)))) header_is
          ∙ ap (λ n. Err (fault_at code.Trailing n (pos (length r.1)))) place
          ∙ ap (λ n. Err (fault_at code.Trailing (length body - length r.1) (pos n))) (sym many)
          ∙ ap Err (err_is k)
      ends false false a b k = cc
      ends true false a b k = absurd (unlike (sym a ∙ ap (λ t. mode.known && t) same ∙ b))
        where
          unlike : ◌≡◌ {A = Bool} true false → ⊥
          unlike e = cc
      ends false true a b k = absurd (unlike (sym a ∙ ap (λ t. mode.known && t) same ∙ b))
        where
          unlike : ◌≡◌ {A = Bool} false true → ⊥
          unlike e = cc

  -- where the walk comes to an end, a message was read
  read_is : (r : Result (Block × List ℕ) Fault) (version : ℕ) → EndOf (drop w body) r → told r ≡ Ok version → (m : Msg) × (after r ≡ Ok m) × (m.template ≡ h.template) × (m.version ≡ version)
  read_is (Err g) version e h' = cc
  read_is (Ok r) version e h' = ends (mode.known && nat_lt 0 (length r.1)) (mode.known && nat_lt (length body - length r.1) (length body)) refl refl h'
    where
      found : (k : ℕ) × (k ≤ length (drop w body)) × (r.1 ≡ drop k (drop w body))
      found = e r.0 r.1 refl

      short : length r.1 ≤ length (drop w body)
      short = let long : length r.1 ≡ length (drop w body) - found.0 = ap length found.2 ∙ length-drop found.0 (drop w body) in omega arith

      same : nat_lt 0 (length r.1) ≡ nat_lt (length body - length r.1) (length body)
      same = rest_is mode.known h (length body) w r.0 r.1 _ _ (omega (arith, short, length-drop w body)) refl refl

      ends : (t u : Bool) → (mode.known && nat_lt 0 (length r.1)) ≡ t → (mode.known && nat_lt (length body - length r.1) (length body)) ≡ u →
          cond u (Err (fault_at code.Trailing (length body - length r.1) (pos (length body - (length body - length r.1))))) (Ok h.version) ≡ Ok version →
          (m : Msg) × (later (length body - length (drop w body)) (later (length (drop w body) - length r.1) (cond (mode.known && nat_lt 0 (length r.1)) (Err (fault_at code.Trailing 0 (pos (length r.1)))) (Ok (headed h r.0)))) ≡ Ok m)
          × (m.template ≡ h.template) × (m.version ≡ version)
      ends true true a b k = cc
      ends false false a b k = (
        headed h r.0,
        ap (λ t. later (length body - length (drop w body)) (later (length (drop w body) - length r.1) (cond t (Err (fault_at code.Trailing 0 (pos (length r.1)))) (Ok (headed h r.0))))) a,
        refl,
        cc,
      )
      ends true false a b k = absurd (unlike (sym a ∙ ap (λ t. mode.known && t) same ∙ b))
        where
          unlike : ◌≡◌ {A = Bool} true false → ⊥
          unlike e = cc
      ends false true a b k = cc

  ends_here : EndOf (drop w body) entry
  ends_here = (entry_leaves mode h.level h.block (tail_leaves mode h.level)).left (drop w body)

-- ---- the header

-- a level of that id among levels of which the first is number k
abbrev pub NamedAt : ℕ → List Level → ℕ × Level → Type 0
NamedAt k ls m = (j : ℕ) × (m.0 ≡ k + j) × (slice_get ls j ≡ Some m.1)

named_here : (k id : ℕ) (l : Level) (ls : List Level) (m : ℕ × Level) (t : Bool) → (message_named (suc k) id ls ≡ Some m → NamedAt (suc k) ls m) →
    cond t (Some (k, l)) (message_named (suc k) id ls) ≡ Some m → NamedAt k (l ∷ ls) m
named_here k id l ls m true later e =
    let same : ◌≡◌ {A = ℕ × Level} (k, l) m = cc in
    let first : k ≡ m.0 = ap (λ p. p.0) same in
    (0, omega (arith, first), ap (λ (p : ℕ × Level). Some p.1) same)
named_here k id l ls m false later e = let rest = later e in (suc rest.0, omega (arith, rest.1), rest.2)

pub named_at : (k id : ℕ) (ls : List Level) (m : ℕ × Level) → message_named k id ls ≡ Some m → NamedAt k ls m
named_at k id [] m h = cc
named_at k id (l ∷ ls) m h = named_here k id l ls m ((out-Level l).id == id) (named_at (suc k) id ls m) h

-- the number of a message that is found is in range
pub named_within : (id t : ℕ) (ls : List Level) → option_map (λ m. m.0) (message_named 0 id ls) ≡ Some t → t < length ls
named_within id t ls h = within (message_named 0 id ls) (λ m. named_at 0 id ls m) h
  where
    within : (o : Option (ℕ × Level)) → ((m : ℕ × Level) → o ≡ Some m → NamedAt 0 ls m) → option_map (λ m. m.0) o ≡ Some t → t < length ls
    within None all e = cc
    within (Some m) all e =
        let same : m.0 ≡ t = cc in
        let place = all m refl in
        omega (arith, place.1, slice_get_within ls place.0 m.1 place.2)

found_is : (schema : WireSchema) (id t : ℕ) (o : Option (ℕ × Level)) → found_template schema id o ≡ Ok t → (level : Level) × (o ≡ Some (t, level))
found_is schema id t None h = cc
found_is schema id t (Some m) h = let same : m.0 ≡ t = cc in (m.1, ap (λ k. Some (k, m.1)) same)

module _ (schema : WireSchema) (body : List ℕ) where
  abbrev wide : ℕ
  wide = header_width schema

  abbrev head : List ℕ
  head = take wide body

  abbrev schema_id : ℕ
  schema_id = head_number schema (codes "schemaId") head

  abbrev id : ℕ
  id = head_number schema (codes "templateId") head

  -- the heading of the message that was found
  abbrev heading : ℕ → Level → Heading
  heading t level = record {
    block = head_number schema (codes "blockLength") head;
    template = t;
    level = level;
    version = head_number schema (codes "version") head;
  }

  abbrev headed_by : Bool → Option (ℕ × Level) → Result Heading Fault
  headed_by s o = cond s (message_check schema head id o) (Err (fault_at code.SchemaId (head_place schema (codes "schemaId")) (pos schema_id)))

  abbrev named_by : Bool → Option (ℕ × Level) → Result ℕ Fault
  named_by s o = cond s (found_template schema id o) (Err (fault_at code.SchemaId (head_place schema (codes "schemaId")) (pos schema_id)))

  abbrev read_by : Bool → Result Heading Fault → Result Msg Fault
  read_by t h = and_then body (cond t (h >>= (λ y. Ok (y, drop wide body))) (Err (fault_at code.ShortHeader 0 (pos (length body))))) (root_read schema)

  -- the message that is read, by its header
  pub by_header : message_of schema body ≡ read_by (nat_le wide (length body)) (heading_of schema head)
  unfolding message_of
  by_header = if_fits (nat_le wide (length body))
    where
      if_fits : (t : Bool) → and_then body (and_check (heading_of schema) (cond t (Ok (head, drop wide body)) (Err (fault_at code.ShortHeader 0 (pos (length body)))))) (root_read schema) ≡ read_by t (heading_of schema head)
      if_fits true = refl
      if_fits false = refl

  -- a header that names no message
  unnamed : (s : Bool) (o : Option (ℕ × Level)) (f : Fault) → named_by s o ≡ Err f → headed_by s o ≡ Err f
  unnamed true None f h = ap Err (err_is h)
  unnamed true (Some m) f h = cc
  unnamed false o f h = ap Err (err_is h)

  unread : (t : Bool) (h : Result Heading Fault) (n : Result ℕ Fault) (f : Fault) → (n ≡ Err f → h ≡ Err f) → cond t n (Err (fault_at code.ShortHeader 0 (pos (length body)))) ≡ Err f → read_by t h ≡ Err f
  unread true h n f same e = ap (read_by true) (same e)
  unread false h n f same e = ap Err (err_is e)

  pub refused_early : (f : Fault) → header_template schema body ≡ Err f → message_of schema body ≡ Err f
  refused_early f h =
      by_header ∙ unread (nat_le wide (length body)) (heading_of schema head) (named_template schema head) f
      (λ e. unnamed (schema_id == schema.id) (message_named 0 id schema.messages) f e) h

  -- a header that names one
  named : (s : Bool) (o : Option (ℕ × Level)) (t : ℕ) → named_by s o ≡ Ok t → (level : Level) × (o ≡ Some (t, level)) × (headed_by s o ≡ floor_check schema (heading t level))
  named true o t h = let found = found_is schema id t o h in (found.0, found.1, ap (headed_by true) found.1)
  named false o t h = cc

  fitting : (t : Bool) (n : Result ℕ Fault) (x : ℕ) → nat_le wide (length body) ≡ t → cond t n (Err (fault_at code.ShortHeader 0 (pos (length body)))) ≡ Ok x → (wide ≤ length body) × (t ≡ true) × (n ≡ Ok x)
  fitting true n x is e = (leb-true wide (length body) is, refl, e)
  fitting false n x is e = cc

  -- the message after a header that names it
  record Behind (t : ℕ) (level : Level) : Type 0 where
    fits : wide ≤ length body
    there : slice_get schema.messages t ≡ Some level
    reads : message_of schema body ≡ read_by true (floor_check schema (heading t level))

  beyond : (t : ℕ) (level : Level) → header_template schema body ≡ Ok t → slice_get schema.messages t ≡ Some level → Behind t level
  beyond t level h at =
      let fits = fitting (nat_le wide (length body)) (named_template schema head) t refl h in
      let found = named (schema_id == schema.id) (message_named 0 id schema.messages) t fits.2 in
      let place = named_at 0 id schema.messages (t, found.0) found.1 in
      let here : t ≡ place.0 = omega (arith, place.1) in
      let both : Some found.0 ≡ Some level = sym place.2 ∙ ap (slice_get schema.messages) (sym here) ∙ at in
      let same : found.0 ≡ level = cc in
      record {
        fits = fits.0;
        there = at;
        reads = by_header ∙ ap (λ b. read_by b (heading_of schema head)) fits.1 ∙ ap (read_by true) (found.2 ∙ ap (λ (l : Level). floor_check schema (heading t l)) same);
      }

  module _ (t : ℕ) (level : Level) (is : Behind t level) where
    abbrev says : Heading
    says = heading t level

    abbrev block_by : Bool → Result Start Fault
    block_by s = cond s (Err (fault_at code.BlockShort (head_place schema (codes "blockLength")) (pos says.block))) (Ok (record { block = says.block; version = says.version }))

    abbrev floor_by : Bool → Result Heading Fault
    floor_by s = cond s (Err (fault_at code.BlockShort (head_place schema (codes "blockLength")) (pos says.block))) (Ok says)

    late_if : (s : Bool) (f : Fault) → (block_by s >>= (λ start. root_end schema level body start)) ≡ Err f → read_by true (floor_by s) ≡ Err f
    late_if true f h = ap Err (err_is h)
    late_if false f h = fault_is schema body says is.fits (entry schema body says is.fits) f (ends_here schema body says is.fits) h

    read_if : (s : Bool) (version : ℕ) → (block_by s >>= (λ start. root_end schema level body start)) ≡ Ok version → (m : Msg) × (read_by true (floor_by s) ≡ Ok m) × (m.template ≡ t) × (m.version ≡ version)
    read_if true version h = cc
    read_if false version h = read_is schema body says is.fits (entry schema body says is.fits) version (ends_here schema body says is.fits) h

  pub refused_late : (t : ℕ) (level : Level) (f : Fault) → header_template schema body ≡ Ok t → slice_get schema.messages t ≡ Some level → message_end schema level body ≡ Err f → message_of schema body ≡ Err f
  refused_late t level f h at told =
      let is = beyond t level h at in
      is.reads ∙ late_if t level is (nat_lt (heading t level).block (floor (acting schema (heading t level).version) (out-Level level).fields)) f told

  pub body_read : (t version : ℕ) (level : Level) → header_template schema body ≡ Ok t → slice_get schema.messages t ≡ Some level → message_end schema level body ≡ Ok version → IsMessage schema body t version
  body_read t version level h at told =
      let is = beyond t level h at in
      let found = read_if t level is (nat_lt (heading t level).block (floor (acting schema (heading t level).version) (out-Level level).fields)) version told in
      (found.0, is.reads ∙ found.1, found.2, found.3)

-- ---- the root's level

root_from : (k : ℕ) (ls : List Level) (t : ℕ) (level : Level) → slice_get ls t ≡ Some level → slice_get (nodes_from k ls) (length (nodes_from k (take t ls))) ≡ Some (node (k + t) None level)
root_from k [] t level h = cc
root_from k (l ∷ ls) zero level h =
    let same : l ≡ level = cc in
    let here : k ≡ k + 0 = omega arith in
    ap (λ ns. slice_get (ns ++ nodes_from (suc k) ls) 0) (nodes_open k None l) ∙ ap (λ (x : Level). Some (node k None x)) same ∙ ap (λ j. Some (node j None level)) here
root_from k (l ∷ ls) (suc t) level h =
    let next : suc k + t ≡ k + suc t = omega arith in
    get_behind (nodes k None l) (nodes_from (suc k) ls) _ (length (nodes_from (suc k) (take t ls))) (length-append (nodes k None l) (nodes_from (suc k) (take t ls)))
    ∙ root_from (suc k) ls t level h ∙ ap (λ j. Some (node j None level)) next

pub root_level : (schema : WireSchema) (t root : ℕ) (level : Level) → root ≡ root_of schema t → slice_get schema.messages t ≡ Some level → level_at schema root ≡ Some level
root_level schema t root level is at = ap (level_at schema) is ∙ ap (option_map (λ (x : Node). x.level)) (root_from 0 schema.messages t level at)

-- ---- a view

read_is_own : (r : Result Msg Fault) (m : Msg) → r ≡ Ok m → (r ≡ Ok (read_message r)) × (read_message r ≡ m)
read_is_own (Ok n) m h = (refl, cc)
read_is_own (Err f) m h = cc

-- the message of a body that was read
pub view_reads : (schema : WireSchema) (body : List ℕ) (t version : ℕ) → IsMessage schema body t version →
    (message_of schema body ≡ Ok (read_message (message_of schema body))) × ((read_message (message_of schema body)).template ≡ t) × ((read_message (message_of schema body)).version ≡ version)
view_reads schema body t version h =
    let own = read_is_own (message_of schema body) h.0 h.1 in
    (own.0, ap (λ (m : Msg). m.template) own.1 ∙ h.2, ap (λ (m : Msg). m.version) own.1 ∙ h.3)
