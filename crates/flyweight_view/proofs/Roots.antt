-- The root's block of a body that is a message.
use Rattle.std.proofs.Common.{◌≡◌, ◌≤◌, ℕ, ◌+◌, ◌-◌, Bool, true, false, cond, List, length, take, drop, Option, Some, None, Result, Ok, Err, refl, sym, ap, ◌∙◌, subst, arith, length-drop}
use Rattle.std.specs.Prelude.{nat_le, nat_lt, ◌==◌, codes, slice_get}
use Rattle.std.proofs.lemmas.Bool.{leb-true}
use Rattle.std.proofs.lemmas.Bool.Decides.{nat_tests}
use Rattle.sbe_types.specs.declared.message.Block.{Block}
use Rattle.sbe_types.specs.declared.message.Msg.{Msg}
use Rattle.sbe_types.specs.declared.schema.Level.{Level, out-Level}
use Rattle.sbe_types.specs.declared.schema.WireSchema.{WireSchema}
use Rattle.sbe_wire.specs.Faults.{Fault, message_named, Heading, floor_in}
use Rattle.sbe_wire.specs.Reading.{◌>>=◌, and_then, and_check, heading_of, message_check, root_read, message_of, headed}
use Rattle.sbe_wire.specs.Versions.{acting, floor, mode_of}
use Rattle.sbe_wire.proofs.Combine.{ok_is, bind_ok, later_ok}
use Rattle.layout_tables.specs.Heads.{header_width}
use Rattle.sbe_wire.specs.declared.mode.Mode.{Mode}
use Rattle.body_walk.specs.inner.Cursor.{entries_read}
use Rattle.body_walk.specs.Heads.{head_number}
use Rattle.flyweight_view.specs.inner.Planned.{block_of as block_read}
use Rattle.body_walk.specs.Walked.{message_in, IsRead}
use Rattle.body_walk.proofs.Bodies.{by_header, named_at}

-- where a block lies, and how its values are read
pub record BlockPlace : Type 0 where
  pub mode : Mode
  pub at : ℕ
  pub size : ℕ

-- a block of that level lies there, and is read as this one
pub record BlockRead (spot : BlockPlace) (level : Level) (body : List ℕ) (block : Block) : Type 0 where
  pub reaches : floor spot.mode.version (out-Level level).fields ≤ spot.size
  pub near : spot.at + spot.size ≤ length body
  pub reads : (rest : List ℕ) × (entries_read spot.mode level spot.size (drop spot.at body) ≡ Ok (block, rest))

-- the root's block after a header, in a message of that version
abbrev pub root_spot : WireSchema → List ℕ → ℕ → BlockPlace
root_spot schema body version = record {
  mode = mode_of schema version;
  at = header_width schema;
  size = head_number schema (codes "blockLength") (take (header_width schema) body);
}

-- ---- the heading

-- what a heading says
record Says (schema : WireSchema) (head : List ℕ) (h : Heading) : Type 0 where
  block : h.block ≡ head_number schema (codes "blockLength") head
  there : slice_get schema.messages h.template ≡ Some h.level
  reaches : floor_in schema h ≤ h.block

floored : (t : Bool) (low block : ℕ) {X : Type 0} (f : Fault) (x y : X) → nat_lt block low ≡ t → cond t (Err f) (Ok x) ≡ Ok y → (x ≡ y) × (low ≤ block)
floored true low block f x y e h = cc
floored false low block f x y e h = (ok_is h, grind (arith, nat_tests))

judged_says : (schema : WireSchema) (head : List ℕ) (id : ℕ) (o : Option (ℕ × Level)) (h : Heading) → ((m : ℕ × Level) → o ≡ Some m → slice_get schema.messages m.0 ≡ Some m.1) →
    message_check schema head id o ≡ Ok h → Says schema head h
judged_says schema head id None h named is = cc
judged_says schema head id (Some m) h named is =
    let found : Heading = record {
      block = head_number schema (codes "blockLength") head;
      template = m.0;
      level = m.1;
      version = head_number schema (codes "version") head;
    } in
    let both = floored (nat_lt found.block (floor_in schema found)) (floor_in schema found) found.block _ found h refl is in
    subst (Says schema head) both.0 (record { block = refl; there = named m refl; reaches = both.1 })

heading_says : (schema : WireSchema) (head : List ℕ) (h : Heading) → heading_of schema head ≡ Ok h → Says schema head h
heading_says schema head h = by_id (head_number schema (codes "schemaId") head == schema.id) _
  where
    id : ℕ
    id = head_number schema (codes "templateId") head

    named : (m : ℕ × Level) → message_named 0 id schema.messages ≡ Some m → slice_get schema.messages m.0 ≡ Some m.1
    named m is =
        let place = named_at 0 id schema.messages m is in
        let here : m.0 ≡ place.0 = omega (arith, place.1) in
        ap (slice_get schema.messages) here ∙ place.2

    by_id : (t : Bool) (f : Fault) → cond t (message_check schema head id (message_named 0 id schema.messages)) (Err f) ≡ Ok h → Says schema head h
    by_id true f is = judged_says schema head id (message_named 0 id schema.messages) h named is
    by_id false f is = cc

-- ---- after the heading

rest_ok : (t : Bool) (m n : Msg) (f : Fault) → cond t (Err f) (Ok m) ≡ Ok n → m ≡ n
rest_ok true m n f h = cc
rest_ok false m n f h = ok_is h

and_then_is : {X Y : Type 0} (b : List ℕ) (r : Result (X × List ℕ) Fault) (q : X → List ℕ → Result Y Fault) (y : Y) → and_then b r q ≡ Ok y → (p : X × List ℕ) × (r ≡ Ok p) × (q p.0 p.1 ≡ Ok y)
and_then_is b (Err f) q y h = cc
and_then_is b (Ok p) q y h = (p, refl, later_ok (length b - length p.1) (q p.0 p.1) y h)

-- the bytes of an entry that is read are there
entry_near : {X Y : Type 0} (t : Bool) (k : ℕ) (b : List ℕ) (q : List ℕ → Result X Fault) (f : Fault) (s : X → List ℕ → Result (Y × List ℕ) Fault) (y : Y × List ℕ) →
    nat_le k (length b) ≡ t → and_then b (and_check q (cond t (Ok (take k b, drop k b)) (Err f))) s ≡ Ok y → k ≤ length b
entry_near true k b q f s y e h = leb-true k (length b) e
entry_near false k b q f s y e h = cc

module _ (schema : WireSchema) (body : List ℕ) (level : Level) (m : Msg) (is : slice_get schema.messages m.template ≡ Some level) where
  abbrev w : ℕ
  w = header_width schema

  abbrev after : List ℕ
  after = drop w body

  -- the message after its heading
  message_behind : (h : Heading) → w ≤ length body → Says schema (take w body) h → root_read schema h after ≡ Ok m → BlockRead (root_spot schema body m.version) level body m.block
  message_behind h fits says reads =
      let one = and_then_is after (entries_read (mode_of schema h.version) h.level h.block after) _ m reads in
      let made : headed h one.0.0 ≡ m = rest_ok _ _ m _ one.2 in
      let template : h.template ≡ m.template = ap (λ (x : Msg). x.template) made in
      let version : h.version ≡ m.version = ap (λ (x : Msg). x.version) made in
      let block : one.0.0 ≡ m.block = ap (λ (x : Msg). x.block) made in
      let both : Some h.level ≡ Some level = sym says.there ∙ ap (slice_get schema.messages) template ∙ is in
      let same : h.level ≡ level = cc in
      let near : h.block ≤ length after = entry_near (nat_le h.block (length after)) h.block after _ _ _ one.0 refl one.1 in
      let size : h.block ≡ (root_spot schema body m.version).size = says.block in
      let long : length after ≡ length body - w = length-drop w body in
      let reaches : floor (acting schema m.version) (out-Level level).fields ≤ h.block =
      subst (λ (l : Level). floor (acting schema m.version) (out-Level l).fields ≤ h.block) same (subst (λ v. floor (acting schema v) (out-Level h.level).fields ≤ h.block) version says.reaches) in
      record {
        reaches = omega (arith, reaches, size);
        near = omega (arith, fits, near, long, size);
        reads = (
          one.0.1,
          ap (λ k. entries_read (mode_of schema m.version) level k after) (sym size)
              ∙ ap (λ v. entries_read (mode_of schema v) level h.block after) (sym version)
              ∙ ap (λ (l : Level). entries_read (mode_of schema h.version) l h.block after) (sym same)
              ∙ one.1
              ∙ ap (λ (x : Block). Ok (x, one.0.1)) block,
        );
      }

  fitting : (t : Bool) (h : Result Heading Fault) (f : Fault) → nat_le w (length body) ≡ t →
      and_then body (cond t (h >>= (λ y. Ok (y, after))) (Err f)) (root_read schema) ≡ Ok m → (w ≤ length body) × (y : Heading) × (h ≡ Ok y) × (root_read schema y after ≡ Ok m)
  fitting true h f fits is =
      let one = and_then_is body (h >>= (λ y. Ok (y, after))) (root_read schema) m is in
      let two = bind_ok h (λ y. Ok (y, after)) one.0 one.1 in
      let made : ◌≡◌ {A = Heading × List ℕ} (two.0, after) one.0 = ok_is two.2 in
      (leb-true w (length body) fits, two.0, two.1, subst (λ (p : Heading × List ℕ). root_read schema p.0 p.1 ≡ Ok m) (sym made) one.2)
  fitting false h f fits is = cc

  -- the root's block of a message that is read
  root_reads : message_of schema body ≡ Ok m → (w ≤ length body) × BlockRead (root_spot schema body m.version) level body m.block
  root_reads reads =
      let found = fitting (nat_le w (length body)) (heading_of schema (take w body)) _ refl (sym (by_header schema body) ∙ reads) in
      (found.0, message_behind found.1 found.0 (heading_says schema (take w body) found.1 found.2) found.3)

same_spot : (schema : WireSchema) (body : List ℕ) (version : ℕ) (spot : BlockPlace) → spot.mode ≡ mode_of schema version → spot.at ≡ header_width schema →
    spot.size ≡ head_number schema (codes "blockLength") (take (header_width schema) body) → root_spot schema body version ≡ spot
same_spot schema body version spot mode at size =
    let first : Mode → BlockPlace = λ m. record { mode = m; at = spot.at; size = spot.size } in
    let second : ℕ → BlockPlace = λ k. record { mode = mode_of schema version; at = k; size = spot.size } in
    let third : ℕ → BlockPlace = λ k. record { mode = mode_of schema version; at = header_width schema; size = k } in
    sym (ap first mode ∙ ap second at ∙ ap third size)

-- the same by what is known of a body that was read
module _ (schema : WireSchema) (level : Level) (body : List ℕ) (template version : ℕ) (is : IsRead schema level body template version) where
  both_reads : (header_width schema ≤ length body) × BlockRead (root_spot schema body (message_in schema body).version) level body (message_in schema body).block
  both_reads = root_reads schema body level (message_in schema body) (ap (slice_get schema.messages) is.template_is ∙ is.level_is) is.reads

  pub header_fits : header_width schema ≤ length body
  header_fits = both_reads.0

  root_lies : BlockRead (root_spot schema body version) level body (message_in schema body).block
  root_lies = subst (λ v. BlockRead (root_spot schema body v) level body (message_in schema body).block) is.version_is both_reads.1

  -- a place that is the root's
  pub root_at : (spot : BlockPlace) → spot.mode ≡ mode_of schema version → spot.at ≡ header_width schema → spot.size ≡ head_number schema (codes "blockLength") (take spot.at body) →
      BlockRead spot level body (message_in schema body).block
  root_at spot mode at size =
      let same : root_spot schema body version ≡ spot = same_spot schema body version spot mode at (size ∙ ap (λ n. head_number schema (codes "blockLength") (take n body)) at) in
      subst (λ s. BlockRead s level body (message_in schema body).block) same root_lies

-- a block that was read is the one that is read there
pub read_own : (r : Result (Block × List ℕ) Fault) (block : Block) (rest : List ℕ) → r ≡ Ok (block, rest) → (r ≡ Ok (block_read r, rest)) × (block_read r ≡ block)
read_own (Err f) block rest h = cc
read_own (Ok p) block rest h =
    let same : ◌≡◌ {A = Block × List ℕ} p (block, rest) = ok_is h in
    (ap (λ (q : Block × List ℕ). Ok (p.0, q.1)) same, ap (λ (q : Block × List ℕ). q.0) same)
