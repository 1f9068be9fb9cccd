-- A group of a level, and what is read of it.
use Rattle.std.proofs.Common.{◌≡◌, ◌≤◌, ◌<◌, ◌+◌, ◌-◌, ℕ, zero, suc, Bool, true, false, cond, List, length, take, drop, Option, Some, None, Result, Ok, Err, refl, sym, ap, ◌∙◌, subst, arith, length-append, length-drop}
use Rattle.std.specs.Prelude.{IsOk, nat_le, flat_map, map, pos}
use Rattle.std.specs.Option.{option_map}
use Rattle.std.proofs.lemmas.Bool.{le-leb}
use Rattle.std.proofs.lemmas.Bool.Decides.{nat_tests}
use Rattle.std.proofs.lemmas.List.{drop-drop}
use denote.Hole.Carrier as carrier
use Rattle.sbe_types.specs.declared.schema.Group as groups_of
use Rattle.sbe_types.specs.declared.kind.Member.{Member}
use Rattle.sbe_types.specs.declared.kind.Order.{Order}
use Rattle.sbe_types.specs.declared.message.Block.{Block}
use Rattle.sbe_types.specs.declared.message.GroupVal.{GroupVal, items_hidden-the_row-Block-1}
use Rattle.sbe_types.specs.declared.message.GroupVal.TheVariants as groupval
use Rattle.sbe_types.specs.declared.schema.Group.{Group, Group', out-Group}
use Rattle.sbe_types.specs.declared.schema.Level.{Level, out-Level}
use Rattle.sbe_types.specs.declared.schema.WireSchema.{WireSchema}
use Rattle.sbe_types.specs.Places.{members_end}
use Rattle.sbe_wire.specs.declared.codes.FCode.TheVariants as code
use Rattle.sbe_wire.specs.Faults.{Fault, fault_at}
use Rattle.sbe_wire.specs.Reading.{Reader, ◌>>=◌, later, and_then, and_check, then_read, nothing, times_read, dimension_of, dimension_read, group_read}
use Rattle.sbe_wire.specs.Versions.{is_alive, floor}
use Rattle.sbe_wire.proofs.Combine.{ok_is}
use Rattle.schema_facts.specs.Levels.{nodes_of, all_nodes, groups_at}
use Rattle.layout_tables.specs.Parts.{group_number}
use Rattle.layout_tables.proofs.Nodes.{flat_more}
use Rattle.layout_tables.proofs.GroupWalk.{GroupsFrom, groups_begin, group_is, here, many_of}
use Rattle.group_codec.specs.declared.dim.Dim.{Dim}
use Rattle.body_walk.specs.declared.layer.Layer.{Layer}
use Rattle.sbe_wire.specs.declared.mode.Mode.{Mode}
use Rattle.body_walk.specs.inner.Cursor.{entries_read, dim_from}
use Rattle.flyweight_view.specs.inner.Groups.{groups_by, group_entered}
use Rattle.flyweight_view.specs.inner.Layers.{blocks_read, blocks_at, typed_entries, LieThere}
use Rattle.flyweight_view.specs.inner.Lefts.{items_of, rest_of}
use Rattle.flyweight_view.specs.TypedBlocks.{typed_level, entries_in}
use Rattle.flyweight_view.proofs.Lefts.{never_ok, step_ok, later_same, made_there}

-- ---- the number of a group's level

groups_past : (schema : WireSchema) (n k child : ℕ) → GroupsFrom schema n k child → k < length (groups_at schema n) → (next : ℕ) × GroupsFrom schema n (k + 1) next
groups_past schema n k child w h =
    let this = here schema n k child w h in
    let t = w.this.template in
    let groups = (out-Level w.this.level).groups in
    let more : length (flat_map (nodes_of 0) (take (k + 1) groups)) ≡ length (flat_map (nodes_of 0) (take k groups)) + length (nodes_of 0 this.g) =
    ap length (flat_more 0 groups k this.g this.within this.is) ∙ length-append (flat_map (nodes_of 0) (take k groups)) (nodes_of 0 this.g) in (
      child + length (nodes_of t this.g),
      record {
        this = w.this;
        at = w.at;
        stands = this.child_is.after;
        number = omega (arith, more, w.number, many_of t 0 this.g);
      },
    )

groups_reach : (schema : WireSchema) (n k : ℕ) → n < length (all_nodes schema) → k ≤ length (groups_at schema n) → (child : ℕ) × GroupsFrom schema n k child
groups_reach schema n zero h few = (n + 1, groups_begin schema n h)
groups_reach schema n (suc k) h few =
    let front = groups_reach schema n k h (omega (arith, few)) in
    let next = groups_past schema n k front.0 front.1 (omega (arith, few)) in
    let one : k + 1 ≡ suc k = omega arith in
    (next.0, subst (λ m. GroupsFrom schema n m next.0) one next.1)

-- a walk over a level's groups has come to that number
pub from_number : (schema : WireSchema) (n k child : ℕ) → n < length (all_nodes schema) → k ≤ length (groups_at schema n) → child ≡ group_number schema n k → GroupsFrom schema n k child
from_number schema n k child h few is =
    let found = groups_reach schema n k h few in
    subst (λ m. GroupsFrom schema n k m) (group_is schema n k found.0 found.1 ∙ sym is) found.1

-- ---- a dimension

module _ (order : Order) (dim : List Member) (least : ℕ) (body : List ℕ) (at : ℕ) where
  abbrev wide : ℕ
  wide = members_end 0 dim

  abbrev judge : List ℕ → Result (ℕ × ℕ) Fault
  judge = dimension_of order dim least

  abbrev cut : Fault
  cut = fault_at code.Truncated 0 (pos wide)

  abbrev judged_by : Bool → Result ((ℕ × ℕ) × List ℕ) Fault
  judged_by t = and_check judge (cond t (Ok (take wide (drop at body), drop wide (drop at body))) (Err cut))

  judged_is : dimension_read order dim least (drop at body) ≡ judged_by (nat_le wide (length body - at))
  judged_is = ap (λ n. judged_by (nat_le wide n)) (length-drop at body)

  told_ok : (t : Bool) (r : Result (ℕ × ℕ) Fault) (f : Fault) (x : ℕ × ℕ) → Ok x ≡ cond t (later at r) (Err f) → (t ≡ true) × (r ≡ Ok x)
  told_ok true (Ok y) f x h = (refl, sym h)
  told_ok true (Err g) f x h = cc
  told_ok false r f x h = cc

  told_err : (t : Bool) (r : Result (ℕ × ℕ) Fault) (f g : Fault) → judge (take wide (drop at body)) ≡ r → Err g ≡ cond t (later at r) (Err f) → (h : Fault) × (judged_by t ≡ Err h)
  told_err true (Ok y) f g is h = cc
  told_err true (Err e) f g is h = (e, ap (λ (z : Result (ℕ × ℕ) Fault). z >>= (λ y. Ok (y, drop wide (drop at body)))) is)
  told_err false r f g is h = (cut, refl)

  -- a dimension that is told is read
  dims_read : (x : ℕ × ℕ) → Ok x ≡ dim_from order dim least body at → dimension_read order dim least (drop at body) ≡ Ok (x, drop (at + wide) body)
  dims_read x told =
      let e = told_ok (nat_le wide (length body - at)) (judge (take wide (drop at body))) (fault_at code.Truncated at (pos wide)) x told in
      judged_is ∙ ap judged_by e.0
      ∙ ap (λ (z : Result (ℕ × ℕ) Fault). z >>= (λ y. Ok (y, drop wide (drop at body)))) e.1
      ∙ ap (λ b. Ok (x, b)) (drop-drop wide at body)

  dims_bad : (f : Fault) → Err f ≡ dim_from order dim least body at → (h : Fault) × (dimension_read order dim least (drop at body) ≡ Err h)
  dims_bad f told =
      let e = told_err (nat_le wide (length body - at)) (judge (take wide (drop at body))) (fault_at code.Truncated at (pos wide)) f refl told in
      (e.0, judged_is ∙ e.1)

-- ---- a group

module _ (mode : Mode) where
  abbrev beyond : Level → ℕ × ℕ → Reader GroupVal
  beyond level d = then_read (times_read (entries_read mode level d.0) 0 d.1) (λ es. nothing (groupval.Entries es))

  abbrev dims : List Member → Level → Reader (ℕ × ℕ)
  dims dim level = dimension_read mode.order dim (floor mode.version (out-Level level).fields)

  opened : (dim : List Member) (level : Level) (b : List ℕ) →
      groups_by mode (Group' dim level) b ≡ cond (is_alive mode.version (out-Level level).since) (then_read (dims dim level) (beyond level) b) (Ok (groupval.Absent, b))
  unfolding group_read
  opened dim level b = refl

  open_group : (g : Group) → groups_by mode g ≡ groups_by mode (Group' (out-Group g).dim (out-Group g).level)
  unfolding groups_of.out-Group carrier.out
  open_group (Group' dim level) = refl

  module _ (g : Group) (body : List ℕ) (at : ℕ) where
    abbrev level : Level
    level = (out-Group g).level

    abbrev alive_by : Bool → Result (GroupVal × List ℕ) Fault
    alive_by t = cond t (then_read (dims (out-Group g).dim level) (beyond level) (drop at body)) (Ok (groupval.Absent, drop at body))

    group_opens : groups_by mode g (drop at body) ≡ alive_by (is_alive mode.version (out-Level level).since)
    group_opens = ap (λ (p : Reader GroupVal). p (drop at body)) (open_group g) ∙ opened (out-Group g).dim level (drop at body)

    pub group_gone : (since : ℕ) → since ≡ (out-Level level).since → mode.version < since → groups_by mode g (drop at body) ≡ Ok (groupval.Absent, drop at body)
    group_gone since is dead =
        let below : is_alive mode.version (out-Level level).since ≡ false = grind (arith, nat_tests) in
        group_opens ∙ ap alive_by below

    group_alive : (since : ℕ) → since ≡ (out-Level level).since → since ≤ mode.version → groups_by mode g (drop at body) ≡ and_then (drop at body) (dims (out-Group g).dim level (drop at body)) (beyond level)
    group_alive since is alive =
        let here : is_alive mode.version (out-Level level).since ≡ true = le-leb (out-Level level).since mode.version (omega arith) in
        group_opens ∙ ap alive_by here

    -- a group that is alive has the entries that its dimension tells
    pub group_told : (since least : ℕ) (d : Dim) → since ≡ (out-Level level).since → since ≤ mode.version → least ≡ floor mode.version (out-Level level).fields →
        Ok (d.block, d.count) ≡ dim_from mode.order (out-Group g).dim least body at → d.after ≡ at + members_end 0 (out-Group g).dim → IsOk (groups_by mode g (drop at body)) →
        groups_by mode g (drop at body) ≡ beyond level (d.block, d.count) (drop d.after body)
    group_told since least d is alive floors told after ok =
        let dim = (out-Group g).dim in
        let least_is = floor mode.version (out-Level level).fields in
        let read : dims dim level (drop at body) ≡ Ok ((d.block, d.count), drop d.after body) =
        dims_read mode.order dim least_is body at (d.block, d.count) (told ∙ ap (λ k. dim_from mode.order dim k body at) floors)
        ∙ ap (λ k. Ok ((d.block, d.count), drop k body)) (sym after) in
        let whole : groups_by mode g (drop at body) ≡ later (length (drop at body) - length (drop d.after body)) (beyond level (d.block, d.count) (drop d.after body)) =
        group_alive since is alive ∙ ap (λ (r : Result ((ℕ × ℕ) × List ℕ) Fault). and_then (drop at body) r (beyond level)) read in
        whole ∙ later_same _ (beyond level (d.block, d.count) (drop d.after body)) (subst (λ (r : Result (GroupVal × List ℕ) Fault). IsOk r) whole ok)

    pub group_never : (since least : ℕ) (f : Fault) → since ≡ (out-Level level).since → since ≤ mode.version → least ≡ floor mode.version (out-Level level).fields →
        Err f ≡ dim_from mode.order (out-Group g).dim least body at → IsOk (groups_by mode g (drop at body)) → ⊥
    group_never since least f is alive floors told ok =
        let dim = (out-Group g).dim in
        let bad = dims_bad mode.order dim (floor mode.version (out-Level level).fields) body at f (told ∙ ap (λ k. dim_from mode.order dim k body at) floors) in
        never_ok (groups_by mode g (drop at body)) bad.0
        (group_alive since is alive ∙ ap (λ (r : Result ((ℕ × ℕ) × List ℕ) Fault). and_then (drop at body) r (beyond level)) bad.1) ok

-- ---- the entries of a group

pub lie_there : (l : Layer) (at least : ℕ) (d : Dim) → IsOk (group_entered l at (Some d)) → least ≡ floor l.mode.version (out-Level l.level.now).fields → (0 < d.count → least ≤ d.block) → d.after ≤ length l.body.now → LieThere l d
lie_there l at least d ok floors reaches near = record {
  reaches = λ some. subst (λ k. k ≤ d.block) floors (reaches some);
  near = near;
  reads = (made_there (blocks_read l d) groupval.Entries (drop d.after l.body.now) ok).0;
}

pub seen_entered : (l : Layer) (at : ℕ) (o : Option Dim) (v : GroupVal) (rest : List ℕ) → group_entered l at o ≡ Ok (v, rest) → entries_in l.level.now v ≡ option_map (typed_entries l) o
seen_entered l at None v rest h = ap (λ (z : GroupVal × List ℕ). entries_in l.level.now z.0) (sym (ok_is h))
seen_entered l at (Some d) v rest h =
    let level = l.level.now in
    let two = step_ok (drop d.after l.body.now) (blocks_at l d) (λ es. nothing (groupval.Entries es)) (v, rest) h in
    ap (λ (z : GroupVal × List ℕ). entries_in level z.0) (sym (ok_is two.2))
    ∙ ap (λ (bs : List Block). Some (map (typed_level level) bs)) (items_hidden-the_row-Block-1 two.0.0)
    ∙ ap (λ (z : Result (List Block × List ℕ) Fault). Some (map (typed_level level) (items_of z))) (sym two.1)

pub end_entered : (l : Layer) (at : ℕ) (d : Dim) → IsOk (group_entered l at (Some d)) → rest_of (group_entered l at (Some d)) ≡ rest_of (blocks_at l d)
end_entered l at d ok = (made_there (blocks_read l d) groupval.Entries (drop d.after l.body.now) ok).1
