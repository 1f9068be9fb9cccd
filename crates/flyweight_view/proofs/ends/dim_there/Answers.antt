use Rattle.std.proofs.Common.{◌≡◌, ◌≤◌, ◌<◌, ◌+◌, Ok, refl, ap₂, take, arith, ℕ, List, Result, sym, ap, ◌∙◌, subst}
use Rattle.std.specs.Prelude.{drop, IsOk}
use Rattle.sbe_types.specs.declared.message.GroupVal.{GroupVal}
use Rattle.sbe_types.specs.declared.message.GroupVal.TheVariants as groupval
use Rattle.sbe_types.specs.declared.schema.Group.{out-Group}
use Rattle.sbe_types.specs.declared.schema.Level.{Level, out-Level}
use Rattle.sbe_wire.specs.Faults.{Fault}
use Rattle.sbe_wire.specs.Reading.{then_read, nothing, times_read}
use Rattle.sbe_wire.specs.Versions.{floor}
use Rattle.layout_tables.specs.declared.rows.DimRow.{DimRow}
use Rattle.layout_tables.specs.declared.rows.LevelRow.{LevelRow}
use Rattle.layout_tables.specs.Heads.{number_at}
use Rattle.layout_tables.specs.Rowed.{as_spot, DimIs}
use Rattle.group_codec.specs.declared.dim.Dim.{Dim}
use Rattle.sbe_types.specs.declared.schema.Group.{Group}
use Rattle.body_walk.specs.declared.layer.Layer.{Layer}
use Rattle.body_walk.specs.inner.Cursor.{entries_read, dim_from}
use Rattle.flyweight_view.specs.inner.Groups.{groups_by}
use Rattle.flyweight_view.proofs.Standing.{never_a_fault, stood_room, stood_numbers, stood_reaches}
use Rattle.flyweight_view.proofs.GroupsTold.{group_gone, group_told, group_never, lie_there}
use Rattle.body_walk.proofs.LevelsReady.{row_since}
use Rattle.body_walk.proofs.Opens.{group_dim}
use Rattle.flyweight_view.proofs.ends.dim_there.Goals as goal

pub returns-then-row-layer-clause-told : goal.returns-then-row-layer-clause-told
returns-then-row-layer-clause-told c =
    let l = c.args.layer.now in
    let since = row_since l.layout.now l.number c.row-row.result.now l.level.now c.row-row.ensures c.requires.layer.level_is in
    group_gone l.mode c.args.group.now l.body.now c.args.at c.row-row.result.now.since (since ∙ ap (λ (v : Level). (out-Level v).since) c.requires.level) c.if-row-layer.true

-- what the walk has told of the dimension
told : (l : Layer) (g : Group) (row : LevelRow) (at : ℕ) → row.since ≡ (out-Level (out-Group g).level).since → row.since ≤ l.mode.version → IsOk (groups_by l.mode g (drop at l.body.now)) →
    (x : ℕ × ℕ) × (Ok x ≡ dim_from l.mode.order (out-Group g).dim (floor l.mode.version (out-Level (out-Group g).level).fields) l.body.now at)
told l g row at since alive read =
    never_a_fault (dim_from l.mode.order (out-Group g).dim (floor l.mode.version (out-Level (out-Group g).level).fields) l.body.now at)
    (λ f is. group_never l.mode g l.body.now at row.since (floor l.mode.version (out-Level (out-Group g).level).fields) f since alive refl is read)

pub stood_dim-requires-clause-room : goal.stood_dim-requires-clause-room
stood_dim-requires-clause-room c =
    let l = c.args.layer.now in
    let g = c.args.group.now in
    let row = c.row-row.result.now in
    let since = row_since l.layout.now l.number row l.level.now c.row-row.ensures c.requires.layer.level_is ∙ ap (λ (v : Level). (out-Level v).since) c.requires.level in
    let dim = group_dim l.layout.now l.number row c.in-Some.dim g c.row-row.ensures c.in-Some.is c.requires.dim in
    let found = told l g row c.args.at since c.if-row-layer.false c.requires.read in
    omega (arith, c.requires.at, stood_room l.mode.order c.in-Some.dim (out-Group g).dim dim _ l.body.now c.args.at found.0 found.1)

-- those are the numbers that were read
same : (l : Layer) (g : Group) (row : DimRow) (at : ℕ) (x : ℕ × ℕ) (d : Dim) → DimIs row (out-Group g).dim →
    Ok x ≡ dim_from l.mode.order (out-Group g).dim (floor l.mode.version (out-Level (out-Group g).level).fields) l.body.now at →
    d.block ≡ number_at l.mode.order (as_spot row.block) (take row.width (drop at l.body.now)) → d.count ≡ number_at l.mode.order (as_spot row.count) (take row.width (drop at l.body.now)) →
    x ≡ (d.block, d.count)
same l g row at x d is told blocks counts =
    stood_numbers l.mode.order row (out-Group g).dim is _ l.body.now at x told ∙ ap₂ (λ (n m : ℕ). (n, m)) (sym blocks) (sym counts)

pub returns-clause-told : goal.returns-clause-told
returns-clause-told c =
    let l = c.args.layer.now in
    let g = c.args.group.now in
    let d = c.stood_dim.result in
    let row = c.row-row.result.now in
    let since = row_since l.layout.now l.number row l.level.now c.row-row.ensures c.requires.layer.level_is ∙ ap (λ (v : Level). (out-Level v).since) c.requires.level in
    let dim = group_dim l.layout.now l.number row c.in-Some.dim g c.row-row.ensures c.in-Some.is c.requires.dim in
    let found = told l g row c.args.at since c.if-row-layer.false c.requires.read in
    let numbers = same l g c.in-Some.dim c.args.at found.0 d dim found.1 c.stood_dim.ensures.block c.stood_dim.ensures.count in
    group_told l.mode g l.body.now c.args.at row.since _ d since c.if-row-layer.false refl (ap (λ (p : ℕ × ℕ). Ok p) (sym numbers) ∙ found.1)
    (c.stood_dim.ensures.after ∙ ap (λ w. c.args.at + w) dim.width) c.requires.read
    ∙ ap (λ (v : Level). then_read (times_read (entries_read l.mode v d.block) 0 d.count) (λ es. nothing (groupval.Entries es)) (drop d.after l.body.now)) (sym c.requires.level)

pub returns-clause-lie : goal.returns-clause-lie
returns-clause-lie c =
    let l = c.args.layer.now in
    let g = c.args.group.now in
    let d = c.stood_dim.result in
    let row = c.row-row.result.now in
    let since = row_since l.layout.now l.number row l.level.now c.row-row.ensures c.requires.layer.level_is ∙ ap (λ (v : Level). (out-Level v).since) c.requires.level in
    let dim = group_dim l.layout.now l.number row c.in-Some.dim g c.row-row.ensures c.in-Some.is c.requires.dim in
    let found = told l g row c.args.at since c.if-row-layer.false c.requires.read in
    let numbers = same l g c.in-Some.dim c.args.at found.0 d dim found.1 c.stood_dim.ensures.block c.stood_dim.ensures.count in
    let least = floor l.mode.version (out-Level (out-Group g).level).fields in
    let reached = subst (λ (p : ℕ × ℕ). 0 < p.1 → least ≤ p.0) numbers (stood_reaches l.mode.order c.in-Some.dim (out-Group g).dim dim least l.body.now c.args.at found.0 found.1) in
    let room = stood_room l.mode.order c.in-Some.dim (out-Group g).dim dim least l.body.now c.args.at found.0 found.1 in
    lie_there l c.args.at (floor l.mode.version (out-Level l.level.now).fields) d (subst (λ (r : Result (GroupVal × List ℕ) Fault). IsOk r) (returns-clause-told c) c.requires.read) refl
    (subst (λ (v : Level). 0 < d.count → floor l.mode.version (out-Level v).fields ≤ d.block) (sym c.requires.level) reached)
    (omega (arith, c.stood_dim.ensures.after, c.requires.at, room))
