-- Up and back down is the same message.
use Rattle.std.proofs.Common.{◌≡◌, ℕ, ◌<◌, true, false, List, Some, None, Result, Ok, Err, refl, sym, ap, ◌∙◌, arith}
use Rattle.std.specs.Prelude.{nat_le, nat_lt, slice_get, if◌then◌else◌}
use Rattle.std.proofs.lemmas.Bool.{le-leb}
use Rattle.std.proofs.lemmas.Bool.Decides.{nat_tests}
use Rattle.sbe_types.specs.declared.path.Step.{Step}
use Rattle.sbe_types.specs.declared.schema.Level.{Level, out-Level}
use Rattle.sbe_types.specs.declared.schema.WireSchema.{WireSchema}
use Rattle.sbe_types.specs.declared.message.Block.{Block}
use Rattle.sbe_types.specs.declared.message.Msg.{Msg}
use Rattle.sbe_wire.specs.Faults.{message_named}
use Rattle.sbe_wire.specs.Fits.{Fits}
use Rattle.sbe_wire.specs.Placed.{IsPlaced}
use Rattle.sbe_wire.proofs.Messages.{named_is}
pub use Rattle.sbe_wire.proofs.Messages.{named_id}
use Rattle.version_laws.specs.Differ.{differ}
use Rattle.version_laws.specs.Projected.{projected, projected_from, lifted, lifted_from, with_block, projected_block, lifted_block}
use Rattle.version_laws.proofs.Stands.{Listed}
use Rattle.version_laws.proofs.Tests.{schema_stands}
use Rattle.regrade_laws.specs.Filled.{filled_block}
use Rattle.regrade_laws.specs.Regraded.{in_version, filled_by, filled_in, moved, regraded}
use Rattle.regrade_laws.proofs.Back.{back_block}
use Rattle.regrade_laws.proofs.Fitting.{there_block, block_has}

version_ok : (version : ℕ) (m n : Msg) (b : Result Block (List Step)) → in_version version m b ≡ Ok n → (c : Block) × (b ≡ Ok c) × (n ≡ record { template = m.template; version = version; block = c })
version_ok version m n (Err path) h = cc
version_ok version m n (Ok c) h = (c, refl, cc)

pub back : (from to : WireSchema) → differ from to ≡ None → IsPlaced from → from.version < to.version → (m n : Msg) → Fits from m → regraded from to m ≡ Ok n → regraded to from n ≡ Ok m
back from to same placed later m n fits told =
    let stands = schema_stands from to same in
    let level = fits.0 in
    let at : slice_get from.messages m.template ≡ Some level = fits.1 in
    let there = stands.messages m.template level at in
    let t : ℕ × Level = there.0 in
    let lift : Block = lifted_block from.version t.1 m.block in
    let moves : Msg = record { template = t.0; version = m.version; block = lift } in
    let up : nat_le from.version to.version ≡ true = le-leb from.version to.version (omega arith) in
    let down : nat_le to.version from.version ≡ false = grind (arith, nat_tests, later) in
    let lifts : moved from to m ≡ Some moves =
    ap (λ b. if b then lifted from to m else projected to from m) up ∙ ap (lifted_from from to m) at ∙ ap (λ o. with_block m o (λ other. lifted_block from.version other m.block)) there.1
    in
    let t_at : slice_get to.messages t.0 ≡ Some t.1 = named_is to (out-Level level).id t there.1 in
    let filled : regraded from to m ≡ in_version to.version moves (filled_block t.1 lift) = ap (filled_in to) lifts ∙ ap (filled_by to.version moves) t_at in
    let ok = version_ok to.version moves n (filled_block t.1 lift) (sym filled ∙ told) in
    let c : Block = ok.0 in
    let R = Listed (nat_lt from.version to.version) in
    let has = block_has R from.version from.order level t.1 m.block there.2 fits.3 in
    let down_block : projected_block from.version t.1 c ≡ m.block = back_block from.version t.1 m.block c has ok.1 in
    let id : (out-Level t.1).id ≡ (out-Level level).id = named_id 0 (out-Level level).id to.messages t there.1 in
    let first : message_named 0 (out-Level t.1).id from.messages ≡ Some (m.template, level) = ap (λ i. message_named 0 i from.messages) id ∙ placed.ids m.template level at in
    let up_message : Msg = record { template = t.0; version = to.version; block = c } in
    let back_message : Msg = record { template = m.template; version = to.version; block = m.block } in
    let drops : moved to from up_message ≡ Some back_message =
    ap (λ b. if b then lifted to from up_message else projected from to up_message) down ∙ ap (projected_from from up_message) t_at
    ∙ ap (λ o. with_block up_message o (λ other. projected_block from.version t.1 c)) first ∙ ap (λ b. let x : Msg = record { template = m.template; version = to.version; block = b } in Some x) down_block
    in
    let kept : filled_block level m.block ≡ Ok m.block = there_block from.order level m.block fits.3 in
    let version : m.version ≡ from.version = fits.2 in
    ap (regraded to from) ok.2 ∙ ap (filled_in from) drops ∙ ap (filled_by from.version back_message) at ∙ ap (in_version from.version back_message) kept
    ∙ ap (λ v. let x : Msg = record { template = m.template; version = v; block = m.block } in Ok x) (sym version)
