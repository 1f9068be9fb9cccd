-- A rewritten message counts few parts beside the bytes that it was read from.
use Rattle.std.proofs.Common.{◌≡◌, ◌≤◌, ℕ, List, [], ◌∷◌, ◌++◌, length, ap, arith}
use Rattle.sbe_types.specs.declared.kind.Primitive.{Primitive}
use Rattle.sbe_types.specs.declared.kind.Primitive.TheVariants.{Char, I8, I16, I32, I64, U8, U16, U32, U64}
use Rattle.sbe_types.specs.declared.schema.WireSchema.{WireSchema}
use Rattle.sbe_types.specs.declared.message.Msg.{Msg}
use Rattle.sbe_types.specs.Numbers.{prim_width}
use Rattle.sbe_types.specs.Places.{members_end}
use Rattle.sbe_wire.specs.Lays.{Lays}
use Rattle.schema_facts.specs.IsChecked.{IsChecked}
use Rattle.schema_facts.specs.Measured.{IsSmall}
use Rattle.command_steps.specs.Replies.{HasParts, most_parts}
use Rattle.replies.specs.declared.verdict.Verdict.TheVariants.{Regraded}
use Rattle.regrade_laws.specs.Counts.{dropped, filled}
use Rattle.regrade_laws.specs.Sizes.{most_among}
use Rattle.regrade_laws.proofs.Fit.{dropped_fits, filled_fits}
use Rattle.regrade_command.specs.Regrade.{FromTo, IsRegradable}

small_wide : (p : Primitive) → IsSmall p → 1 ≤ prim_width p
small_wide U8 h = omega arith
small_wide U16 h = omega arith
small_wide U32 h = omega arith
small_wide U64 h = absurd h
small_wide Char h = absurd h
small_wide I8 h = absurd h
small_wide I16 h = absurd h
small_wide I32 h = absurd h
small_wide I64 h = absurd h

front_size : (a b c d : List ℕ) → length a ≤ length (a ++ b ++ c ++ d)
front_size [] b c d = omega arith
front_size (x ∷ a) b c d = omega (arith, front_size a b c d)

-- a body has at least the bytes of a number of its header
pub some_bytes : (schema : WireSchema) (m : Msg) (body : List ℕ) → IsChecked schema → Lays schema m body → 1 ≤ length body
some_bytes schema m body checked lies =
    let counter = checked.measured.header.block in
    let wide : 1 ≤ prim_width counter.0.leaf.prim = small_wide counter.0.leaf.prim counter.2.small in
    let head : length lies.1 ≡ members_end 0 schema.header.members = lies.7.wide in
    let front = front_size lies.1 lies.2 lies.3 lies.4 in
    omega (arith, wide, head, front, counter.2.inside, ap length lies.6)

few : (n : ℕ) (bytes : ℕ) → 1 ≤ bytes → n ≤ most_among bytes → n ≤ most_parts bytes
few n bytes some most = omega (arith, some, most)

pub regraded_parts : (pair : FromTo) (m : Msg) (body : List ℕ) → IsRegradable pair → Lays pair.from m body →
    HasParts (length body) (Regraded (dropped pair.from pair.to m) (filled pair.from pair.to m))
regraded_parts pair m body good lies =
    let some = some_bytes pair.from m body good.from lies in
    record {
      dropped = few (dropped pair.from pair.to m) (length body) some (dropped_fits pair.from pair.to good.way.0 good.way.1 good.from good.to m body lies);
      filled = few (filled pair.from pair.to m) (length body) some (filled_fits pair.from pair.to good.way.0 good.way.1 good.from good.to m body lies);
    }
