-- Members that end within the largest offset, one after another.
use Rattle.std.proofs.Common.{◌≡◌, ◌+◌, ℕ, List, drop, Some, sym, subst}
use Rattle.std.specs.Prelude.{slice_get}
use Rattle.sbe_types.specs.declared.kind.Member.{Member}
use Rattle.sbe_types.specs.Places.{end_past}
use Rattle.schema_facts.specs.Measured.{IsNarrow, EndsWithin}
use Rattle.schema_facts.proofs.KindLists.{NarrowList}
use Rattle.version_project.proofs.Items.{drop_at}

-- one more member
pub narrow_next : (e : ℕ) (ms : List Member) (i : ℕ) (m : Member) → slice_get ms i ≡ Some m → NarrowList e (drop i ms) →
    IsNarrow m.kind × EndsWithin e m.offset m.kind × NarrowList (end_past e m.offset m.kind) (drop (i + 1) ms)
narrow_next e ms i m at all = subst (NarrowList e) (drop_at ms i m at) all

-- and the end after it
pub narrow_goes : (e next : ℕ) (ms : List Member) (i : ℕ) (m : Member) → slice_get ms i ≡ Some m → next ≡ end_past e m.offset m.kind → NarrowList e (drop i ms) → NarrowList next (drop (i + 1) ms)
narrow_goes e next ms i m at is all = subst (λ n. NarrowList n (drop (i + 1) ms)) (sym is) (narrow_next e ms i m at all).2
