use Rattle.std.proofs.Common.{◌≤◌, length}
use Rattle.sbe_types.specs.declared.schema.DataField.{DataField}
use Rattle.clean_bodies.specs.Steps.{PartStep}
use Rattle.clean_bodies.proofs.Chains.{Leads}
use Rattle.clean_walk.specs.inner.Places.{place_in}
use Rattle.clean_walk.proofs.walk.parts_end.Given as goal

abbrev pub invariant-loop-part : goal.invariant-loop-part
invariant-loop-part l = record { near : l.next ≤ length l.body; leads : Leads DataField (PartStep (place_in l.layout l.body)) l.parts l.part-index l.next l.fn.at }
