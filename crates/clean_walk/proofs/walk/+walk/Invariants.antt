use Rattle.std.proofs.Common.{◌≡◌, ◌≤◌, ◌+◌, ◌-◌, ◌*◌, length}
use Rattle.sbe_types.specs.declared.schema.Group.{Group}
use Rattle.sbe_types.specs.declared.schema.Level.{out-Level}
use Rattle.schema_facts.specs.Levels.{all_nodes}
use Rattle.layout_tables.proofs.GroupWalk.{GroupsFrom}
use Rattle.clean_bodies.specs.Steps.{EntryStep, GroupStep}
use Rattle.clean_bodies.proofs.Chains.{Leads, LeadsTimes}
use Rattle.clean_walk.specs.inner.Places.{place_in}
use Rattle.clean_walk.proofs.walk.+walk.Given as goal

abbrev pub invariant-groups_end-loop-group : goal.invariant-groups_end-loop-group
invariant-groups_end-loop-group l = record {
  near : l.next ≤ length l.body;
  same : l.groups ≡ (out-Level l.level).groups;
  from : GroupsFrom l.layout l.n l.group-index l.child;
  leads : Leads Group (GroupStep (place_in l.layout l.body)) l.groups l.group-index l.next l.fn.at;
}

abbrev pub invariant-entries_end-loop-done : goal.invariant-entries_end-loop-done
invariant-entries_end-loop-done l =
    record { near : l.next ≤ length l.body; leads : LeadsTimes (EntryStep (place_in l.layout l.body) l.level) l.count l.done l.next l.fn.at }

abbrev pub decreases-entry_end : goal.decreases-entry_end
decreases-entry_end l = 4 * (length (all_nodes l.layout.now) - l.n) + 1

abbrev pub decreases-groups_end : goal.decreases-groups_end
decreases-groups_end l = 4 * (length (all_nodes l.layout.now) - l.n)

abbrev pub decreases-group_end : goal.decreases-group_end
decreases-group_end l = 4 * (length (all_nodes l.layout.now) - l.n) + 3

abbrev pub decreases-entries_end : goal.decreases-entries_end
decreases-entries_end l = 4 * (length (all_nodes l.layout.now) - l.n) + 2
