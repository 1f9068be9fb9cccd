use Rattle.layout_names.proofs.OwnNames.{own_field, own_group, own_data}
use Rattle.layout_names.proofs.laws.parts_are_found_by_their_names.Goals as goal

pub returns-clause-fields : goal.returns-clause-fields
returns-clause-fields c = own_field

pub returns-clause-groups : goal.returns-clause-groups
returns-clause-groups c = own_group

pub returns-clause-parts : goal.returns-clause-parts
returns-clause-parts c = own_data
