use Rattle.reference_laws.proofs.Meeting.{meets, ends_not}
use Rattle.reference_laws.proofs.laws.endless_is_to_meet_twice.Goals as goal

pub returns : goal.returns
returns c graph links = (meets graph links, ends_not graph links)
