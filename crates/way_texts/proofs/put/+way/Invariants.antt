use Rattle.std.proofs.Common.{◌+◌, ◌*◌, length}
use Rattle.way_texts.proofs.put.+way.Given as goal

abbrev pub decreases-put_part : goal.decreases-put_part
decreases-put_part g l = 3 * length l.way.now + 2

abbrev pub decreases-put_group : goal.decreases-put_group
decreases-put_group g l = 3 * length l.way.now + 1

abbrev pub decreases-put_inside : goal.decreases-put_inside
decreases-put_inside g l = 3 * length l.way.now
