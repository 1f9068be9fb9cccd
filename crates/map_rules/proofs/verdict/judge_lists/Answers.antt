use Rattle.std.proofs.Common.{flat_map}
use Rattle.map_types.specs.Trees.{datatypes_of}
use Rattle.map_rules.proofs.Keys.{set_names}
use Rattle.map_rules.proofs.verdict.judge_lists.Goals as goal

pub judge_code_sets-requires : goal.judge_code_sets-requires
judge_code_sets-requires c =
    record { names = set_names c.in_ok-tables.tables (flat_map datatypes_of c.args.items.now) c.args.code_sets.now c.args.fields.now c.in_ok-tables.ensures }
