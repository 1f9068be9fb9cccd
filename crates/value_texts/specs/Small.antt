-- Decimals with a mantissa of at most 64 bits. Own profile.
use Rattle.std.specs.Prelude.{◌/◌, ◌%◌, ◌^◌}
use Rattle.fix_values.specs.Decimals.{Parts, parts_shown}
use Rattle.value_texts.specs.declared.small.SmallDecimal.{SmallDecimal}

-- the parts of such a decimal as they are shown
abbrev pub small_parts : SmallDecimal → Parts
small_parts d = parts_shown d.negative (d.size / 10 ^ d.places) d.places (d.size % 10 ^ d.places)
