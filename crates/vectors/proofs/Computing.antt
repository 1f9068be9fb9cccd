-- One name for all that a worked row opens: a proof with the line `unfolding computing` computes.
use denote.Hole.Carrier as carrier
use Rattle.sbe_types.specs.declared.schema.Level as level
use Rattle.rand_core.specs.Pcg32Seed.{pcg32_seed}
use Rattle.rand_core.specs.Steps.{word_bytes, u32_at}
use Rattle.vectors.specs.Drawing.{below, each, times, words_of}
use Rattle.vectors.specs.Values.{bits_drawn, value_drawn}
use Rattle.vectors.specs.Messages.{block_drawn, generated}
use Rattle.vectors.specs.Altered.{altered}

unfoldable pub computing : Unit {0}
unfolding pcg32_seed word_bytes u32_at below each times words_of bits_drawn value_drawn block_drawn generated altered level.out-Level carrier.out
computing = tt
