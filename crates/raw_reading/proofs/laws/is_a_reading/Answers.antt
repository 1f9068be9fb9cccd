use Rattle.raw_reading.proofs.IsRawReading.{raw_is_reading}
use Rattle.raw_reading.proofs.laws.is_a_reading.Goals as goal

pub returns : goal.returns
returns c = raw_is_reading
