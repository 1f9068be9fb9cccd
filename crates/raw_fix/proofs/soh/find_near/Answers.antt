use Rattle.std.proofs.Common.{arith}
use Rattle.raw_fix.proofs.NearLemmas.{near_whole, near_front}
use Rattle.raw_fix.proofs.soh.find_near.Goals as goal

pub returns-then-bytes-most : goal.returns-then-bytes-most
returns-then-bytes-most c = near_whole c.args.most c.args.bytes.now c.find_soh.result (omega (arith, c.if-bytes-most.true)) c.find_soh.ensures

pub returns : goal.returns
returns c = near_front c.args.most c.args.bytes.now c.find_soh-2.result c.find_soh-2.ensures
