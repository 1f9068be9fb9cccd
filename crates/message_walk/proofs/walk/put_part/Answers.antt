use Rattle.std.specs.Option.{option_map}
use Rattle.message_walk.proofs.Slots.{data_slot}
use Rattle.message_walk.proofs.walk.put_part.Goals as goal

pub returns-clause-put : goal.returns-clause-put
returns-clause-put g c = λ lists s at there.
    data_slot g.R.PutValue.spells lists c.args.out.now (record { put = c.put_data.result; draft = c.put_data.new.out; halt = c.put_data.new.halt }) c.args.row.now c.args.length.now s c.args.block.now (option_map (λ b. b.now) c.data_at-found.result)
    c.requires.part at there c.data_at-found.ensures.data (λ own leaf is paired. c.put_data.ensures.raw own lists leaf is paired) (λ leaf is unpaired. c.put_data.ensures.passage lists leaf is unpaired)
