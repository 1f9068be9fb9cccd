use Rattle.std.proofs.Common.{arith}
use Rattle.json_fields.proofs.CodeTexts.{code_written}
use Rattle.json_fields.proofs.by_table.put_row_name.Goals as goal

pub text_of_code-requires : goal.text_of_code-requires
text_of_code-requires g c = (c.args.row.now.kind, c.requires.codes)

pub put_front-requires-clause-run : goal.put_front-requires-clause-run
put_front-requires-clause-run g c = let text = c.in-Some.ensures c.args.row.now.kind c.requires.codes in omega (arith, text.few, text.size)

pub put_front-requires-clause-few : goal.put_front-requires-clause-few
put_front-requires-clause-few g c = let text = c.in-Some.ensures c.args.row.now.kind c.requires.codes in omega (arith, text.size)

pub returns-in-Some : goal.returns-in-Some
returns-in-Some g c = code_written c.args.row.now.kind c.args.bytes.now _ _ c.requires.row.order c.if-bytes-eq1.true (c.in-Some.ensures c.args.row.now.kind c.requires.codes) c.put_front.ensures
