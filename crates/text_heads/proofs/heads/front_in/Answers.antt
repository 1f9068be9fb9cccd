use Rattle.std.specs.Option.{option_map}
use Rattle.text_heads.proofs.Given.{given_ready, head_alone, head_header}
use Rattle.text_heads.proofs.heads.front_in.Goals as goal

pub returns-clause-ready : goal.returns-clause-ready
returns-clause-ready c = record {
  begin = c.in_ok-begin.ensures.value;
  sender = given_ready c.args.own.sender _ c.given_in-sender.ensures;
  target = given_ready c.args.own.target _ c.given_in-target.ensures;
  time = given_ready c.args.own.time _ c.given_in-time.ensures;
}

pub returns-clause-header : goal.returns-clause-header
returns-clause-header c = λ pairs lists same are.
    head_header pairs lists same c.args.own
    (record {
      begin = c.in_ok-begin.begin.value.now;
      sender = option_map (λ v. v.now) c.given_in-sender.result.value;
      target = option_map (λ v. v.now) c.given_in-target.result.value;
      seq = c.number_in-seq.result.value;
      time = option_map (λ v. v.now) c.given_in-time.result.value;
    }) are c.given_in-sender.ensures c.given_in-target.ensures c.number_in-seq.ensures c.given_in-time.ensures

pub returns-clause-alone : goal.returns-clause-alone
returns-clause-alone c = λ pairs lists same are.
    head_alone pairs lists c.args.own
    (record {
      begin = c.in_ok-begin.begin.value.now;
      sender = option_map (λ v. v.now) c.given_in-sender.result.value;
      target = option_map (λ v. v.now) c.given_in-target.result.value;
      seq = c.number_in-seq.result.value;
      time = option_map (λ v. v.now) c.given_in-time.result.value;
    }) are c.given_in-sender.ensures c.given_in-target.ensures c.number_in-seq.ensures c.given_in-time.ensures
