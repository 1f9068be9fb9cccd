use Rattle.std.proofs.Common.{rules, ◌≡◌, refl}
use Rattle.sbe_types.specs.declared.schema.Level.{out-Level}
use Rattle.std.proofs.lemmas.Option.{slice_get_within}
use Rattle.version_copies.proofs.Copying.{named_there, same_there}
use Rattle.version_copies.proofs.twins.same_in.Goals as goal

pub message-requires : goal.message-requires
message-requires c =
    let to = c.args.to.now in
    let found = named_there to (out-Level c.message-level.result.now).id c.in_ok-place.place c.in_ok-place.ensures in
    slice_get_within to.messages c.in_ok-place.place found.0 found.2

pub returns-clause-same : goal.returns-clause-same
returns-clause-same c =
    let from = c.args.from.now in
    let to = c.args.to.now in
    let order : from.order ≡ to.order = search rules in
    same_there from to c.args.template c.in_ok-place.place c.message-level.result.now c.message.result.now c.message-level.ensures c.in_ok-place.ensures c.message.ensures
    (c.if-not-is_same_level.ensures.0 refl) order

pub returns-clause-within : goal.returns-clause-within
returns-clause-within c =
    let to = c.args.to.now in
    let found = named_there to (out-Level c.message-level.result.now).id c.in_ok-place.place c.in_ok-place.ensures in
    slice_get_within to.messages c.in_ok-place.place found.0 found.2
