use Rattle.std.proofs.Common.{◌≡◌, ◌≤◌, ◌∙◌, sym, ap, arith, length, Bool, true, false, List, map, refl, Some}
use Rattle.std.proofs.lemmas.Slice.Eq.{slice_eq-Decides}
use Rattle.schema_rules.specs.Chains.{item_goes_on}
use Rattle.type_facts.specs.Tables.{table_chain}
use Rattle.type_facts.proofs.TableLemmas.{last_round, flags_decided}
use Rattle.type_facts.proofs.chains.find_chains.Goals as goal

pub returns-then-eq : goal.returns-then-eq
returns-then-eq c =
    let left : c.as_slice-in-rounds.result.now ≡ c.in_ok-next.next = c.as_slice-in-rounds.ensures in
    let right : c.as_slice-in-rounds-2.result.now ≡ c.rounds.table = c.as_slice-in-rounds-2.ensures in
    let both : c.as_slice-in-rounds.result.now ≡ c.as_slice-in-rounds-2.result.now =
    (slice_eq-Decides flags_decided c.as_slice-in-rounds.result.now c.as_slice-in-rounds-2.result.now true c.if-eq.ensures).0 refl in
    let same : c.in_ok-next.next ≡ c.rounds.table = sym left ∙ both ∙ right in
    let all : length c.as_slice-done-end.result.now ≡ length c.args.types.now = ap length c.as_slice-done-end.ensures in
    let made : c.in_ok-next.next ≡ map (λ t. item_goes_on (table_chain c.args.types.now c.rounds.table) (Some t)) c.args.types.now =
    c.in_ok-next.ensures ∙ ap (λ (e : List Bool). map (λ t. item_goes_on (table_chain c.args.types.now e) (Some t)) c.args.types.now) c.as_slice.ensures in
    last_round (length c.args.types.now) c.rounds.done c.args.types.now c.rounds.table c.in_ok-next.next (omega arith) c.rounds.invariant made same
