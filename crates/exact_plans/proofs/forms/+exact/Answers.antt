use Rattle.std.proofs.Common.{◌≡◌, ◌+◌, Bool, true, false, drop, ap, arith, ◌∙◌, sym}
use Rattle.std.specs.Prelude.{◌&&◌}
use Rattle.std.specs.List.{list_all}
use Rattle.sbe_types.specs.declared.schema.Level.{out-Level}
use Rattle.exact_plans.specs.Exact.{is_exact_group, is_of_one_form}
use Rattle.exact_plans.proofs.Exact.{all_dropped, exact_open, group_open}
use Rattle.exact_plans.proofs.forms.+exact.Goals as goal

pub are_exact-returns-then-not-is_of_one_form : goal.are_exact-returns-then-not-is_of_one_form
are_exact-returns-then-not-is_of_one_form t c =
    let own : is_exact_group c.group-item.result ≡ false = group_open c.group-item.result ∙ sym c.is_of_one_form.ensures ∙ c.if-not-is_of_one_form.true in
    let is = all_dropped is_exact_group c.args.groups.now c.loop-group.group-index c.group-item.result (omega arith) c.group-item.is in
    sym (sym c.loop-group.invariant ∙ is ∙ ap (λ (b : Bool). b && list_all is_exact_group (drop (c.loop-group.group-index + 1) c.args.groups.now)) own)

pub are_exact-loop-group-preserved : goal.are_exact-loop-group-preserved
are_exact-loop-group-preserved t c =
    let own : is_exact_group c.group-item.result ≡ true = group_open c.group-item.result ∙ sym c.is_of_one_form.ensures ∙ c.if-not-is_of_one_form.false in
    let is = all_dropped is_exact_group c.args.groups.now c.loop-group.group-index c.group-item.result (omega arith) c.group-item.is in
    sym (is ∙ ap (λ (b : Bool). b && list_all is_exact_group (drop (c.loop-group.group-index + 1) c.args.groups.now)) own) ∙ c.loop-group.invariant

pub is_of_one_form-returns-then-have_one_form : goal.is_of_one_form-returns-then-have_one_form
is_of_one_form-returns-then-have_one_form t c =
    let level = c.args.level.now in
    let fields : list_all is_of_one_form (out-Level level).fields ≡ true = sym (c.have_one_form.ensures ∙ ap (list_all is_of_one_form) c.as_slice.ensures) ∙ c.if-have_one_form.true in
    c.are_exact.ensures ∙ ap (list_all is_exact_group) c.as_slice-then-have_one_form.ensures
    ∙ sym (exact_open level ∙ ap (λ (b : Bool). b && list_all is_exact_group (out-Level level).groups) fields)

pub is_of_one_form-returns-else-have_one_form : goal.is_of_one_form-returns-else-have_one_form
is_of_one_form-returns-else-have_one_form t c =
    let level = c.args.level.now in
    let fields : list_all is_of_one_form (out-Level level).fields ≡ false = sym (c.have_one_form.ensures ∙ ap (list_all is_of_one_form) c.as_slice.ensures) ∙ c.if-have_one_form.false in
    c.if-have_one_form.false ∙ sym (exact_open level ∙ ap (λ (b : Bool). b && list_all is_exact_group (out-Level level).groups) fields)
