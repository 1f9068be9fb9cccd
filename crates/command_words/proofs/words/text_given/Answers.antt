use Rattle.std.proofs.Common.{◌≤◌, List, ℕ, length, subst, ◌∙◌}
use Rattle.command_words.proofs.WordOptions.{more_given}
use Rattle.command_words.proofs.words.text_given.Goals as goal

pub returns : goal.returns
returns c = more_given _ (subst (λ (values : List (List ℕ)). 2 ≤ length values) (c.as_slice.ensures ∙ c.in-Ok.ensures) c.in_default-as_slice.len_at_least)
