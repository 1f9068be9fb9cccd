use Rattle.map_links.proofs.ids.Ids.new.Goals as goal

pub returns : goal.returns
returns c = λ j. record { fields = c.in_ok-fields.ensures j; components = c.in_ok-components.ensures j; groups = c.in_ok-groups.ensures j; msg_types = c.in_ok-msg_types.ensures j }
