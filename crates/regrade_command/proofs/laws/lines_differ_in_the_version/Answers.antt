use Rattle.std.proofs.Common.{◌≡◌, ◌∙◌, inl, refl, sym, subst, Result, Ok}
use Rattle.sbe_types.specs.declared.message.Msg.{Msg}
use Rattle.version_laws.proofs.BodyMoves.{projects}
use Rattle.version_laws.proofs.Tests.{schema_stands}
use Rattle.version_lines.specs.Answered.{IsShown, alone, shown_line}
use Rattle.version_lines.proofs.OneAnswer.{shows, encoding_is}
use Rattle.regrade_laws.specs.Regraded.{Refusal}
use Rattle.regrade_laws.proofs.Down.{down}
use Rattle.regrade_command.proofs.laws.lines_differ_in_the_version.Goals as goal

pub returns : goal.returns
returns c = λ from to later placed h lower m p n came written sent late known plain told again number.
    let stands = schema_stands to from h in
    let drop : Msg = record { template = p.template; version = to.version; block = p.block } in
    let both : ◌≡◌ {A = Result Msg Refusal} (Ok n) (Ok drop) = sym told ∙ down from to h later lower m p came.body sent.lies late known in
    let same : n ≡ drop = cc in (
      shows to came p number placed (encoding_is from to m came sent (sym stands.order)) (projects to from stands later m p came.body (inl late) plain sent.lies known),
      subst (λ x. IsShown (alone to) number written (shown_line to x)) same (shows to written n number placed (encoding_is to to n written again refl) again.lies),
    )
