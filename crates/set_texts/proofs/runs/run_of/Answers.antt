use Rattle.std.proofs.Common.{◌≡◌, length, take, subst}
use Rattle.std.specs.Prelude.{IfSome}
use Rattle.set_texts.specs.declared.runs.TheConstants.{PARTS}
use Rattle.set_texts.specs.Runs.{AreParts}
use Rattle.set_texts.proofs.RunTexts.{run_is}
use Rattle.set_texts.proofs.runs.run_of.Goals as goal

pub returns-in-Some-2-clause-run : goal.returns-in-Some-2-clause-run
returns-in-Some-2-clause-run c =
    let codes = take c.count_from-many.result c.args.codes.now in
    let told = subst (λ o. IfSome o (λ parts. (length parts ≡ PARTS) × AreParts parts c.in-Some.first codes)) c.in-Some-2.is c.in_ok-parts.ensures in
    run_is c.in-Some.first c.count_from-many.result c.in-Some-2.parts codes c.count_from-many.ensures.all told.1
