use Rattle.std.proofs.Common.{refl, subst, sym}
use Rattle.set_texts.specs.Runs.{AreRuns}
use Rattle.set_texts.proofs.Written.{text_is}
use Rattle.set_texts.proofs.texts.SetTexts.text_in.Goals as goal

pub returns : goal.returns
returns c = λ codes has.
    let are = subst (λ runs. AreRuns runs codes) (sym c.as_slice.ensures) has in
    text_is codes c.args.bits c.in_ok-written.written c.write_parts.new.room _ (c.in_ok-written.ensures.all codes are) c.if-written-bits.false c.if-written-lt2.false refl
