use Rattle.std.proofs.Common.{Some, Ok, Err, subst, sym}
use Rattle.raw_fix.specs.declared.items.Settled.TheVariants as settled
use Rattle.raw_fix.specs.declared.taken.RawTaken.TheVariants as taken
use Rattle.raw_fix.specs.declared.taken.RawErr.TheVariants as err
use Rattle.raw_fix.specs.declared.taken.RawEnded.TheVariants as ended
use Rattle.raw_fix.specs.Items.{ItemState, Nexts, texts_of, raw_shown}
use Rattle.raw_fix.specs.Taking.{Lefts, TakesRaw, lefts_if, texts_for}
use Rattle.raw_fix.proofs.TakeLemmas.{takes_next}
use Rattle.raw_fix.proofs.stream.RawStream.take.Goals as goal

pub returns-in-Ok-Message-clause-takes : goal.returns-in-Ok-Message-clause-takes
returns-in-Ok-Message-clause-takes g c = λ none.
    let s = c.self.inside in
    let lefts : Lefts = record { before = (g.I.Source.state c.args.input.now).told; after = (g.I.Source.state c.next.new.input).told } in
    let n = c.in-Ok-Message.n in
    let next = subst (λ (x : ItemState). Nexts (texts_of c.args.tags.now x) x c.next.new.self (lefts_if x.met lefts) (Ok (settled.Message n))) c.release.ensures (rw c.in-Ok-Message.field-0-is at c.in-Ok-Message.ensures.nexts) in
    let takes = takes_next (texts_of c.args.tags.now s.items) s.items c.next.new.self s.text s.ended (lefts_if s.items.met lefts) (Ok (settled.Message n)) next in
    subst (λ old. TakesRaw (texts_for c.args.tags.now old) old (raw_shown n c.next.new.self s.ended) (lefts_if old.met lefts) (Ok taken.Message)) c.self.view_is
    (subst (λ e. TakesRaw (texts_of c.args.tags.now s.items) (raw_shown s.text s.items s.ended) (raw_shown n c.next.new.self e) (lefts_if s.items.met lefts) (Ok taken.Message)) (sym c.in_default.is) takes)

pub returns-in-Ok-Garbled-clause-takes : goal.returns-in-Ok-Garbled-clause-takes
returns-in-Ok-Garbled-clause-takes g c = λ none.
    let s = c.self.inside in
    let lefts : Lefts = record { before = (g.I.Source.state c.args.input.now).told; after = (g.I.Source.state c.next.new.input).told } in
    let run = c.in-Ok-Garbled.run' in
    let told = Ok (taken.Garbled run.code run.at run.length) in
    let next = subst (λ (x : ItemState). Nexts (texts_of c.args.tags.now x) x c.next.new.self (lefts_if x.met lefts) (Ok (settled.Garbled run))) c.release.ensures (rw c.in-Ok-Garbled.field-0-is at c.in-Ok-Garbled.ensures.nexts) in
    let takes = takes_next (texts_of c.args.tags.now s.items) s.items c.next.new.self s.text s.ended (lefts_if s.items.met lefts) (Ok (settled.Garbled run)) next in
    subst (λ old. TakesRaw (texts_for c.args.tags.now old) old (raw_shown 0 c.next.new.self s.ended) (lefts_if old.met lefts) told) c.self.view_is
    (subst (λ e. TakesRaw (texts_of c.args.tags.now s.items) (raw_shown s.text s.items s.ended) (raw_shown 0 c.next.new.self e) (lefts_if s.items.met lefts) told) (sym c.in_default.is) takes)

pub returns-in-Ok-End-clause-takes : goal.returns-in-Ok-End-clause-takes
returns-in-Ok-End-clause-takes g c = λ none.
    let s = c.self.inside in
    let lefts : Lefts = record { before = (g.I.Source.state c.args.input.now).told; after = (g.I.Source.state c.next.new.input).told } in
    let next = subst (λ (x : ItemState). Nexts (texts_of c.args.tags.now x) x c.next.new.self (lefts_if x.met lefts) (Ok settled.End)) c.release.ensures (rw c.in-Ok-End.field-0-is at c.in-Ok-End.ensures.nexts) in
    subst (λ old. TakesRaw (texts_for c.args.tags.now old) old (raw_shown 0 c.next.new.self (Some ended.End)) (lefts_if old.met lefts) (Ok taken.End)) c.self.view_is
    (takes_next (texts_of c.args.tags.now s.items) s.items c.next.new.self s.text s.ended (lefts_if s.items.met lefts) (Ok settled.End) next)

pub returns-in-Err-InputLimit-clause-takes : goal.returns-in-Err-InputLimit-clause-takes
returns-in-Err-InputLimit-clause-takes g c = λ none.
    let s = c.self.inside in
    let lefts : Lefts = record { before = (g.I.Source.state c.args.input.now).told; after = (g.I.Source.state c.next.new.input).told } in
    let next = subst (λ (x : ItemState). Nexts (texts_of c.args.tags.now x) x c.next.new.self (lefts_if x.met lefts) (Err err.InputLimit)) c.release.ensures (rw c.in-Err-InputLimit.field-0-is at c.in-Err-InputLimit.ensures.nexts) in
    subst (λ old. TakesRaw (texts_for c.args.tags.now old) old (raw_shown 0 c.next.new.self (Some ended.Limit)) (lefts_if old.met lefts) (Err err.InputLimit)) c.self.view_is
    (takes_next (texts_of c.args.tags.now s.items) s.items c.next.new.self s.text s.ended (lefts_if s.items.met lefts) (Err err.InputLimit) next)

pub returns-in-Err-ReadFault-clause-takes : goal.returns-in-Err-ReadFault-clause-takes
returns-in-Err-ReadFault-clause-takes g c = λ none.
    let s = c.self.inside in
    let lefts : Lefts = record { before = (g.I.Source.state c.args.input.now).told; after = (g.I.Source.state c.next.new.input).told } in
    let next = subst (λ (x : ItemState). Nexts (texts_of c.args.tags.now x) x c.next.new.self (lefts_if x.met lefts) (Err err.ReadFault)) c.release.ensures (rw c.in-Err-ReadFault.field-0-is at c.in-Err-ReadFault.ensures.nexts) in
    let takes = takes_next (texts_of c.args.tags.now s.items) s.items c.next.new.self s.text s.ended (lefts_if s.items.met lefts) (Err err.ReadFault) next in
    subst (λ old. TakesRaw (texts_for c.args.tags.now old) old (raw_shown 0 c.next.new.self s.ended) (lefts_if old.met lefts) (Err err.ReadFault)) c.self.view_is
    (subst (λ e. TakesRaw (texts_of c.args.tags.now s.items) (raw_shown s.text s.items s.ended) (raw_shown 0 c.next.new.self e) (lefts_if s.items.met lefts) (Err err.ReadFault)) (sym c.in_default.is) takes)
