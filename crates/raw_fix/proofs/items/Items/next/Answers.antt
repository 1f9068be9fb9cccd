use Rattle.std.proofs.Common.{◌≡◌, ◌≤◌, ◌<◌, ◌∙◌, arith, length, refl, sym, ap, subst, true, Err}
use Rattle.std.specs.Prelude.{IfSome}
use Rattle.frame_stream.specs.declared.reading.Dry.TheVariants as dry
use Rattle.frame_stream.specs.Window.{HeldState, Reads}
use Rattle.raw_fix.specs.Items.{ItemState, texts_of}
use Rattle.raw_fix.specs.Taking.{left_if}
use Rattle.raw_fix.proofs.CourseLemmas.{course_begins, not_met, moves_if, reads_if, reads_none, none_if, turn_settled, turn_goes_on, turn_fault, turn_limit, turn_last, settled_fits, turn_fits}
use Rattle.raw_fix.proofs.items.Items.next.Goals as goal

pub loop-settled-init : goal.loop-settled-init
loop-settled-init g c =
    let s : ItemState = c.args.self.now in
    let there : length s.held.bytes ≤ s.held.taken = omega (arith, c.known-known.ensures.at) in
    let some : IfSome s.begun (λ r. 0 < r.length) = subst (λ b. IfSome b (λ r. 0 < r.length)) c.known-known.ensures.begun c.known-known.ensures.some in
    record {
      course = course_begins (texts_of c.args.tags.now s) s (left_if s.met (g.I.Source.state c.args.input.now).told) there c.known-known.ensures.input some;
      met = refl;
      same = λ e. refl;
      empty = c.requires.empty;
      faults = refl;
    }

pub returns-in-Some-clause-nexts : goal.returns-in-Some-clause-nexts
returns-in-Some-clause-nexts g c =
    let s : ItemState = c.args.self.now in
    let told = λ (o : _). (g.I.Source.state o).told in
    turn_settled c.args.tags.now s c.loop-settled.self c.settle.new.self (left_if s.met (told c.args.input.now)) (left_if s.met (told c.loop-settled.input)) c.loop-settled.invariant.course c.loop-settled.invariant.met
    c.in-Some.settled (none_if s.met (told c.loop-settled.input)) c.in-Some.ensures.settles

pub loop-settled-preserved : goal.loop-settled-preserved
loop-settled-preserved g c =
    let s : ItemState = c.args.self.now in
    let told = λ (o : _). (g.I.Source.state o).told in
    let runs = not_met s c.loop-settled.self c.settle.new.self (sym (ap (λ (x : ItemState). x.met) c.self.view_is) ∙ c.if-self.false) c.in-None.ensures.settles.4 c.loop-settled.invariant.met in
    record {
      course = turn_goes_on c.args.tags.now s c.loop-settled.self c.settle.new.self (left_if s.met (told c.args.input.now)) (left_if s.met (told c.loop-settled.input)) c.loop-settled.invariant.course c.loop-settled.invariant.met
          c.in-None.ensures.settles c.read.new.self (left_if s.met (told c.read.new.input)) c.read.ensures.begun (moves_if s.met _ _ (told c.loop-settled.input) (told c.read.new.input) runs c.in-Ok.ensures.reads.0);
      met = c.read.ensures.met ∙ c.in-None.ensures.settles.4 ∙ c.loop-settled.invariant.met;
      same = λ e. cc;
      empty = c.in-None.ensures.fields;
      faults = c.in-Ok.ensures.cause ∙ c.loop-settled.invariant.faults;
    }

pub returns-then-self-clause-nexts : goal.returns-then-self-clause-nexts
returns-then-self-clause-nexts g c =
    let s : ItemState = c.args.self.now in
    let wait : ItemState = c.settle.new.self in
    let told = λ (o : _). (g.I.Source.state o).told in
    let done : wait.met ≡ true = sym (ap (λ (x : ItemState). x.met) c.self.view_is) ∙ c.if-self.true in
    let met : s.met ≡ true = sym c.loop-settled.invariant.met ∙ sym c.in-None.ensures.settles.4 ∙ done in
    let held = ap (λ (x : ItemState). x.held) c.self.view_is in
    let within = subst (λ (h : HeldState). h.taken ≤ h.limit) held c.self.invariant.0.within in
    let fits = subst (λ (h : HeldState). length h.bytes ≤ h.size) held c.self.invariant.0.fits in
    turn_last c.args.tags.now s c.loop-settled.self wait (left_if s.met (told c.args.input.now)) (left_if s.met (told c.loop-settled.input)) c.loop-settled.invariant.course c.loop-settled.invariant.met
    c.in-None.ensures.settles wait (left_if s.met (told c.loop-settled.input)) refl done (reads_none s.met wait.held (told c.loop-settled.input) met within fits) c.finish.new.self c.finish.result c.finish.ensures.finishes

pub returns-then-self-clause-fits : goal.returns-then-self-clause-fits
returns-then-self-clause-fits g c =
    let s : ItemState = c.args.self.now in
    let wait : ItemState = c.settle.new.self in
    let told = λ (o : _). (g.I.Source.state o).told in
    let done : wait.met ≡ true = sym (ap (λ (x : ItemState). x.met) c.self.view_is) ∙ c.if-self.true in
    let met : s.met ≡ true = sym c.loop-settled.invariant.met ∙ sym c.in-None.ensures.settles.4 ∙ done in
    let held = ap (λ (x : ItemState). x.held) c.self.view_is in
    let within = subst (λ (h : HeldState). h.taken ≤ h.limit) held c.self.invariant.0.within in
    let fits = subst (λ (h : HeldState). length h.bytes ≤ h.size) held c.self.invariant.0.fits in
    turn_fits c.args.tags.now s c.loop-settled.self wait (left_if s.met (told c.args.input.now)) (left_if s.met (told c.loop-settled.input)) c.loop-settled.invariant.course c.loop-settled.invariant.met
    c.in-None.ensures.settles wait (left_if s.met (told c.loop-settled.input)) refl (reads_none s.met wait.held (told c.loop-settled.input) met within fits) c.finish.new.self c.finish.result c.finish.ensures.finishes

pub returns-in-Err-Fault-clause-nexts : goal.returns-in-Err-Fault-clause-nexts
returns-in-Err-Fault-clause-nexts g c =
    let s : ItemState = c.args.self.now in
    let told = λ (o : _). (g.I.Source.state o).told in
    let runs = not_met s c.loop-settled.self c.settle.new.self (sym (ap (λ (x : ItemState). x.met) c.self.view_is) ∙ c.if-self.false) c.in-None.ensures.settles.4 c.loop-settled.invariant.met in
    turn_fault c.args.tags.now s c.loop-settled.self c.settle.new.self (left_if s.met (told c.args.input.now)) (left_if s.met (told c.loop-settled.input)) c.loop-settled.invariant.course c.loop-settled.invariant.met
    c.in-None.ensures.settles c.read.new.self (left_if s.met (told c.read.new.input)) c.read.ensures.begun c.read.ensures.met runs
    (reads_if s.met _ _ (told c.loop-settled.input) (told c.read.new.input) dry.Fault runs (rw c.in-Err-Fault.field-0-is at c.in-Err-Fault.ensures.reads))

pub returns-in-Err-Over-clause-nexts : goal.returns-in-Err-Over-clause-nexts
returns-in-Err-Over-clause-nexts g c =
    let s : ItemState = c.args.self.now in
    let told = λ (o : _). (g.I.Source.state o).told in
    let runs = not_met s c.loop-settled.self c.settle.new.self (sym (ap (λ (x : ItemState). x.met) c.self.view_is) ∙ c.if-self.false) c.in-None.ensures.settles.4 c.loop-settled.invariant.met in
    turn_limit c.args.tags.now s c.loop-settled.self c.settle.new.self (left_if s.met (told c.args.input.now)) (left_if s.met (told c.loop-settled.input)) c.loop-settled.invariant.course c.loop-settled.invariant.met
    c.in-None.ensures.settles c.read.new.self (left_if s.met (told c.read.new.input)) c.read.ensures.begun c.read.ensures.met runs
    (reads_if s.met _ _ (told c.loop-settled.input) (told c.read.new.input) dry.Over runs (rw c.in-Err-Over.field-0-is at c.in-Err-Over.ensures.reads))

pub returns-in-Err-End-clause-nexts : goal.returns-in-Err-End-clause-nexts
returns-in-Err-End-clause-nexts g c =
    let s : ItemState = c.args.self.now in
    let wait : ItemState = c.settle.new.self in
    let told = λ (o : _). (g.I.Source.state o).told in
    let runs = not_met s c.loop-settled.self wait (sym (ap (λ (x : ItemState). x.met) c.self.view_is) ∙ c.if-self.false) c.in-None.ensures.settles.4 c.loop-settled.invariant.met in
    let reads = reads_if s.met _ _ (told c.loop-settled.input) (told c.read.new.input) dry.End runs (rw c.in-Err-End.field-0-is at c.in-Err-End.ensures.reads) in
    let ended = subst (λ (h : HeldState). Reads wait.held h (left_if s.met (told c.loop-settled.input)) (left_if s.met (told c.read.new.input)) (Err dry.End)) (sym (ap (λ (x : ItemState). x.held) c.meet_end.ensures)) reads in
    turn_last c.args.tags.now s c.loop-settled.self wait (left_if s.met (told c.args.input.now)) (left_if s.met (told c.loop-settled.input)) c.loop-settled.invariant.course c.loop-settled.invariant.met
    c.in-None.ensures.settles c.meet_end.new.self (left_if s.met (told c.read.new.input)) (ap (λ (x : ItemState). x.begun) c.meet_end.ensures ∙ c.read.ensures.begun) (ap (λ (x : ItemState). x.met) c.meet_end.ensures)
    ended c.finish-in-Err-End.new.self c.finish-in-Err-End.result c.finish-in-Err-End.ensures.finishes

pub returns-in-Err-End-clause-fits : goal.returns-in-Err-End-clause-fits
returns-in-Err-End-clause-fits g c =
    let s : ItemState = c.args.self.now in
    let wait : ItemState = c.settle.new.self in
    let told = λ (o : _). (g.I.Source.state o).told in
    let runs = not_met s c.loop-settled.self wait (sym (ap (λ (x : ItemState). x.met) c.self.view_is) ∙ c.if-self.false) c.in-None.ensures.settles.4 c.loop-settled.invariant.met in
    let reads = reads_if s.met _ _ (told c.loop-settled.input) (told c.read.new.input) dry.End runs (rw c.in-Err-End.field-0-is at c.in-Err-End.ensures.reads) in
    let ended = subst (λ (h : HeldState). Reads wait.held h (left_if s.met (told c.loop-settled.input)) (left_if s.met (told c.read.new.input)) (Err dry.End)) (sym (ap (λ (x : ItemState). x.held) c.meet_end.ensures)) reads in
    turn_fits c.args.tags.now s c.loop-settled.self wait (left_if s.met (told c.args.input.now)) (left_if s.met (told c.loop-settled.input)) c.loop-settled.invariant.course c.loop-settled.invariant.met
    c.in-None.ensures.settles c.meet_end.new.self (left_if s.met (told c.read.new.input)) (ap (λ (x : ItemState). x.begun) c.meet_end.ensures ∙ c.read.ensures.begun)
    ended c.finish-in-Err-End.new.self c.finish-in-Err-End.result c.finish-in-Err-End.ensures.finishes

pub returns-in-Some-clause-fits : goal.returns-in-Some-clause-fits
returns-in-Some-clause-fits g c = settled_fits (texts_of c.args.tags.now c.loop-settled.self) c.loop-settled.self c.settle.new.self c.in-Some.settled c.in-Some.ensures.settles
