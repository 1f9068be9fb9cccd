-- One step of a pump over the items of a stream.
use Rattle.std.proofs.Common.{◌≡◌, ℕ, ◌+◌, ◌-◌, ◌≤◌, ◌<◌, Bool, true, false, List, [], ◌∷◌, ◌++◌, length, take, Option, Some, None, Result, Ok, Err, refl, sym, ap, ◌∙◌, subst, arith, append_assoc, length-append}
use Rattle.std.specs.Prelude.{nat_lt, not}
use Rattle.std.specs.Io.KnownBytes.{Consumes, IsAtEnd}
use Rattle.std.proofs.lemmas.Bool.Decides.{nat_tests}
use Rattle.std.proofs.lemmas.List.{append-nil}
use Rattle.std.proofs.Math.Seq.{take-append_seam}
use Rattle.sbe_base.specs.declared.status.Limits.{Limits}
use Rattle.sbe_base.specs.declared.status.Status.{Status}
use Rattle.sbe_base.specs.declared.status.Status.TheVariants as status
use Rattle.sbe_base.specs.Objects.{Failed}
use Rattle.tagvalue_codec.specs.declared.data_tags.Pair.{Pair}
use Rattle.raw_fix.specs.declared.code.PCode.{PCode}
use Rattle.raw_fix.specs.declared.taken.Run.{Run}
use Rattle.raw_fix.specs.declared.taken.RawTaken.{RawTaken}
use Rattle.raw_fix.specs.declared.taken.RawTaken.TheVariants as taken
use Rattle.raw_fix.specs.declared.taken.RawErr.{RawErr}
use Rattle.raw_fix.specs.declared.taken.RawErr.TheVariants as err
use Rattle.raw_fix.specs.Fields.{fix_texts}
use Rattle.raw_fix.specs.Raw.{Texts, Garbled, Item, IsItem, item_bytes, message, Raw, RawEnd}
use Rattle.raw_fix.specs.Raw as raw
use Rattle.open_framing.specs.declared.head.TheConstants.{HEAD_BYTES}
use Rattle.raw_fix.specs.Turns.{InTurn}
use Rattle.raw_fix.specs.Stream.{RawState, Ahead, IsCounted, place, room, so_far, Garbles, LetsGo, Stuck, Unsettled, TakesBy}
use Rattle.raw_fix.specs.Taking.{Lefts, IfTold, left_if, lefts_if, Comes, TakesRaw, texts_for}
use Rattle.raw_fix.proofs.RawLemmas.{raw_joined}
use Rattle.raw_fix.proofs.CourseLemmas.{unsettled_by}
use Rattle.raw_reading.specs.Reading.{piece_of, items_bytes}
use Rattle.raw_reading.proofs.ItemsOn.{item_longer}
use Rattle.replies.specs.Outside.{Streams, Wrote, Calm, NotesLine}
use Rattle.replies.specs.Reply.{Reply, written_of}
use Rattle.replies.specs.declared.verdict.Verdict.{Verdict}
use Rattle.command_steps.specs.Ahead.{Follows}
use Rattle.command_steps.specs.Reaches.{Reaches}
use Rattle.command_steps.specs.Splits.{Reading, Front, End, InputLimit}
use Rattle.command_steps.specs.Replies.{Answering, HasParts, counted_by}
use Rattle.command_steps.specs.Ends.{end_notes, end_status, stop_line}
use Rattle.command_steps.specs.Steps.{Moment, running, reading_on, Goes, Fails, Halts, ended_at, stalled_at}
use Rattle.command_steps.specs.Stands.{IsBounded, CanCount}
use Rattle.command_steps.specs.declared.kept.Kept.{Kept}
use Rattle.command_steps.specs.declared.end.Stop.TheVariants as stop
use Rattle.command_steps.proofs.Splitting.{rest_none, some_same, none_some}
use Rattle.command_steps.proofs.Stepping.{refused_one, translated_one}
use Rattle.raw_steps.specs.RawReplies.{texts_in, by_texts, reply_to}
use Rattle.raw_steps.specs.Stands.{StandsRaw, raw_ahead}

-- ---- bytes that settle nothing

-- no item is at the front of bytes that go on
pub none_settled : (texts : Texts) (place : ℕ) (gone held : List ℕ) (run : Option Run) → LetsGo texts (record { place = place; bytes = gone ++ held; goes_on = true }) gone None run → Stuck texts held run → (item : Item) → IsItem texts true (gone ++ held) item → ⊥
none_settled texts place gone held run lets stuck item is =
    let bytes = gone ++ held in
    let stream = bytes ++ 0 ∷ [] in
    let rm = length bytes in
    let size : length stream ≡ rm + 1 = length-append bytes (0 ∷ []) in
    let on : nat_lt rm (length stream) ≡ true = grind (arith, nat_tests, size) in
    let front : take rm stream ≡ bytes = take-append_seam bytes (0 ∷ []) in
    let all : Raw texts stream rm [] raw.InputLimit = unsettled_by texts stream rm place gone held None run on front lets stuck in
    all.ends.1 item (subst (λ t. IsItem texts t all.rest item) (sym on) (subst (λ b. IsItem texts true b item) (sym front ∙ all.turns) is))

-- how many bytes were let go
gone_size : (texts : Texts) (next : Ahead) (gone : List ℕ) (run : Option Run) → LetsGo texts next gone None run → so_far run ≡ length gone
gone_size texts next gone None lets = sym (ap length lets)
gone_size texts next gone (Some run) lets = lets.3

module _ (tags : List Pair) (limits : Limits) (kept : Kept) (st st' : RawState) (stands : StandsRaw limits st kept) where
  abbrev pub texts : Texts
  texts = texts_in tags limits

  abbrev pub answering : Answering
  answering = by_texts tags limits

  abbrev pub pump : Moment
  pump = running kept (raw_ahead st)

  abbrev on : Reading
  on = reading_on answering pump

  same_texts : texts_for tags st ≡ texts
  same_texts = ap (fix_texts tags) stands.most

  room_left : room st ≡ limits.input - kept.bytes
  room_left = omega (arith, stands.room)

  module _ (before after : Streams) (unread : st.met ≡ true → after.input ≡ before.input) where
    abbrev pub lefts : Lefts
    lefts = lefts_if st.met (record { before = before.input.told; after = after.input.told })

    abbrev pub Takes : Result RawTaken RawErr → Type 0
    Takes result = TakesRaw (texts_for tags st) st st' lefts result

    -- ---- what the source tells

    -- what it has left before and after
    pub record Sourced (left : List ℕ) : Type 0 where
      pub rest : List ℕ
      pub source : after.input.told ≡ Some rest
      pub old : lefts.before ≡ Some left
      pub new : lefts.after ≡ Some rest

    told_some : (a b : Option (List ℕ)) (left : List ℕ) (P : List ℕ → List ℕ → Type 0) → a ≡ Some left → IfTold a b P → (rest : List ℕ) × (b ≡ Some rest)
    told_some None b left P e h = absurd (none_some e)
    told_some (Some x) None left P e h = absurd h
    told_some (Some x) (Some y) left P e h = (y, refl)

    sourced_by : (met : Bool) → st.met ≡ met → (result : Result RawTaken RawErr) → Takes result → (input : List ℕ) (f : Follows (raw_ahead st) before.input.told input) → Sourced f.left
    sourced_by true met result takes input f =
        let none : f.left ≡ [] = f.all met in
        let told : after.input.told ≡ Some f.left = ap (λ o. o.told) (unread met) ∙ f.source in
        record {
          rest = [];
          source = told ∙ ap Some none;
          old = ap (λ t. left_if t before.input.told) met ∙ ap Some (sym none);
          new = ap (λ t. left_if t after.input.told) met;
        }
    sourced_by false met result takes input f =
        let old : lefts.before ≡ Some f.left = ap (λ t. left_if t before.input.told) met ∙ f.source in
        let new = told_some lefts.before lefts.after f.left _ old takes.from in
        record { rest = new.0; source = sym (ap (λ t. left_if t after.input.told) met) ∙ new.1; old = old; new = new.1 }

    sourced : (result : Result RawTaken RawErr) → Takes result → (input : List ℕ) (f : Follows (raw_ahead st) before.input.told input) → Sourced f.left
    sourced result takes input f = sourced_by st.met refl result takes input f

    told_by : (a b : Option (List ℕ)) (left rest : List ℕ) (P : List ℕ → List ℕ → Type 0) → a ≡ Some left → b ≡ Some rest → IfTold a b P → P left rest
    told_by None b left rest P d e h = absurd (none_some d)
    told_by (Some x) None left rest P d e h = absurd (none_some e)
    told_by (Some x) (Some y) left rest P d e h = subst (λ a. P a rest) (some_same d) (subst (P x) (some_same e) h)

    -- an answer by all that follows
    took : (result : Result RawTaken RawErr) → Takes result → (input : List ℕ) (f : Follows (raw_ahead st) before.input.told input) (s : Sourced f.left) → TakesBy texts st st' (record { stream = input; left = s.rest }) result
    took result takes input f s =
        let by = told_by lefts.before lefts.after f.left s.rest (λ left left'. TakesBy (texts_for tags st) st st' (record { stream = st.held ++ left; left = left' }) result) s.old s.new takes.from in
        subst (λ b. TakesBy texts st st' (record { stream = b; left = s.rest }) result) (sym f.whole) (subst (λ t. TakesBy t st st' (record { stream = st.held ++ f.left; left = s.rest }) result) same_texts by)

    consumed_by : (a b : Option (List ℕ)) (left rest more : List ℕ) → a ≡ Some left → b ≡ Some rest → Consumes a b more → left ≡ more ++ rest
    consumed_by None b left rest more d e h = absurd (none_some d)
    consumed_by (Some x) None left rest more d e h = absurd (none_some e)
    consumed_by (Some x) (Some y) left rest more d e h = sym (some_same d) ∙ h ∙ ap (λ r. more ++ r) (some_same e)

    -- the input is what came, what is held, and what the source has left
    input_is : (gone : List ℕ) (comes : Comes st.held st'.held lefts gone) (input : List ℕ) (f : Follows (raw_ahead st) before.input.told input) (s : Sourced f.left) → input ≡ (gone ++ st'.held) ++ s.rest
    input_is gone comes input f s =
        f.whole ∙ ap (λ l. st.held ++ l) (consumed_by lefts.before lefts.after f.left s.rest comes.more s.old s.new comes.consumed) ∙ sym (append_assoc st.held comes.more s.rest) ∙ ap (λ b. b ++ s.rest) comes.parts

    at_end : (o : Option (List ℕ)) (rest : List ℕ) → o ≡ Some rest → IsAtEnd o → rest ≡ []
    at_end None rest e h = absurd (none_some e)
    at_end (Some x) rest e h = sym (some_same e) ∙ h

    module _ (code : Status) where
      -- ---- the end

      pub ends : (input : List ℕ) → Takes (Ok taken.End) → after.sinks.output ≡ before.sinks.output →
          NotesLine (end_notes answering End kept) (end_status End kept.refused) before.sinks.notes after.sinks.notes code → Follows (raw_ahead st) before.input.told input → Halts answering pump before after input code
      ends input takes same told f =
          let s = sourced (Ok taken.End) takes input f in
          let by = took (Ok taken.End) takes input f s in
          let nothing : input ≡ [] = raw_joined texts input (room st) [] by.1 in
          let rest : s.rest ≡ [] = rest_none st'.held s.rest (sym nothing ∙ by.2) in
          ended_at (record {
            end = End;
            split = ([], raw.End, subst (λ n. Raw texts input n [] raw.End) room_left by.1, refl, refl);
            left = λ read is. s.source ∙ ap Some rest;
            output = same;
            noted = told;
          })

      pub ends_over : (input : List ℕ) → Takes (Err err.InputLimit) → after.sinks.output ≡ before.sinks.output →
          NotesLine (end_notes answering InputLimit kept) (end_status InputLimit kept.refused) before.sinks.notes after.sinks.notes code → Follows (raw_ahead st) before.input.told input → Halts answering pump before after input code
      ends_over input takes same told f =
          let s = sourced (Err err.InputLimit) takes input f in
          let by = took (Err err.InputLimit) takes input f s in
          let over : Raw texts input (room st) [] raw.InputLimit = subst (λ r. Unsettled texts input (room st) r) stands.whole by.0 in
          ended_at (record {
            end = InputLimit;
            split = ([], raw.InputLimit, subst (λ n. Raw texts input n [] raw.InputLimit) room_left over, refl, refl);
            left = λ read is. cc;
            output = same;
            noted = told;
          })

      -- ---- a fault of the input

      not_met : (old new : Bool) → (old ≡ true → new ≡ true) → new ≡ false → old ≡ false
      not_met false new stays e = refl
      not_met true new stays e = let yes = stays refl in cc

      pub stalls_at : (input : List ℕ) → Takes (Err err.ReadFault) → Failed before.input after.input → after.sinks.output ≡ before.sinks.output →
          NotesLine (stop_line (stop.ReadFault st'.taken)) status.ReadFault before.sinks.notes after.sinks.notes code → Follows (raw_ahead st) before.input.told input → Halts answering pump before after input code
      stalls_at input takes fault same told f =
          let s = sourced (Err err.ReadFault) takes input f in
          let gone = takes.comes.0 in
          let comes = takes.comes.1 in
          let held = gone ++ st'.held in
          let lets : LetsGo texts (record { place = place st; bytes = held; goes_on = true }) gone None st'.run =
          subst (λ r. LetsGo texts (record { place = place st; bytes = held; goes_on = true }) gone r st'.run) stands.whole (subst (λ t. LetsGo t (record { place = place st; bytes = held; goes_on = true }) gone st.run st'.run) same_texts takes.comes.2) in
          let stuck : Stuck texts st'.held st'.run = subst (λ t. Stuck t st'.held st'.run) same_texts takes.held in
          let size = gone_size texts (record { place = place st; bytes = held; goes_on = true }) gone st'.run lets in
          let none : so_far st.run ≡ 0 = ap so_far stands.whole in
          let at : st'.taken ≡ kept.bytes + length held =
          omega (arith, stands.room, stands.input, takes.falls, takes.input, takes.counted.there, takes.counted.within, stands.counted.there, stands.counted.within, size, none, length-append gone st'.held) in
          stalled_at (record {
            unmet = refl;
            held = held;
            left = s.rest;
            source = s.source;
            taken = input_is gone comes input f s;
            keeps = (comes.more, sym comes.parts);
            reads = not_met st.met st'.met takes.meets.stays (takes.meets.reads refl);
            part = record { items = []; pieces_are = refl; rest = held; turns = refl; none = none_settled texts (place st) gone st'.held st'.run lets stuck };
            fault = fault;
            output = same;
            noted = subst (λ n. NotesLine (stop_line (stop.ReadFault n)) status.ReadFault before.sinks.notes after.sinks.notes code) at told;
          })

    -- ---- an item

    -- An item was taken, as what was taken shows.
    pub record Took (item : Item) : Type 0 where
      pub is : IsItem texts (not st'.met) (item.bytes ++ st'.held) item
      pub comes : Comes st.held st'.held lefts item.bytes
      pub fresh : st'.run ≡ None
      pub runs : st'.ended ≡ None
      pub falls : room st ≡ length item.bytes + room st'
      pub some : 0 < length item.bytes
      pub counted : IsCounted st'
      pub most : st'.most ≡ limits.frame - HEAD_BYTES
      pub input : st'.input ≡ limits.input
      pub stays : st.met ≡ true → st'.met ≡ true
      pub ended : st'.met ≡ true → IsAtEnd lefts.after
      pub told : (input : List ℕ) (f : Follows (raw_ahead st) before.input.told input) → Sourced f.left

    -- nothing follows
    item_so : (goes_on : Bool) (bytes : List ℕ) (item : Item) → IsItem texts true bytes item → IsItem texts goes_on bytes item
    item_so goes_on bytes item is = subst (λ b. IsItem texts goes_on b item) (append-nil bytes) (item_longer texts goes_on bytes [] item is)

    pub message_took : Takes (Ok taken.Message) → Took (message st'.text)
    message_took takes =
        let none : so_far st.run ≡ 0 = ap so_far stands.whole in
        let none' : so_far st'.run ≡ 0 = ap so_far takes.held.0 in
        record {
          is = item_so (not st'.met) (st'.text ++ st'.held) (message st'.text) (subst (λ t. IsItem t true (st'.text ++ st'.held) (message st'.text)) same_texts takes.comes.1);
          comes = takes.comes.0;
          fresh = takes.held.0;
          runs = takes.ended;
          falls = omega (arith, takes.falls, none, none');
          some = takes.held.1;
          counted = takes.counted;
          most = takes.most ∙ stands.most;
          input = takes.input ∙ stands.input;
          stays = takes.meets.stays;
          ended = takes.meets.ended;
          told = sourced (Ok taken.Message) takes;
        }

    -- an item with these bytes that is no message
    abbrev pub garbled : PCode → List ℕ → Item
    garbled code bytes = record { kind = Garbled code; bytes = bytes }

    pub garbled_took : (code : PCode) (at many : ℕ) → Takes (Ok (taken.Garbled code at many)) → (gone : List ℕ) × (many ≡ length gone) × Took (garbled code gone)
    garbled_took code at many takes =
        let gone = takes.comes.0 in
        let run : Run = record { code = code; at = at; length = many } in
        let garbles : Garbles texts (record { place = place st; bytes = gone ++ st'.held; goes_on = not st'.met }) gone None run =
        subst (λ r. Garbles texts (record { place = place st; bytes = gone ++ st'.held; goes_on = not st'.met }) gone r run) stands.whole
        (subst (λ t. Garbles t (record { place = place st; bytes = gone ++ st'.held; goes_on = not st'.met }) gone st.run run) same_texts takes.comes.2) in
        let none : so_far st.run ≡ 0 = ap so_far stands.whole in
        let none' : so_far st'.run ≡ 0 = ap so_far takes.held.0 in (
          gone,
          garbles.2,
          record {
            is = garbles.0;
            comes = takes.comes.1;
            fresh = takes.held.0;
            runs = takes.ended;
            falls = omega (arith, takes.falls, none, none', garbles.2);
            some = omega (arith, takes.held.1, garbles.2);
            counted = takes.counted;
            most = takes.most ∙ stands.most;
            input = takes.input ∙ stands.input;
            stays = takes.meets.stays;
            ended = takes.meets.ended;
            told = sourced (Ok (taken.Garbled code at many)) takes;
          },
        )

    module _ (item : Item) (t : Took item) where
      pub fits : kept.bytes + length item.bytes ≤ limits.input
      fits = omega (arith, stands.room, t.falls)

      -- the item as a piece, and what follows it
      record TookItem (input : List ℕ) : Type 0 where
        rest : List ℕ
        source : Follows (raw_ahead st') after.input.told rest
        taken : Reaches (raw_ahead st') on input (piece_of item ∷ []) rest

      took_one : (input : List ℕ) → Follows (raw_ahead st) before.input.told input → TookItem input
      took_one input f =
          let s = t.told input f in
          let rest = st'.held ++ s.rest in
          let one : items_bytes (item ∷ []) ≡ item.bytes = append-nil item.bytes in
          let whole : input ≡ item.bytes ++ rest = input_is item.bytes t.comes input f s ∙ append_assoc item.bytes st'.held s.rest in
          let shows : InTurn (IsItem texts (not st'.met)) item_bytes (item.bytes ++ st'.held) (item ∷ []) st'.held = (t.is, (st'.held, refl, refl)) in
          record {
            rest = rest;
            source = record { left = s.rest; source = s.source; whole = refl; none = λ e. cc; all = λ e. at_end lefts.after s.rest s.new (t.ended e) };
            taken = record {
              items = item ∷ [];
              pieces_are = refl;
              whole = whole ∙ ap (λ b. b ++ rest) (sym one);
              left = s.rest;
              follows = refl;
              shows = subst (λ b. InTurn (IsItem texts (not st'.met)) item_bytes (b ++ st'.held) (item ∷ []) st'.held) (sym one) shows;
              within = omega (arith, length-append (items_bytes (item ∷ [])) st'.held, ap length one, stands.room, t.falls, t.counted.there, t.counted.within);
              all = λ e. at_end lefts.after s.rest s.new (t.ended e);
            };
          }

      -- what was held is held, or in the item
      keeps_held : Front st.held (item.bytes ++ st'.held)
      keeps_held = (t.comes.more, sym t.comes.parts)

      module _ (verdict : Verdict) (parts : HasParts (length item.bytes) verdict) where
        pub stands_on : StandsRaw limits st' (counted_by kept (length item.bytes) verdict)
        stands_on = record {
          runs = t.runs;
          whole = t.fresh;
          counted = t.counted;
          most = t.most;
          input = t.input;
          room = omega (arith, stands.room, t.falls);
          items = omega (arith, stands.items, t.some);
          refused = omega (arith, stands.refused, refused_one verdict);
          translated = omega (arith, stands.translated, translated_one verdict);
          dropped = omega (arith, stands.dropped, parts.dropped);
          filled = omega (arith, stands.filled, parts.filled);
        }

        pub countable : IsBounded limits → CanCount kept (record { bytes = length item.bytes; verdict = verdict })
        countable bounded = record {
          items = omega (arith, fits, bounded.input, stands.items);
          refused = omega (arith, fits, bounded.input, stands.items, stands.refused);
          translated = omega (arith, fits, bounded.input, stands.items, stands.translated);
          dropped = omega (arith, fits, bounded.input, stands.dropped, parts.dropped);
          filled = omega (arith, fits, bounded.input, stands.filled, parts.filled);
          bytes = omega (arith, fits, bounded.input);
        }

      -- the reply to the item
      abbrev pub reply : Reply
      reply = reply_to kept item.kind item.bytes

      pub fails : (input : List ℕ) (IsWritten : Reply → Type 0) → IsWritten reply → Follows (raw_ahead st) before.input.told input → Fails answering pump after input IsWritten
      fails input IsWritten wrote f =
          let o = took_one input f in
          record {
            piece = piece_of item;
            reply = reply;
            left = o.rest;
            unmet = refl;
            ahead = raw_ahead st';
            only_lines = tt;
            source = o.source;
            taken = o.taken;
            keeps = keeps_held;
            stays = t.stays;
            replied = (item, refl, refl);
            wrote = wrote;
          }

      pub goes : Wrote before.sinks after.sinks (written_of reply) → Calm before after → Goes answering pump (running (counted_by kept (length item.bytes) reply.verdict) (raw_ahead st')) before after
      goes wrote calm = record {
        answers = λ input f.
            let o = took_one input f in
            record {
              piece = piece_of item;
              reply = reply;
              left = o.rest;
              source = o.source;
              taken = o.taken;
              keeps = keeps_held;
              stays = t.stays;
              replied = (item, refl, refl);
              wrote = wrote;
              kept = refl;
            };
        unmet = refl;
        ahead = tt;
        calm = calm;
        runs = refl;
        more = omega arith;
        within = omega (arith, fits, stands.items, t.some);
        bytes_more = λ read. omega (arith, t.some);
        bytes_within = fits;
        unread = λ none. cc;
      }
