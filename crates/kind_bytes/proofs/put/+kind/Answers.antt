use Rattle.std.proofs.Common.{◌≡◌, ◌≤◌, ◌+◌, ◌-◌, false, drop, take, length, replicate, sym, ap, subst, ◌∙◌, arith, rules}
use Rattle.sbe_types.specs.Places.{is_const, end_past, members_end}
use Rattle.schema_facts.proofs.KindLists.{width_comp}
use Rattle.kind_bytes.specs.Members.{followed_by, member_bytes, members_bytes}
use Rattle.kind_bytes.proofs.Composites.{member_ready}
use Rattle.kind_bytes.proofs.MemberBytes.{Stand, as_many, all_fit, behind_next, behind_nothing, comp_bytes, ended, member_put, members_stand, next}
use Rattle.kind_bytes.proofs.put.+kind.Goals as goal

pub put_member-returns-in-Leaf-clause-bytes : goal.put_member-returns-in-Leaf-clause-bytes
put_member-returns-in-Leaf-clause-bytes t c =
    let m = c.args.member.now in
    let e = c.args.end in
    let b = c.begin_of-begin.result in
    let w = c.width_of.result in
    let piece = c.put_kind.new.out in
    let moves : is_const m.kind ≡ false = search rules in
    let low : e ≤ b = omega (arith, c.requires.begins moves, c.begin_of-begin.ensures) in
    let within : b + w ≤ length c.args.out.now = search rules in
    let zeros : c.fill.new.self ≡ replicate (b - e) 0 = search rules in
    let wide : length piece ≡ w = search rules in
    member_put c.args.order e b w m c.args.v.now c.args.out.now c.fill.new.self piece moves c.begin_of-begin.ensures low within zeros c.put_kind.ensures wide

pub put_members-loop-i-init : goal.put_members-loop-i-init
put_members-loop-i-init t c =
    let ms = c.args.members.now in
    let vs = c.args.values.now in
    record {
      stand = members_stand ms c.requires.ready;
      ends = sym (c.requires.wide ∙ width_comp ms);
      fits = all_fit ms vs c.requires.fits;
      bytes = behind_nothing (members_bytes c.args.order 0 ms vs);
    }

pub put_members-at-requires-in-loop-i : goal.put_members-at-requires-in-loop-i
put_members-at-requires-in-loop-i t c =
    let many = as_many c.args.members.now c.args.values.now c.requires.fits in
    omega (arith, many, c.loop-i-test.true, c.len-i-end.ensures)

pub put_members-put_member-end-requires : goal.put_members-put_member-end-requires
put_members-put_member-end-requires t c =
    let ms = c.args.members.now in
    let vs = c.args.values.now in
    let m = c.at.result.now in
    let v = c.at-in-loop-i.result.now in
    let now = c.loop-i.invariant in
    let one = next c.args.order c.loop-i.i c.loop-i.end (length c.loop-i.out) ms vs m v c.at.ensures c.at-in-loop-i.ensures now.stand now.ends now.fits in
    let ready = member_ready ms c.loop-i.i m c.requires.ready c.at.ensures in
    (omega (arith, ready.1, c.decreases), (one.stands.order, (one.stands.begins, (one.stands.narrow, (one.within, one.fits)))))

pub put_members-loop-i-preserved : goal.put_members-loop-i-preserved
put_members-loop-i-preserved t c =
    let order = c.args.order in
    let i = c.loop-i.i in
    let ms = c.args.members.now in
    let vs = c.args.values.now in
    let m = c.at.result.now in
    let v = c.at-in-loop-i.result.now in
    let e = c.loop-i.end in
    let r = c.put_member-end.result in
    let now = c.loop-i.invariant in
    let one = next order i e (length c.loop-i.out) ms vs m v c.at.ensures c.at-in-loop-i.ensures now.stand now.ends now.fits in
    let past : r ≡ end_past e m.offset m.kind = c.put_member-end.ensures.end in
    let out = c.put_member-end.new.out in
    record {
      stand = subst (λ k. Stand k (drop (i + 1) ms)) (sym past) one.stand;
      ends = ap (λ k. members_end k (drop (i + 1) ms)) past ∙ one.ends ∙ sym c.put_member-end.ensures.as_many;
      fits = one.rest;
      bytes = ap (λ k. followed_by (take r out) (members_bytes order k (drop (i + 1) ms) (drop (i + 1) vs))) past
          ∙ behind_next (take e c.loop-i.out) (take r out) (member_bytes order e m v) (members_bytes order (end_past e m.offset m.kind) (drop (i + 1) ms) (drop (i + 1) vs)) c.put_member-end.ensures.bytes
          ∙ ap (followed_by (take e c.loop-i.out)) (sym one.bytes) ∙ now.bytes;
    }

pub put_members-returns : goal.put_members-returns
put_members-returns t c =
    let ms = c.args.members.now in
    let vs = c.args.values.now in
    let now = c.loop-i.invariant in
    let last : length ms ≤ c.loop-i.i = omega (arith, c.loop-i-test.false, c.len-i-end.ensures) in
    comp_bytes c.args.order ms vs ∙ sym now.bytes ∙ ended c.args.order c.loop-i.i c.loop-i.end ms vs c.loop-i.out last (as_many ms vs c.requires.fits) now.ends
