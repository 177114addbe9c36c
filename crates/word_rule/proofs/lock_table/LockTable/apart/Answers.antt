use Rattle.std.proofs.Common.{rules, ◌≡◌, sym, ap, subst, ◌∙◌, true}
use Rattle.event_log.specs.Distinct.{has}
use Rattle.word_rule.specs.Locks.{holding}
use Rattle.word_rule.proofs.{Meetings.{joining, returning_slot, meeting_second}, Lenders.holder_holds}
use Rattle.word_rule.proofs.lock_table.LockTable.apart.Goals as goal

pub load-requires : goal.load-requires
load-requires g c = let two = c.args.two in let o = two.inside.outside in let m = o.seat.me in let w = two.holds in let key = c.args.self.now.table.shared.key in
    let has_it = ap holding w.at.stands ∙ holder_holds o.key.value.kind two.mark o.seat.me.0.main.stage two.there in
    (search rules, search rules, returning_slot g.O.SeqObject _ key _ _ m _ w.hold_view.caller.acts has_it w.at.carries)

pub join_seat-requires : goal.join_seat-requires
join_seat-requires g c = let n = c.load.ensures.2 in let key = c.args.self.now.table.shared.key in
    (search rules, search rules, ap (λ z. z.1) n, search rules, joining g.O.SeqObject _ key _ _ _ _ c.args.one.holds.at.alone (ap (λ z. z.0.others) n ∙ c.args.two.holds.at.alone))

pub load-requires-2 : goal.load-requires-2
load-requires-2 g c = let one = c.args.one in let two = c.args.two in let n = c.load.ensures.2 in let e = c.join_seat.ensures.2 in let key = c.args.self.now.table.shared.key in
    let first = ap holding one.holds.at.stands ∙ holder_holds one.inside.outside.key.value.kind one.mark one.inside.outside.seat.me.0.main.stage one.there in
    let second = ap holding two.holds.at.stands ∙ holder_holds two.inside.outside.key.value.kind two.mark two.inside.outside.seat.me.0.main.stage two.there in (
      search rules,
      search rules,
      meeting_second g.O.SeqObject _ key _ _ c.join_seat.new.seat.me _ c.load.new.seat.me.0.main
          (subst (λ z. has z.0.main.cpu z.0.main.owned ≡ true) (sym e) one.holds.hold_view.caller.acts) (ap (λ z. holding z.0.main.stage) e ∙ first) (ap (λ z. z.0.others) e)
          (subst (λ z. has z.0.main.cpu z.0.main.owned ≡ true) (sym n) two.holds.hold_view.caller.acts) (ap (λ z. holding z.0.main.stage) n ∙ second),
    )
