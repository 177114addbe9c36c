use Rattle.std.proofs.Common.{◌≡◌, suc, ◌+◌, ◌-◌, length, length-append, [], ◌∷◌, sym, ◌∙◌, ap, arith, option_map}
use Rattle.event_log.specs.declared.event.TheConstants.{MOST_CALLS}
use Rattle.record_lines.specs.Reading.{left}
use Rattle.record_lines.proofs.Lists.{behind, list_first, list_none, more_step, more_none, more_end, more_full}
use Rattle.kernel_words.proofs.tables.call_list.list.Goals.{else-loop-test, then-loop-test+in_default}
use Rattle.kernel_words.proofs.tables.call_list.list.Goals as goal

pub returns-in_err-first : goal.returns-in_err-first
returns-in_err-first g c = ap (option_map _) c.from_residual.ensures ∙ sym (list_none g.T.ListItem.item_at (left c.args.at) (sym c.item.ensures ∙ ap (option_map _) c.in_err-first.was))

pub loop-init : goal.loop-init
loop-init g c =
    let items : c.push.new.self.items ≡ c.in_ok-first.first ∷ [] = rw c.requires at c.push.ensures.items in
    record {
      count = ap length items;
      reads = list_first g.T.ListItem.item_at (left c.args.at) (left c.in_ok-first.rest) c.in_ok-first.first (sym c.item.ensures ∙ ap (option_map _) c.in_ok-first.was)
          ∙ ap (λ l. behind g.T.ListItem.item_at l (MOST_CALLS - 1) (left c.in_ok-first.rest)) (sym items);
    }

pub returns-in_err-next : goal.returns-in_err-next
returns-in_err-next g c =
    let turn : MOST_CALLS - c.loop.counter ≡ suc (MOST_CALLS - (c.loop.counter + 1)) = omega (arith, c.loop-test.true) in
    let so_far = rw turn at c.loop.invariant.reads in
    ap (option_map _) c.from_residual-in_err-next.ensures
    ∙ sym (so_far ∙ more_none g.T.ListItem.item_at (MOST_CALLS - (c.loop.counter + 1)) c.loop.items.items (left c.loop.left) (left c.in-Some.rest) (sym c.mark.ensures ∙ ap (option_map left) c.in-Some.is) (sym c.item-in-loop.ensures ∙ ap (option_map _) c.in_err-next.was))

pub loop-preserved : goal.loop-preserved
loop-preserved g c =
    let turn : MOST_CALLS - c.loop.counter ≡ suc (MOST_CALLS - (c.loop.counter + 1)) = omega (arith, c.loop-test.true) in
    let so_far = rw turn at c.loop.invariant.reads in
    record {
      count = omega (arith, ap length c.push-in-loop.ensures.items, length-append c.loop.items.items (c.in_ok-next.next ∷ []), c.loop.invariant.count);
      reads = so_far ∙ more_step g.T.ListItem.item_at (MOST_CALLS - (c.loop.counter + 1)) c.loop.items.items c.push-in-loop.new.self.items (left c.loop.left) (left c.in-Some.rest) (left c.in_ok-next.rest) c.in_ok-next.next
          c.push-in-loop.ensures.items (sym c.mark.ensures ∙ ap (option_map left) c.in-Some.is) (sym c.item-in-loop.ensures ∙ ap (option_map _) c.in_ok-next.was);
    }

pub returns : goal.returns
returns g c = elim c.loop-test.branch [
  | else-loop-test w ↦ (
      let last : MOST_CALLS - c.loop.counter ≡ 0 = omega (arith, w.loop-test) in
      let so_far = rw last at c.loop.invariant.reads in
      sym (so_far ∙ more_full g.T.ListItem.item_at c.loop.items.items (left c.loop.left)))
  | then-loop-test+in_default w ↦ (
      let turn : MOST_CALLS - c.loop.counter ≡ suc (MOST_CALLS - (c.loop.counter + 1)) = omega (arith, w.loop-test) in
      let so_far = rw turn at c.loop.invariant.reads in
      sym (so_far ∙ more_end g.T.ListItem.item_at (MOST_CALLS - (c.loop.counter + 1)) c.loop.items.items (left c.loop.left) (sym w.mark.ensures ∙ ap (option_map left) w.in_default.is)))
]
