use Rattle.std.proofs.{Common.{◌≤◌, ◌<◌, ℕ, List, [], ◌++◌, length, get_or, set, map, sym, ap, ◌∙◌, subst, arith}, lemmas.List.append-nil, lemmas.List.Elements.All-set}
use Rattle.std.specs.{List.concat, VecDeque.deque_capacity}
use Rattle.event_log.proofs.Joined.{taken_out, fits_with}
use Rattle.wake_list.specs.{State.SchedState, Answer.wake_all_answer, declared.call.SchedReply.SchedReply, declared.call.SchedReply.TheVariants.Count}
use Rattle.wake_list.proofs.Kept.{wake_all_ok}
use Rattle.auditor.specs.Marks.{AreMarked}
use Rattle.auditor.proofs.{HeldLists.{place_of, list_at, list_put}, MarkedLists.marked_permuted}
use Rattle.auditor.proofs.references.sched.ReferenceSched.wake_all.Goals as goal

pub move_all-count-requires : goal.move_all-count-requires
move_all-count-requires c =
    let s = c.self.inside in
    let ls = map (λ q. q.items) s.channels.items in
    let v = c.index_mut.result.now in
    let at : c.args.channel < length s.channels.items = omega (arith, c.len.ensures, s.channels.ok.0) in
    let few = fits_with (length s.is_held.items) s.ready.items ls c.args.channel (place_of (λ q. q.items) s.channels.items c.args.channel at) c.self.invariant.0.distinct in
    omega (arith, few, ap length (list_at (λ q. q.items) s.channels.items c.args.channel v at c.index_mut.ensures.value), c.self.invariant.1, v.ok.0, s.ready.ok.0)

pub overflow_cast-result : goal.overflow_cast-result
overflow_cast-result c =
    let s = c.self.inside in
    let ls = map (λ q. q.items) s.channels.items in
    let v = c.index_mut.result.now in
    let at : c.args.channel < length s.channels.items = omega (arith, c.len.ensures, s.channels.ok.0) in
    let few = fits_with (length s.is_held.items) s.ready.items ls c.args.channel (place_of (λ q. q.items) s.channels.items c.args.channel at) c.self.invariant.0.distinct in
    omega (arith, few, ap length (list_at (λ q. q.items) s.channels.items c.args.channel v at c.index_mut.ensures.value), c.self.invariant.3, c.move_all-count.ensures.count)

pub invariant_of-self : goal.invariant_of-self
invariant_of-self c =
    let s = c.self.inside in
    let n = length s.is_held.items in
    let ls = map (λ q. q.items) s.channels.items in
    let v = c.index_mut.result.now in
    let w = c.move_all-count.new.from in
    let at : c.args.channel < length s.channels.items = omega (arith, c.len.ensures, s.channels.ok.0) in
    let asleep = list_at (λ q. q.items) s.channels.items c.args.channel v at c.index_mut.ensures.value in
    let move = taken_out s.ready.items ls c.args.channel v.items [] (place_of (λ q. q.items) s.channels.items c.args.channel at) (asleep ∙ sym (append-nil v.items)) in
    let marked = marked_permuted s.is_held.items _ _ move c.self.invariant.0 in
    let room : n ≤ deque_capacity v = subst (λ x. n ≤ deque_capacity x) (sym c.index_mut.ensures.value) (c.self.invariant.2 c.args.channel v at) in
    let kept : n ≤ deque_capacity w = omega (arith, room, c.move_all-count.ensures.room_from) in
    rw c.move_all-count.ensures.moved (subst (λ l. AreMarked s.is_held.items ((s.ready.items ++ v.items) ++ concat l)) (sym (list_put (λ q. q.items) s.channels.items c.args.channel w [] c.move_all-count.ensures.emptied)) marked, omega (arith, c.self.invariant.1, c.move_all-count.ensures.room_to), All-set (λ x. n ≤ deque_capacity x) s.channels.items c.args.channel w kept c.self.invariant.2, c.self.invariant.3)

pub returns : goal.returns
returns c =
    let s = c.self.inside in
    let n = length s.is_held.items in
    let ls = map (λ q. q.items) s.channels.items in
    let v = c.index_mut.result.now in
    let w = c.move_all-count.new.from in
    let counted = c.move_all-count.result in
    let at : c.args.channel < length s.channels.items = omega (arith, c.len.ensures, s.channels.ok.0) in
    let asleep = list_at (λ q. q.items) s.channels.items c.args.channel v at c.index_mut.ensures.value in
    let old : SchedState = record { threads = n; ready = s.ready.items; channels = ls } in
    let with_ready : List ℕ → SchedState × SchedReply = λ l. (record { threads = n; ready = l; channels = map (λ q. q.items) (set s.channels.items c.args.channel w) }, Count counted) in
    let with_channels : List (List ℕ) → SchedState × SchedReply = λ l. (record { threads = n; ready = s.ready.items ++ get_or ls c.args.channel []; channels = l }, Count counted) in
    let with_count : ℕ → SchedState × SchedReply = λ m. (record { threads = n; ready = s.ready.items ++ get_or ls c.args.channel []; channels = set ls c.args.channel [] }, Count m) in
    ap with_ready (c.move_all-count.ensures.moved ∙ ap (λ l. s.ready.items ++ l) (sym asleep))
    ∙ (ap with_channels (list_put (λ q. q.items) s.channels.items c.args.channel w [] c.move_all-count.ensures.emptied)
    ∙ (ap with_count (c.move_all-count.ensures.count ∙ ap length (sym asleep))
    ∙ (sym (wake_all_ok old c.args.channel (place_of (λ q. q.items) s.channels.items c.args.channel at))
    ∙ ap (λ x. wake_all_answer x c.args.channel) c.self.view_is)))
