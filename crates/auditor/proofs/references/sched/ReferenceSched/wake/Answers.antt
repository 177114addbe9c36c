use Rattle.std.proofs.{Common.{◌≡◌, ◌≤◌, ◌<◌, ℕ, List, [], ◌∷◌, ◌++◌, length, get_or, set, map, refl, sym, ap, ◌∙◌, subst, arith}, lemmas.List.Elements.All-set}
use Rattle.std.specs.{List.concat, VecDeque.deque_capacity}
use Rattle.event_log.proofs.Joined.{taken_out, fits_with}
use Rattle.wake_list.specs.{State.SchedState, Answer.wake_answer, declared.call.SchedReply.SchedReply, declared.call.SchedReply.TheVariants.{Thread, Empty}}
use Rattle.wake_list.proofs.Kept.{wake_ok}
use Rattle.auditor.specs.Marks.{AreMarked}
use Rattle.auditor.proofs.{HeldLists.{empty_is, place_of, list_at, list_put, list_stays}, MarkedLists.marked_permuted, Unrefused.wake_none}
use Rattle.auditor.proofs.references.sched.ReferenceSched.wake.Goals as goal

pub push_back_reserved-requires : goal.push_back_reserved-requires
push_back_reserved-requires c =
    let s = c.self.inside in
    let ls = map (λ q. q.items) s.channels.items in
    let v = c.index_mut.result.now in
    let at : c.args.channel < length s.channels.items = omega (arith, c.len.ensures, s.channels.ok.0) in
    let asleep : get_or ls c.args.channel [] ≡ c.in-Some.first ∷ c.pop_front.new.self.items = list_at (λ q. q.items) s.channels.items c.args.channel v at c.index_mut.ensures.value ∙ c.in-Some.ensures.items in
    let few = fits_with (length s.is_held.items) s.ready.items ls c.args.channel (place_of (λ q. q.items) s.channels.items c.args.channel at) c.self.invariant.0.distinct in
    omega (arith, few, ap length asleep, c.self.invariant.1, s.ready.ok.0)

pub invariant_of-self : goal.invariant_of-self
invariant_of-self c =
    let s = c.self.inside in
    let n = length s.is_held.items in
    let ls = map (λ q. q.items) s.channels.items in
    let v = c.index_mut.result.now in
    let w = c.pop_front.new.self in
    let at : c.args.channel < length s.channels.items = omega (arith, c.len.ensures, s.channels.ok.0) in
    let asleep : get_or ls c.args.channel [] ≡ c.in-Some.first ∷ w.items = list_at (λ q. q.items) s.channels.items c.args.channel v at c.index_mut.ensures.value ∙ c.in-Some.ensures.items in
    let move = taken_out s.ready.items ls c.args.channel (c.in-Some.first ∷ []) w.items (place_of (λ q. q.items) s.channels.items c.args.channel at) asleep in
    let marked = marked_permuted s.is_held.items _ _ move c.self.invariant.0 in
    let room : n ≤ deque_capacity v = subst (λ x. n ≤ deque_capacity x) (sym c.index_mut.ensures.value) (c.self.invariant.2 c.args.channel v at) in
    let kept : n ≤ deque_capacity w = omega (arith, room, c.pop_front.ensures.capacity) in
    rw c.push_back_reserved.ensures.items (subst (λ l. AreMarked s.is_held.items ((s.ready.items ++ c.in-Some.first ∷ []) ++ concat l)) (sym (list_put (λ q. q.items) s.channels.items c.args.channel w w.items refl)) marked, omega (arith, c.self.invariant.1, c.push_back_reserved.ensures.capacity), All-set (λ x. n ≤ deque_capacity x) s.channels.items c.args.channel w kept c.self.invariant.2, c.self.invariant.3)

pub invariant_of-self-in-None : goal.invariant_of-self-in-None
invariant_of-self-in-None c =
    let s = c.self.inside in
    let n = length s.is_held.items in
    let v = c.index_mut.result.now in
    let w = c.pop_front.new.self in
    let at : c.args.channel < length s.channels.items = omega (arith, c.len.ensures, s.channels.ok.0) in
    let same = list_stays (λ q. q.items) s.channels.items c.args.channel v w at c.index_mut.ensures.value (sym c.in-None.ensures.items) in
    let room : n ≤ deque_capacity v = subst (λ x. n ≤ deque_capacity x) (sym c.index_mut.ensures.value) (c.self.invariant.2 c.args.channel v at) in
    let kept : n ≤ deque_capacity w = omega (arith, room, c.pop_front.ensures.capacity) in
    (subst (λ l. AreMarked s.is_held.items (s.ready.items ++ concat l)) (sym same) c.self.invariant.0, c.self.invariant.1, All-set (λ x. n ≤ deque_capacity x) s.channels.items c.args.channel w kept c.self.invariant.2, c.self.invariant.3)

pub returns-in-Some : goal.returns-in-Some
returns-in-Some c =
    let s = c.self.inside in
    let n = length s.is_held.items in
    let ls = map (λ q. q.items) s.channels.items in
    let v = c.index_mut.result.now in
    let w = c.pop_front.new.self in
    let first = c.in-Some.first in
    let at : c.args.channel < length s.channels.items = omega (arith, c.len.ensures, s.channels.ok.0) in
    let asleep : get_or ls c.args.channel [] ≡ first ∷ w.items = list_at (λ q. q.items) s.channels.items c.args.channel v at c.index_mut.ensures.value ∙ c.in-Some.ensures.items in
    let old : SchedState = record { threads = n; ready = s.ready.items; channels = ls } in
    let with_ready : List ℕ → SchedState × SchedReply = λ l. (record { threads = n; ready = l; channels = map (λ q. q.items) (set s.channels.items c.args.channel w) }, Thread first) in
    let with_channels : List (List ℕ) → SchedState × SchedReply = λ l. (record { threads = n; ready = s.ready.items ++ first ∷ []; channels = l }, Thread first) in
    ap with_ready c.push_back_reserved.ensures.items
    ∙ (ap with_channels (list_put (λ q. q.items) s.channels.items c.args.channel w w.items refl)
    ∙ (sym (wake_ok old c.args.channel first w.items (place_of (λ q. q.items) s.channels.items c.args.channel at) asleep)
    ∙ ap (λ x. wake_answer x c.args.channel) c.self.view_is))

pub returns-in-None : goal.returns-in-None
returns-in-None c =
    let s = c.self.inside in
    let n = length s.is_held.items in
    let ls = map (λ q. q.items) s.channels.items in
    let v = c.index_mut.result.now in
    let w = c.pop_front.new.self in
    let at : c.args.channel < length s.channels.items = omega (arith, c.len.ensures, s.channels.ok.0) in
    let nobody : get_or ls c.args.channel [] ≡ [] = list_at (λ q. q.items) s.channels.items c.args.channel v at c.index_mut.ensures.value ∙ empty_is v.items (omega (arith, c.in-None.ensures.cases.0, v.ok.0)) in
    let same = list_stays (λ q. q.items) s.channels.items c.args.channel v w at c.index_mut.ensures.value (sym c.in-None.ensures.items) in
    let old : SchedState = record { threads = n; ready = s.ready.items; channels = ls } in
    let with_channels : List (List ℕ) → SchedState × SchedReply = λ l. (record { threads = n; ready = s.ready.items; channels = l }, Empty) in
    ap with_channels same
    ∙ (sym (wake_none old c.args.channel (place_of (λ q. q.items) s.channels.items c.args.channel at) nobody)
    ∙ ap (λ x. wake_answer x c.args.channel) c.self.view_is)
