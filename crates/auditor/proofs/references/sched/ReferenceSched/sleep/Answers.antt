use Rattle.std.proofs.{Common.{◌≡◌, ◌≤◌, ◌<◌, ℕ, true, false, List, [], ◌∷◌, ◌++◌, length, get_or, set, map, sym, ap, ◌∙◌, subst, arith}, lemmas.List.{get_or_read, length-set}, lemmas.List.Elements.All-set}
use Rattle.std.specs.{List.concat, VecDeque.deque_capacity}
use Rattle.event_log.proofs.Joined.{put_in, fits_one_more}
use Rattle.wake_list.specs.{State.SchedState, Answer.sleep_answer, declared.call.SchedReply.SchedReply, declared.call.SchedReply.TheVariants.Ok}
use Rattle.wake_list.proofs.Kept.{sleep_ok}
use Rattle.auditor.specs.Marks.{AreMarked}
use Rattle.auditor.proofs.{HeldLists.{place_of, list_at, list_put}, MarkedLists.{marked_put, marked_permuted, marked_fewer}}
use Rattle.auditor.proofs.references.sched.ReferenceSched.sleep.Goals as goal

pub push_back_reserved-requires : goal.push_back_reserved-requires
push_back_reserved-requires c =
    let t : ℕ = c.args.thread in
    let s = c.self.inside in
    let n = length s.is_held.items in
    let v = c.index_mut-2.result.now in
    let ls = map (λ q. q.items) s.channels.items in
    let at : c.args.channel < length s.channels.items = omega (arith, c.len.ensures, s.channels.ok.0) in
    let lt : t < n = omega (arith, c.len-2.ensures, s.is_held.ok.0) in
    let absent : get_or s.is_held.items t false ≡ false = sym (get_or_read s.is_held.items t c.index.result.now lt c.index.ensures false) ∙ c.if-index.false in
    let few = marked_fewer s.is_held.items (s.ready.items ++ concat ls) t lt absent c.self.invariant.0 in
    let part = fits_one_more n s.ready.items ls c.args.channel (place_of (λ q. q.items) s.channels.items c.args.channel at) few in
    let room : n ≤ deque_capacity v = subst (λ u. n ≤ deque_capacity u) (sym c.index_mut-2.ensures.value) (c.self.invariant.2 c.args.channel v at) in
    omega (arith, part, ap length (list_at (λ q. q.items) s.channels.items c.args.channel v at c.index_mut-2.ensures.value), room, v.ok.0)

pub invariant_of-self : goal.invariant_of-self
invariant_of-self c =
    let t : ℕ = c.args.thread in
    let s = c.self.inside in
    let n = length s.is_held.items in
    let v = c.index_mut-2.result.now in
    let w = c.push_back_reserved.new.self in
    let ls = map (λ q. q.items) s.channels.items in
    let at : c.args.channel < length s.channels.items = omega (arith, c.len.ensures, s.channels.ok.0) in
    let lt : t < n = omega (arith, c.len-2.ensures, s.is_held.ok.0) in
    let absent : get_or s.is_held.items t false ≡ false = sym (get_or_read s.is_held.items t c.index.result.now lt c.index.ensures false) ∙ c.if-index.false in
    let longer : w.items ≡ get_or ls c.args.channel [] ++ t ∷ [] = c.push_back_reserved.ensures.items ∙ ap (λ l. l ++ t ∷ []) (sym (list_at (λ q. q.items) s.channels.items c.args.channel v at c.index_mut-2.ensures.value)) in
    let move = put_in s.ready.items ls c.args.channel (t ∷ []) (place_of (λ q. q.items) s.channels.items c.args.channel at) in
    let marked = marked_permuted _ _ _ move (marked_put s.is_held.items (s.ready.items ++ concat ls) t lt absent c.self.invariant.0) in
    let long = length-set s.is_held.items t true in
    let room : n ≤ deque_capacity v = subst (λ u. n ≤ deque_capacity u) (sym c.index_mut-2.ensures.value) (c.self.invariant.2 c.args.channel v at) in
    let kept : length (set s.is_held.items t true) ≤ deque_capacity w = omega (arith, long, room, c.push_back_reserved.ensures.capacity) in
    let others : (k : ℕ) (d : _) → k < length s.channels.items → length (set s.is_held.items t true) ≤ deque_capacity (get_or s.channels.items k d) = λ k d l. omega (arith, long, c.self.invariant.2 k d l) in
    (subst (λ l. AreMarked (set s.is_held.items t true) (s.ready.items ++ concat l)) (sym (list_put (λ q. q.items) s.channels.items c.args.channel w _ longer)) marked, omega (arith, long, c.self.invariant.1), All-set (λ u. length (set s.is_held.items t true) ≤ deque_capacity u) s.channels.items c.args.channel w kept others, omega (arith, long, c.self.invariant.3))

pub returns : goal.returns
returns c =
    let t : ℕ = c.args.thread in
    let s = c.self.inside in
    let n = length s.is_held.items in
    let v = c.index_mut-2.result.now in
    let w = c.push_back_reserved.new.self in
    let ls = map (λ q. q.items) s.channels.items in
    let at : c.args.channel < length s.channels.items = omega (arith, c.len.ensures, s.channels.ok.0) in
    let lt : t < n = omega (arith, c.len-2.ensures, s.is_held.ok.0) in
    let absent : get_or s.is_held.items t false ≡ false = sym (get_or_read s.is_held.items t c.index.result.now lt c.index.ensures false) ∙ c.if-index.false in
    let longer : w.items ≡ get_or ls c.args.channel [] ++ t ∷ [] = c.push_back_reserved.ensures.items ∙ ap (λ l. l ++ t ∷ []) (sym (list_at (λ q. q.items) s.channels.items c.args.channel v at c.index_mut-2.ensures.value)) in
    let old : SchedState = record { threads = n; ready = s.ready.items; channels = ls } in
    let with_threads : ℕ → SchedState × SchedReply = λ m. (record { threads = m; ready = s.ready.items; channels = map (λ q. q.items) (set s.channels.items c.args.channel w) }, Ok) in
    let with_channels : List (List ℕ) → SchedState × SchedReply = λ l. (record { threads = n; ready = s.ready.items; channels = l }, Ok) in
    ap with_threads (length-set s.is_held.items t true)
    ∙ (ap with_channels (list_put (λ q. q.items) s.channels.items c.args.channel w _ longer)
    ∙ (sym (sleep_ok old c.args.channel t (place_of (λ q. q.items) s.channels.items c.args.channel at) lt (sym (c.self.invariant.0.marks t) ∙ absent))
    ∙ ap (λ x. sleep_answer x c.args.channel t) c.self.view_is))
