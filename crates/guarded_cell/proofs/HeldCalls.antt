-- From what single holds leave in a run to what calls leave, and many of them.
use Rattle.std.proofs.{Common.{◌≡◌, ℕ, ◌+◌, ◌<◌, ◌≤◌, List, [], ◌∷◌, ◌++◌, map, length, take, get_or, refl, sym, ap, ◌∙◌, subst, arith, append-nil, inl, Result, Ok, Err, IfOk, OnErr}, lemmas.List.{map-append, take_all, take_more}}
use Rattle.event_log.specs.{declared.object.SeqObject.Ghosts, declared.event.Event.Event, declared.event.Steps.Steps, declared.logged.NoRoom.NoRoom, History.with_event, Log.{Fulfils, after, one_step}}
use Rattle.word_rule.specs.{declared.view.TraceStep.TraceStep, Cell.{Caller, HoldView}, Holds.{Leaves, HasHeldEach}, LockRuns.{Extends, events_in}, OneHold.{HasAcquired, HasReleased, HasHeld}}
use Rattle.word_rule.proofs.{ManyHolds.{one_held, still_held}, OneHolds.held_once}
use Rattle.guarded_cell.specs.Held.{left_by_call, left_by_batch, holds_of}

module _ {O P C R : Type 0} (meaning : Ghosts O P C R) where
  -- what a call added under a hold
  log_by_call : (h k : HoldView O P C R) (call : C) (r : Result R NoRoom) → IfOk r (λ v. k.history ≡ with_event h.history (record { cpu = h.caller.acting; steps = one_step call v }) (meaning.answer h.history.state call).0) → OnErr r (k ≡ h) → k.history.log ≡ h.history.log ++ left_by_call h.caller.acting call r
  log_by_call h k call (Ok v) next same = ap (λ z. z.log) next
  log_by_call h k call (Err e) next same = ap (λ (z : HoldView O P C R). z.history.log) same ∙ sym (append-nil h.history.log)

  log_by_batch : (h k : HoldView O P C R) (r : Result (Steps O P C R) NoRoom) → IfOk r (λ s. k.history ≡ with_event h.history (record { cpu = h.caller.acting; steps = s }) (after meaning h.history.state s.list.items)) → OnErr r (k ≡ h) → k.history.log ≡ h.history.log ++ left_by_batch h.caller.acting r
  log_by_batch h k (Ok s) next same = ap (λ z. z.log) next
  log_by_batch h k (Err e) next same = ap (λ (z : HoldView O P C R). z.history.log) same ∙ sym (append-nil h.history.log)

  -- a whole hold in which a call was done, or calls in one event
  module _ (caller : Caller O P C R) (before run run' last : List (TraceStep (Event O P C R))) (looks : ℕ) (h k : HoldView O P C R) (got : HasAcquired caller before looks h.history.log run) (is : h.caller ≡ caller) (same : k.caller ≡ h.caller) (still : run' ≡ run) (gone : HasReleased k run' last) where
    pub held_call : (call : C) (r : Result R NoRoom) → IfOk r (λ v. k.history ≡ with_event h.history (record { cpu = h.caller.acting; steps = one_step call v }) (meaning.answer h.history.state call).0) → OnErr r (k ≡ h) → HasHeld caller before looks (left_by_call caller.acting call r) last
    held_call call r next full = held_once caller before looks h k run run' last (left_by_call caller.acting call r) got is same still (log_by_call h k call r next full ∙ ap (λ (z : Caller O P C R). h.history.log ++ left_by_call z.acting call r) is) gone

    pub held_batch : (r : Result (Steps O P C R) NoRoom) → IfOk r (λ s. k.history ≡ with_event h.history (record { cpu = h.caller.acting; steps = s }) (after meaning h.history.state s.list.items)) → OnErr r (k ≡ h) → HasHeld caller before looks (left_by_batch caller.acting r) last
    held_batch r next full = held_once caller before looks h k run run' last (left_by_batch caller.acting r) got is same still (log_by_batch h k r next full ∙ ap (λ (z : Caller O P C R). h.history.log ++ left_by_batch z.acting r) is) gone

module _ {O P C R : Type 0} (meaning : Ghosts O P C R) where
  -- what a call leaves
  pub leaves_call : (limit : ℕ) (log : List (Event O P C R)) (cpu : ℕ) (call : C) (v : R) → Fulfils meaning (call ∷ []) (one_step {O = O} {P = P} call v).list.items → Leaves meaning limit log (call ∷ []) (left_by_call cpu call (Ok v))
  leaves_call limit log cpu call v fulfils = inl (record { cpu = cpu; steps = one_step call v }, refl, fulfils)

  -- the next call's hold, by the same caller
  pub next_held : (caller now : Caller O P C R) (before mid after : List (TraceStep (Event O P C R))) (calls : List C) (n looks : ℕ) (c : C) (events : List (Event O P C R)) → now ≡ caller → n < length calls → c ≡ get_or calls n c → HasHeldEach meaning caller before (map (λ x. x ∷ []) (take n calls)) mid
      → (h : HasHeld now mid looks events after) → Leaves meaning now.cell.limit (now.cell.opening ++ events_in h.extends.before) (c ∷ []) events → HasHeldEach meaning caller before (map (λ x. x ∷ []) (take (n + 1) calls)) after
  next_held caller now before mid after calls n looks c events same lt at t h leaves =
      let taken : take (n + 1) calls ≡ take n calls ++ c ∷ [] = take_more calls n c lt ∙ ap (λ x. take n calls ++ x ∷ []) (sym at) in
      let g = subst (λ (z : Caller O P C R). (g : HasHeld z mid looks events after) × Leaves meaning z.cell.limit (z.cell.opening ++ events_in g.extends.before) (c ∷ []) events) same (h, leaves) in
      subst (λ l. HasHeldEach meaning caller before l after) (sym (ap (map (λ x. x ∷ [])) taken ∙ map-append (λ x. x ∷ []) (take n calls) (c ∷ [])))
      (one_held meaning caller before (map (λ x. x ∷ []) (take n calls)) mid after looks (c ∷ []) events t g.0 g.1)

  -- the holds of all calls, and of some
  pub held_all : (caller : Caller O P C R) (before after : List (TraceStep (Event O P C R))) (calls : List C) (n done : ℕ) → done ≡ n → length calls ≤ n → HasHeldEach meaning caller before (map (λ x. x ∷ []) (take n calls)) after → HasHeldEach meaning caller before (holds_of calls done) after
  held_all caller before after calls n done same whole t =
      subst (λ l. HasHeldEach meaning caller before (map (λ x. x ∷ []) l) after) (take_all n calls whole ∙ sym (take_all (done + 1) calls (omega (arith, same, whole)))) t

  pub held_still : (caller now : Caller O P C R) (before mid after : List (TraceStep (Event O P C R))) (groups : List (List C)) → HasHeldEach meaning caller before groups mid → now ≡ caller → Extends now.owned mid [] after → HasHeldEach meaning caller before groups after
  held_still caller now before mid after groups t same e = still_held meaning caller before groups mid after t (subst (λ (z : Caller O P C R). Extends z.owned mid [] after) same e)
