-- What a whole call answers, by what the calls of the interface say.
use Rattle.std.proofs.{Common.{◌≡◌, ◌↔◌, ℕ, ◌==◌, true, cond, List, [], ◌∷◌, ◌++◌, length, refl, sym, ap, ◌∙◌, subst, arith, Result, Ok, Err, IfOk, IsErr, OnErr}, lemmas.Bool.Decides.nat_tests, lemmas.List.Elements.filter-append}
use Rattle.event_log.specs.{declared.object.SeqObject.Ghosts, declared.event.Steps.Steps, declared.event.Event.Event, Log.{Begins, Fulfils, of, after as after_steps, one_step}, History.with_event}
use Rattle.event_log.proofs.Beginnings.{begins_more}
use Rattle.word_rule.specs.{Cell.{PassView, HoldView, Grows, Lawful, IsPassView, IsHoldView}, Answered.{IsAnswered, IsRefused}}
use Rattle.word_rule.proofs.Lists.{of_push}

module _ {O P C R : Type 0} where
  of_own : (k : ℕ) (log : List (Event O P C R)) (e : Event O P C R) → e.cpu ≡ k → of k (log ++ e ∷ []) ≡ of k log ++ e ∷ []
  of_own k log e is =
      let t : (e.cpu == k) ≡ true = grind (arith, nat_tests) in
      filter-append (λ x. x.cpu == k) log (e ∷ []) ∙ ap (λ b. of k log ++ cond b (e ∷ []) []) t

module _ {O P C R : Type 0} (meaning : Ghosts O P C R) where
  -- the hold h of a caller, which it is after the call, and the caller without the object afterwards
  module _ (before after : PassView O P C R) (h k : HoldView O P C R) (held : IsHoldView meaning h) (was : h.caller ≡ before.caller) (grows : Grows before.caller.owned before.seen h.history.log)
      (goes : k.caller ≡ h.caller) (ends : after.caller ≡ k.caller) (seen : after.seen ≡ k.history.log) (part : IsPassView meaning after) where
    same : after.caller ≡ before.caller
    same = ends ∙ (goes ∙ was)

    valid : Lawful meaning before.caller.cell after.seen
    valid = subst (λ c. Lawful meaning c.cell after.seen) same part.valid

    pub answered : (cs : List C) (s : Steps O P C R) (state : O) → Fulfils meaning cs s.list.items → k.history ≡ with_event h.history (record { cpu = h.caller.acting; steps = s }) state → IsAnswered meaning before cs s after
    answered cs s state fulfils next =
        let e : Event O P C R = record { cpu = before.caller.acting; steps = s } in
        let last : after.seen ≡ h.history.log ++ e ∷ [] = seen ∙ (ap (λ x. x.log) next ∙ ap (λ c. h.history.log ++ record { cpu = c.acting; steps = s } ∷ []) was) in
        let acts : before.caller.owned before.caller.acting ≡ true = subst (λ c. c.owned c.acting ≡ true) was held.caller.acts in
        record {
          caller = same;
          valid = valid;
          begins = subst (Begins before.seen) (sym last) (begins_more before.seen h.history.log (e ∷ []) grows.begins);
          front = h.history.log;
          last = last;
          mine = ap (λ l. of before.caller.acting l) last ∙ (of_own before.caller.acting h.history.log e refl ∙ ap (λ l. l ++ e ∷ []) (grows.own before.caller.acting acts));
          others = λ j owns apart. ap (λ l. of j l) last ∙ (of_push j h.history.log e apart ∙ grows.own j owns);
          fulfils = fulfils;
        }

    pub refused : k ≡ h → length h.history.log ≡ h.history.limit → IsRefused meaning before after
    refused kept full = record {
      caller = same;
      valid = valid;
      grows = subst (Grows before.caller.owned before.seen) (sym (seen ∙ ap (λ z. z.history.log) kept)) grows;
      full = ap length (seen ∙ ap (λ z. z.history.log) kept) ∙ (full ∙ (ap (λ x. x.limit) held.replayed ∙ ap (λ c. c.cell.limit) was));
    }

    -- by the answer of the logged object
    pub did : {X : Type 0} (cs : List C) (r : Result (Steps O P C R) X) → IfOk r (λ s. Fulfils meaning cs s.list.items) → (IsErr r ↔ (length h.history.log ≡ h.history.limit))
        → IfOk r (λ s. k.history ≡ with_event h.history (record { cpu = h.caller.acting; steps = s }) (after_steps meaning h.history.state s.list.items)) → OnErr r (k ≡ h)
        → IfOk r (λ s. IsAnswered meaning before cs s after) × OnErr r (IsRefused meaning before after)
    did cs (Ok s) asked room next kept = (answered cs s _ asked next, tt)
    did cs (Err e) asked room next kept = (tt, refused kept (room.0 refl))

    -- the same of one call
    pub did_one : {X : Type 0} (c : C) (r : Result R X) → (IsErr r ↔ (length h.history.log ≡ h.history.limit))
        → IfOk r (λ v. k.history ≡ with_event h.history (record { cpu = h.caller.acting; steps = one_step c v }) (meaning.answer h.history.state c).0) → OnErr r (k ≡ h)
        → IfOk r (λ v. IsAnswered meaning before (c ∷ []) (one_step c v) after) × OnErr r (IsRefused meaning before after)
    did_one c (Ok v) room next kept = (answered (c ∷ []) (one_step c v) _ (record { beginning = record { start = refl }; whole = λ _. refl }) next, tt)
    did_one c (Err e) room next kept = (tt, refused kept (room.0 refl))
