-- What a hold adds to a log, group by group.
use Rattle.std.proofs.{Common.{◌≡◌, ℕ, ◌+◌, ◌<◌, List, [], ◌∷◌, ◌++◌, length, take, drop, get_or, slice_get, refl, sym, ap, ◌∙◌, subst, arith, append_assoc, length-take, Some, Result, Ok, Err, OnErr}, lemmas.List.{map-append, take-append-drop, take_more}}
use Rattle.arrayvec.specs.ArrayVec.{ArrayVec}
use Rattle.event_log.specs.{declared.object.SeqObject.Ghosts, declared.event.Steps.Steps, Log.{Fulfils, one_step}, History.with_event}
use Rattle.sound_run.proofs.Slices.{one_of}
use Rattle.word_rule.specs.{Cell.{PassView, HoldView, Grows, Lawful, IsPassView, IsHoldView}, Answered.{FulfilFirst, IsHeldThrough, events_by}}
use Rattle.guarded_cell.specs.Groups.{HasAdded}

-- the only element of a list
pub only_one : {X : Type 0} (xs : List X) (x : X) → length xs ≡ 1 → slice_get xs 0 ≡ Some x → xs ≡ x ∷ []
only_one [] x one at = absurd (omega arith)
only_one (y ∷ []) x one at = ap (λ z. z ∷ []) (one_of y x (slice_get (y ∷ []) 0) refl at)
only_one (y ∷ z ∷ zs) x one at = absurd (omega arith)

module _ {O P C R : Type 0} (meaning : Ghosts O P C R) where
  -- a single step fulfils a single call
  pub fulfils_one : (x : C) (r : R) (cs : List C) → cs ≡ x ∷ [] → Fulfils meaning cs (one_step x r).list.items
  fulfils_one x r cs is = subst (λ l. Fulfils meaning l (one_step x r).list.items) (sym is) record { beginning = record { start = refl }; whole = λ _. refl }

  -- one event more under a hold
  pub added_more : (h0 h k : HoldView O P C R) (done more : List (Steps O P C R)) (s : Steps O P C R) (state : O) → HasAdded h0 done h → k.caller ≡ h.caller
      → k.history ≡ with_event h.history (record { cpu = h.caller.acting; steps = s }) state → more ≡ done ++ s ∷ [] → HasAdded h0 more k
  added_more h0 h k done more s state a same next longer = record {
    caller = same ∙ a.caller;
    log = ap (λ x. x.log) next ∙ (ap (λ c. h.history.log ++ record { cpu = c.acting; steps = s } ∷ []) a.caller ∙ (ap (λ l. l ++ events_by h0.caller.acting (s ∷ [])) a.log
        ∙ (append_assoc h0.history.log (events_by h0.caller.acting done) (events_by h0.caller.acting (s ∷ []))
        ∙ ap (λ l. h0.history.log ++ l) (sym (map-append (λ (x : Steps O P C R). record { cpu = h0.caller.acting; steps = x }) done (s ∷ [])) ∙ ap (events_by h0.caller.acting) (sym longer)))));
  }

  fulfil_more : (gs : List (ArrayVec C)) (ss : List (Steps O P C R)) (g : ArrayVec C) (s : Steps O P C R) → length ss ≡ length gs → FulfilFirst meaning gs ss → Fulfils meaning g.items s.list.items
      → FulfilFirst meaning (gs ++ g ∷ []) (ss ++ s ∷ [])
  fulfil_more [] [] g s len h k = (k, tt)
  fulfil_more [] (x ∷ xs) g s len h k = absurd h
  fulfil_more (y ∷ ys) [] g s len h k = absurd (omega arith)
  fulfil_more (y ∷ ys) (x ∷ xs) g s len h k = (h.0, fulfil_more ys xs g s (omega arith) h.1 k)

  fulfil_longer : (gs hs : List (ArrayVec C)) (ss : List (Steps O P C R)) → FulfilFirst meaning gs ss → FulfilFirst meaning (gs ++ hs) ss
  fulfil_longer gs hs [] h = tt
  fulfil_longer [] hs (x ∷ xs) h = absurd h
  fulfil_longer (y ∷ ys) hs (x ∷ xs) h = (h.0, fulfil_longer ys hs xs h.1)

  -- the group at the index i was done too
  pub fulfil_next : (gs : List (ArrayVec C)) (i : ℕ) (g : ArrayVec C) (cs : List C) (done more : List (Steps O P C R)) (s : Steps O P C R)
      → i < length gs → g ≡ get_or gs i g → cs ≡ g.items → length done ≡ i → FulfilFirst meaning (take i gs) done → Fulfils meaning cs s.list.items → more ≡ done ++ s ∷ []
      → FulfilFirst meaning (take (i + 1) gs) more
  fulfil_next gs i g cs done more s lt at same len asked is longer =
      let T : List (ArrayVec C) → Type 0 = λ l. FulfilFirst meaning l more in
      let D : List (Steps O P C R) → Type 0 = λ l. FulfilFirst meaning (take i gs ++ g ∷ []) l in
      let F : List C → Type 0 = λ l. Fulfils meaning l s.list.items in
      let taken : take (i + 1) gs ≡ take i gs ++ g ∷ [] = take_more gs i g lt ∙ ap (λ x. take i gs ++ x ∷ []) (sym at) in
      let count : length done ≡ length (take i gs) = omega (arith, length-take i gs, len) in
      subst T (sym taken) (subst D (sym longer) (fulfil_more (take i gs) done g s count asked (subst F same is)))

  -- what answers the first groups answers the groups
  pub fulfil_front : (gs : List (ArrayVec C)) (i : ℕ) (done : List (Steps O P C R)) → FulfilFirst meaning (take i gs) done → FulfilFirst meaning gs done
  fulfil_front gs i done asked =
      let T : List (ArrayVec C) → Type 0 = λ l. FulfilFirst meaning l done in
      subst T (take-append-drop i gs) (fulfil_longer (take i gs) (drop i gs) done asked)

  -- the hold h of a caller, which it is after the groups, and the caller without the object afterwards
  module _ (before after : PassView O P C R) (h k : HoldView O P C R) (done : List (Steps O P C R)) (was : h.caller ≡ before.caller) (added : HasAdded h done k) (seen : after.seen ≡ k.history.log) where
    pub held_through : (gs : List (ArrayVec C)) → IsHoldView meaning h → Grows before.caller.owned before.seen h.history.log → FulfilFirst meaning gs done → after.caller ≡ k.caller → IsPassView meaning after
        → IsHeldThrough meaning before gs done after
    held_through gs held grows asked ends part =
        let same : after.caller ≡ before.caller = ends ∙ (added.caller ∙ was) in
        record {
          caller = same;
          found = h.history.log;
          found_valid = subst (λ c. Lawful meaning c.cell h.history.log) was held.valid;
          grows = grows;
          added = seen ∙ (added.log ∙ ap (λ c. h.history.log ++ events_by c.acting done) was);
          valid = subst (λ c. Lawful meaning c.cell after.seen) same part.valid;
          fulfils = asked;
        }

    -- a log that was full under the hold is full
    pub full_after : {A E : Type 0} (r : Result A E) → IsHoldView meaning k → OnErr r (length k.history.log ≡ k.history.limit) → OnErr r (length after.seen ≡ before.caller.cell.limit)
    full_after (Ok x) held full = tt
    full_after (Err e) held full = ap length seen ∙ (full ∙ (ap (λ x. x.limit) held.replayed ∙ ap (λ c. c.cell.limit) (added.caller ∙ was)))
