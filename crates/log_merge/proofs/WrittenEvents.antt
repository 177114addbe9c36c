-- The events of an order, counted while its entries are written.
use Rattle.std.proofs.{Common.{◌≡◌, ◌==◌, ℕ, zero, suc, ◌+◌, ◌<◌, ◌≤◌, true, false, cond, List, [], ◌∷◌, ◌++◌, length, take, drop, get_or, slice_get, Option, Some, None, refl, sym, ap, ◌∙◌, subst, arith, length-append}, Math.ListN.set, lemmas.List.{append-nil, length-set, get_or-set_same, get_or-set_other}}
use mathlib.Core.Logic.{dite}
use native.Mathlib.Decide.{ℕ_discrete}
use Rattle.event_log.specs.{declared.event.Event.Event, declared.event.Steps.Steps, declared.entry.Done.Done, declared.entry.Entry.Entry, declared.entry.Run.Run}
use Rattle.sound_run.specs.{declared.place.Place.Place, Sound.log_of, Orders.{with_event, with_entry, entry_at, events_on, events_in, IsOrder}}
use Rattle.sound_run.proofs.OrderLists.{events_append, one_off, one_none, one_on}
use Rattle.auditor.proofs.Splits.{take_length}
use Rattle.log_merge.specs.Written.{AreWritten}
use Rattle.log_merge.proofs.Prefixes.{take_more}
use Rattle.event_log.specs.declared.entry.Done.TheVariants as done

cut : {X : Type 0} (xs : List X) (i : ℕ) (x : X) → slice_get xs i ≡ Some x → xs ≡ take (suc i) xs ++ drop (suc i) xs
cut [] i x e = cc
cut (y ∷ ys) zero x e = refl
cut (y ∷ ys) (suc i) x e = ap (λ l. y ∷ l) (cut ys i x e)

module _ {O P C R : Type 0} where
  one_more : (cpu : ℕ) (d : Done O P C R) (xs : List (Event O P C R)) → length (with_event cpu d xs) ≤ length xs + 1
  one_more cpu (done.Steps s) xs = omega arith
  one_more cpu done.NoRoom xs = omega arith

  at_most_one : (x cpu : ℕ) (o : Option (Entry O P C R)) (xs : List (Event O P C R)) → length (with_entry x cpu o xs) ≤ length xs + 1
  at_most_one x cpu None xs = omega arith
  at_most_one x cpu (Some e) xs = elim (e.object == x) as (λ b. length (cond b (with_event cpu e.done xs) xs) ≤ length xs + 1) [ true ↦ one_more cpu e.done xs | false ↦ omega arith ]

module _ {O P C R : Type 0} (run : Run O P C R) where
  -- there are no more events than places
  events_few : (x : ℕ) (places : List Place) → events_in run places x ≤ length places
  events_few x [] = omega arith
  events_few x (p ∷ places) = let a = events_few x places in let b = at_most_one x p.cpu (entry_at run p) (events_on run x places) in omega (arith, a, b)

  pub none_written : (written : List ℕ) → length written ≡ 256 → ((x : ℕ) → get_or written x 0 ≡ 0) → AreWritten run [] written
  none_written written room zeros = record { room = room; counts = λ x lt. zeros x }

  module _ (places : List Place) (i : ℕ) (written : List ℕ) (so_far : AreWritten run (take i places) written) where
    pub few_written : (x : ℕ) → x < 256 → i ≤ length places → get_or written x 0 ≤ i
    few_written x lt le =
        let a = so_far.counts x lt in
        let b = events_few x (take i places) in
        let c = take_length places i le in
        omega (arith, a, b, c)

    module _ (p : Place) (at : slice_get places i ≡ Some p) where
      goes_on : (x : ℕ) → events_on run x (take (i + 1) places) ≡ events_on run x (take i places) ++ events_on run x (p ∷ [])
      goes_on x = let n : i + 1 ≡ suc i = omega arith in ap (λ k. events_on run x (take k places)) n ∙ (ap (events_on run x) (take_more places i p at) ∙ events_append run x (take i places) (p ∷ []))

      stays : ((x : ℕ) → events_on run x (p ∷ []) ≡ []) → AreWritten run (take (i + 1) places) written
      stays none = record {
        room = so_far.room;
        counts = λ x lt. so_far.counts x lt ∙ sym (ap length (goes_on x ∙ (ap (λ l. events_on run x (take i places) ++ l) (none x) ∙ append-nil (events_on run x (take i places)))));
      }

      -- there is no entry
      pub absent_written : entry_at run p ≡ None → AreWritten run (take (i + 1) places) written
      absent_written none = stays (λ x. ap (λ o. with_entry x p.cpu o []) none)

      module _ (e : Entry O P C R) (there : entry_at run p ≡ Some e) where
        -- it found no room
        pub full_written : e.done ≡ done.NoRoom → AreWritten run (take (i + 1) places) written
        full_written none = stays (λ x. one_none run x p e there none)

        -- it was done
        module _ (s : Steps O P C R) (is : e.done ≡ done.Steps s) (small : e.object < 256) where
          abbrev its : Event O P C R
          its = record { cpu = p.cpu; steps = s }

          own : events_on run e.object (take (i + 1) places) ≡ events_on run e.object (take i places) ++ its ∷ []
          own = goes_on e.object ∙ ap (λ l. events_on run e.object (take i places) ++ l) (one_on run e.object p e s there refl is)

          pub done_written : AreWritten run (take (i + 1) places) (set written e.object (get_or written e.object 0 + 1))
          done_written = record {
            room = length-set written e.object (get_or written e.object 0 + 1) ∙ so_far.room;
            counts = λ x lt. dite (ℕ_discrete e.object x)
                (λ here. subst (λ (y : ℕ). get_or (set written e.object (get_or written e.object 0 + 1)) y 0 ≡ events_in run (take (i + 1) places) y) here
                (let a = get_or-set_same written e.object (get_or written e.object 0 + 1) 0 (let r = so_far.room in omega (arith, r, small)) in
                let b = so_far.counts e.object small in
                let c = ap length own in
                let d = length-append (events_on run e.object (take i places)) (its ∷ []) in
                omega (arith, a, b, c, d)))
                (λ off. get_or-set_other written e.object x (get_or written e.object 0 + 1) 0 (λ q. off (sym q)) ∙ (so_far.counts x lt ∙ sym (ap length (goes_on x ∙ (ap (λ l. events_on run x (take i places) ++ l) (one_off run x p e there off) ∙ append-nil (events_on run x (take i places)))))));
          }

          -- its event is the next of its object's log
          pub next_written : IsOrder run places → slice_get (log_of e.object run) (get_or written e.object 0) ≡ Some its
          next_written order =
              let rest = events_on run e.object (drop (suc i) places) in
              let n : suc i ≡ i + 1 = omega arith in
              let a : events_on run e.object places ≡ events_on run e.object (take (suc i) places) ++ rest = ap (events_on run e.object) (cut places i p at) ∙ events_append run e.object (take (suc i) places) (drop (suc i) places) in
              let b : log_of e.object run ≡ (events_on run e.object (take i places) ++ its ∷ []) ++ rest = sym (order.events e.object) ∙ (a ∙ ap (λ l. l ++ rest) (ap (λ k. events_on run e.object (take k places)) n ∙ own)) in
              ap (λ l. slice_get l (get_or written e.object 0)) b ∙ (ap (λ k. slice_get ((events_on run e.object (take i places) ++ its ∷ []) ++ rest) k) (so_far.counts e.object small) ∙ middle (events_on run e.object (take i places)) its rest)
            where
              middle : (a : List (Event O P C R)) (x : Event O P C R) (b : List (Event O P C R)) → slice_get ((a ++ x ∷ []) ++ b) (length a) ≡ Some x
              middle [] x b = refl
              middle (y ∷ a) x b = middle a x b
