-- One entry more, and the end.
use Rattle.std.proofs.{Common.{◌≡◌, ℕ, zero, suc, ◌<◌, ◌≤◌, List, [], ◌∷◌, ◌++◌, length, take, get_or, slice_get, Option, Some, None, refl, sym, ap, ◌∙◌, subst, arith, zero-add}, Math.ListN.set, lemmas.List.{append-nil, get_or-set_same, get_or-set_other}, lemmas.Option.slice_get_within}
use mathlib.Core.Logic.{dite}
use native.Mathlib.Decide.{ℕ_discrete}
use Rattle.event_log.specs.{declared.event.Event.Event, declared.event.Steps.Steps, declared.entry.Entry.Entry, declared.entry.Run.Run, Log.of}
use Rattle.event_log.proofs.Each.{all_map, all_push}
use Rattle.sound_run.specs.{Sound.{transcript_of, log_of, done_on, steps_by}, declared.place.Place.Place, Orders.{numbers, entries_of, entry_at, events_on, IsOrder}}
use Rattle.sound_run.proofs.{Slices.one_of, OrderLists.{num_length, num_push, entries_append, entries_own, entries_other, events_append, full_push, one_off, one_none, one_on}}
use Rattle.auditor.specs.Faults.{done_before, events_before}
use Rattle.auditor.proofs.{OwnEvents.own_steps, Splits.take_all, Ranked.done_at}
use Rattle.log_merge.specs.Prefixes.{IsMatched, IsClosed, IsPrefix}
use Rattle.log_merge.proofs.{Counts.first_ranks, Lent.ended}
use Rattle.event_log.specs.declared.entry.Done.TheVariants as done

pub take_more : {X : Type 0} (xs : List X) (i : ℕ) (x : X) → slice_get xs i ≡ Some x → take (suc i) xs ≡ take i xs ++ x ∷ []
take_more [] i x e = cc
take_more (y ∷ ys) zero x e = let same : y ≡ x = cc in ap (λ z. z ∷ []) same
take_more (y ∷ ys) (suc i) x e = ap (λ l. y ∷ l) (take_more ys i x e)

module _ {O P C R : Type 0} (run : Run O P C R) where
  module _ (order : List Place) (at placed : List ℕ) (front : IsPrefix run order at placed) where
    pub long : (cpu : ℕ) → length (entries_of cpu order) ≡ get_or at cpu 0
    long cpu = ap length (front.entries cpu) ∙ num_length 0 (get_or at cpu 0)

    -- the events that were placed are as many as the placed entries added
    pub rank_is : (x cpu : ℕ) → events_before cpu (get_or placed x 0) (log_of x run) ≡ done_before x (get_or at cpu 0) (transcript_of cpu run)
    rank_is x cpu =
        let r = first_ranks run x cpu order (front.entries cpu ∙ ap (numbers 0) (sym (long cpu))) in
        ap (λ l. length (of cpu l)) (sym (front.events x)) ∙ (r ∙ ap (λ k. done_before x k (transcript_of cpu run)) (long cpu))

    module _ (cpu : ℕ) (e : Entry O P C R) (found : slice_get (transcript_of cpu run) (get_or at cpu 0) ≡ Some e) (cpu_in : cpu < length at) where
      abbrev n : ℕ
      n = get_or at cpu 0

      abbrev p : Place
      p = record { cpu = cpu; entry = n }

      entries_next : (k : ℕ) → entries_of k (order ++ p ∷ []) ≡ numbers 0 (get_or (set at cpu (suc n)) k 0)
      entries_next k = dite (ℕ_discrete cpu k)
          (λ own.
          let a : entries_of cpu (order ++ p ∷ []) ≡ numbers 0 (suc n) = entries_append cpu order (p ∷ []) ∙ ((λ j. front.entries cpu j ++ entries_own cpu p [] refl j) ∙ (ap (λ i. numbers 0 n ++ i ∷ []) (sym (zero-add n)) ∙ num_push 0 n)) in
          let b = a ∙ ap (numbers 0) (sym (get_or-set_same at cpu (suc n) 0 cpu_in)) in
          subst (λ (i : ℕ). entries_of i (order ++ p ∷ []) ≡ numbers 0 (get_or (set at cpu (suc n)) i 0)) own b)
          (λ off.
          entries_append k order (p ∷ []) ∙ (ap (λ l. entries_of k order ++ l) (entries_other k p [] off) ∙ (append-nil (entries_of k order) ∙ (front.entries k ∙ ap (numbers 0) (sym (get_or-set_other at cpu k (suc n) 0 (λ q. off (sym q))))))))

      few_next : (k : ℕ) → get_or (set at cpu (suc n)) k 0 ≤ length (transcript_of k run)
      few_next k = dite (ℕ_discrete cpu k)
          (λ own.
          let lt = slice_get_within (transcript_of cpu run) n e found in
          let same = get_or-set_same at cpu (suc n) 0 cpu_in in
          subst (λ (i : ℕ). get_or (set at cpu (suc n)) i 0 ≤ length (transcript_of i run)) own (omega (arith, lt, same)))
          (λ off. let same = get_or-set_other at cpu k (suc n) 0 (λ q. off (sym q)) in let le = front.few k in omega (arith, same, le))

      -- an entry without room is placed
      pub push_full : e.done ≡ done.NoRoom → length (log_of e.object run) ≤ get_or placed e.object 0 → IsPrefix run (order ++ p ∷ []) (set at cpu (suc n)) placed
      push_full none whole = record {
        entries = entries_next;
        few = few_next;
        events = λ x. events_append run x order (p ∷ []) ∙ (ap (λ l. events_on run x order ++ l) (one_none run x p e found none) ∙ (append-nil (events_on run x order) ∙ front.events x));
        within = front.within;
        full = full_push run order p front.full (all_map (λ q c. λ f there_f none_f. one_none run f.object p e found none) order front.closed);
        closed = all_push (IsClosed run placed) order p front.closed (λ f at_f none_f. let same : e ≡ f = one_of e f (slice_get (transcript_of cpu run) n) found at_f in subst (λ (g : Entry O P C R). length (log_of g.object run) ≤ get_or placed g.object 0) same whole);
      }

      module _ (matched : IsMatched run) (s : Steps O P C R) (is : e.done ≡ done.Steps s) (d : Event O P C R) (next : slice_get (log_of e.object run) (get_or placed e.object 0) ≡ Some d) (by : d.cpu ≡ cpu) (object_in : e.object < length placed) where
        abbrev k : ℕ
        k = get_or placed e.object 0

        -- the event is the entry's own
        own : d ≡ record { cpu = cpu; steps = s }
        own =
            let a = own_steps cpu (log_of e.object run) k d next by in
            let b = done_at e.object (transcript_of cpu run) n e s found refl is in
            let c : slice_get (steps_by cpu (log_of e.object run)) (events_before cpu k (log_of e.object run)) ≡ Some s = (λ j. slice_get (sym (matched.taken cpu e.object) j) (rank_is e.object cpu j)) ∙ b in
            let same : d.steps ≡ s = one_of d.steps s (slice_get (steps_by cpu (log_of e.object run)) (events_before cpu k (log_of e.object run))) a c in
            λ j. record { cpu = by j; steps = same j }

        grows : (y : ℕ) → get_or placed y 0 ≤ get_or (set placed e.object (suc k)) y 0
        grows y = dite (ℕ_discrete y e.object)
            (λ here. let same = get_or-set_same placed e.object (suc k) 0 object_in in subst (λ (z : ℕ). get_or placed z 0 ≤ get_or (set placed e.object (suc k)) z 0) (sym here) (omega (arith, same)))
            (λ off. let same = get_or-set_other placed e.object y (suc k) 0 off in omega (arith, same))

        events_next : (x : ℕ) → events_on run x (order ++ p ∷ []) ≡ take (get_or (set placed e.object (suc k)) x 0) (log_of x run)
        events_next x = dite (ℕ_discrete e.object x)
            (λ here.
            let a : events_on run e.object (order ++ p ∷ []) ≡ take (suc k) (log_of e.object run)
            = events_append run e.object order (p ∷ []) ∙ ((λ j. front.events e.object j ++ (one_on run e.object p e s found refl is ∙ ap (λ v. v ∷ []) (sym own)) j) ∙ sym (take_more (log_of e.object run) k d next)) in
            let b = a ∙ ap (λ i. take i (log_of e.object run)) (sym (get_or-set_same placed e.object (suc k) 0 object_in)) in
            subst (λ (y : ℕ). events_on run y (order ++ p ∷ []) ≡ take (get_or (set placed e.object (suc k)) y 0) (log_of y run)) here b)
            (λ off. events_append run x order (p ∷ []) ∙ (ap (λ l. events_on run x order ++ l) (one_off run x p e found off) ∙ (append-nil (events_on run x order) ∙ (front.events x ∙ ap (λ i. take i (log_of x run)) (sym (get_or-set_other placed e.object x (suc k) 0 (λ q. off (sym q))))))))

        within_next : (x : ℕ) → get_or (set placed e.object (suc k)) x 0 ≤ length (log_of x run)
        within_next x = dite (ℕ_discrete e.object x)
            (λ here.
            let lt = slice_get_within (log_of e.object run) k d next in
            let same = get_or-set_same placed e.object (suc k) 0 object_in in
            subst (λ (y : ℕ). get_or (set placed e.object (suc k)) y 0 ≤ length (log_of y run)) here (omega (arith, lt, same)))
            (λ off. let same = get_or-set_other placed e.object x (suc k) 0 (λ q. off (sym q)) in let le = front.within x in omega (arith, same, le))

        -- an object whose log stands whole isn't this one
        elsewhere : (q : Place) → IsClosed run placed q → (f : Entry O P C R) → entry_at run q ≡ Some f → f.done ≡ done.NoRoom → events_on run f.object (p ∷ []) ≡ []
        elsewhere q closed f at_f none = one_off run f.object p e found (λ same.
            let whole = closed f at_f none in
            let lt = slice_get_within (log_of e.object run) k d next in
            let lt' : get_or placed f.object 0 < length (log_of f.object run) = subst (λ (y : ℕ). get_or placed y 0 < length (log_of y run)) same lt in
            absurd (omega (arith, whole, lt')))

        -- an entry that was done is placed with its event
        pub push_done : IsPrefix run (order ++ p ∷ []) (set at cpu (suc n)) (set placed e.object (suc k))
        push_done = record {
          entries = entries_next;
          few = few_next;
          events = events_next;
          within = within_next;
          full = full_push run order p front.full (all_map elsewhere order front.closed);
          closed = all_push (IsClosed run (set placed e.object (suc k))) order p
              (all_map (λ q closed f at_f none. let le = closed f at_f none in let g = grows f.object in omega (arith, le, g)) order front.closed)
              (λ f at_f none. let same : e ≡ f = one_of e f (slice_get (transcript_of cpu run) n) found at_f in let other : done.Steps s ≡ done.NoRoom = sym is ∙ (ap (λ (g : Entry O P C R). g.done) same ∙ none) in absurd (cc));
        }

    -- where no entry is left, all events are placed
    pub front_is_order : IsMatched run → ((cpu : ℕ) → length (transcript_of cpu run) ≤ get_or at cpu 0) → IsOrder run order
    front_is_order matched all = record {
      entries = λ cpu. front.entries cpu ∙ ap (numbers 0) (let le = front.few cpu in let ge = all cpu in omega (arith, le, ge));
      events = λ x. front.events x ∙ take_all (log_of x run) (get_or placed x 0) (whole x);
      full = front.full;
    }
      where
        none_left : (x : ℕ) (d : Event O P C R) → slice_get (log_of x run) (get_or placed x 0) ≡ Some d → ⊥
        none_left x d next =
            let lt = slice_get_within (steps_by d.cpu (log_of x run)) (events_before d.cpu (get_or placed x 0) (log_of x run)) d.steps (own_steps d.cpu (log_of x run) (get_or placed x 0) d next refl) in
            let r = rank_is x d.cpu in
            let full : done_before x (get_or at d.cpu 0) (transcript_of d.cpu run) ≡ length (steps_by d.cpu (log_of x run)) = ap (λ l. length (done_on x l)) (take_all (transcript_of d.cpu run) (get_or at d.cpu 0) (all d.cpu)) ∙ ap length (matched.taken d.cpu x) in
            absurd (omega (arith, lt, r, full))

        whole : (x : ℕ) → length (log_of x run) ≤ get_or placed x 0
        whole x = by (slice_get (log_of x run) (get_or placed x 0)) refl
          where
            by : (o : Option (Event O P C R)) → slice_get (log_of x run) (get_or placed x 0) ≡ o → length (log_of x run) ≤ get_or placed x 0
            by None e = ended (log_of x run) (get_or placed x 0) e
            by (Some d) e = absurd (none_left x d e)
