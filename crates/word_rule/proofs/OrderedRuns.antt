-- A run with an order, after one entry more: the entry comes last.
use Rattle.std.proofs.{Common.{◌≡◌, ◌≢◌, ℕ, zero, suc, ◌+◌, ◌<◌, ◌≤◌, List, [], ◌∷◌, ◌++◌, length, slice_get, Some, refl, sym, ap, ◌∙◌, subst, arith, length-append, eq-eqb, zero-add}, Math.ListN.set, lemmas.List.append-nil}
use Rattle.std.specs.{Prelude.unwrap_or, List.AllByRecursion}
use mathlib.Core.Logic.{dite}
use native.Mathlib.Decide.{ℕ_discrete}
use Rattle.event_log.proofs.{Each.all_map, Lists.{get_last, same_front}}
use Rattle.event_log.specs.{declared.event.Event.Event, declared.event.Steps.Steps, declared.entry.Done.Done, declared.entry.Entry.Entry, declared.entry.Run.Run}
use Rattle.sound_run.specs.{declared.place.Place.Place, Orders.{numbers, entries_of, with_event, with_entry, entry_at, events_on, NoneBehindFull, IsOrder}, Sound.{transcript_of, log_of}}
use Rattle.word_rule.specs.Machine.World.{with_done}
use Rattle.sound_run.proofs.{OrderLists.{num_push, entries_append, entries_own, entries_other, events_append, full_push, one_off, one_none}, Slices.{get_set_same, get_set_other}}
use Rattle.event_log.specs.declared.entry.Done.TheVariants as done

-- the numbers of n from a on are below their end
numbers_below : (a n m : ℕ) → a + n ≤ m → AllByRecursion (λ k. k < m) (numbers a n)
numbers_below a zero m le = tt
numbers_below a (suc n) m le = (omega (arith, le), numbers_below (suc a) n m (omega (arith, le)))

-- what is true of the entries of each CPU is true of each place
all_within : (n : ℕ → ℕ) (places : List Place) → ((cpu : ℕ) → AllByRecursion (λ k. k < n cpu) (entries_of cpu places)) → AllByRecursion (λ p. p.entry < n p.cpu) places
all_within n [] each = tt
all_within n (p ∷ places) each = (
  (subst (λ l. AllByRecursion (λ k. k < n p.cpu) l) (entries_own p.cpu p places refl) (each p.cpu)).0,
  all_within n places (λ cpu. dite (ℕ_discrete p.cpu cpu)
      (λ own. (subst (λ l. AllByRecursion (λ k. k < n cpu) l) (entries_own cpu p places own) (each cpu)).1)
      (λ off. subst (λ l. AllByRecursion (λ k. k < n cpu) l) (entries_other cpu p places off) (each cpu))),
)

module _ {O P C R : Type 0} where
  -- an entry's event, at the end of the log
  event_last : (cpu : ℕ) (log : List (Event O P C R)) (d : Done O P C R) → log ++ with_event cpu d [] ≡ with_done cpu log d
  event_last cpu log (done.Steps s) = refl
  event_last cpu log done.NoRoom = append-nil log

module _ {O P C R : Type 0} (run : Run O P C R) (i : ℕ) (e : Entry O P C R) (log : List (Event O P C R)) (entries : List (Entry O P C R)) where
  -- the run with this entry of CPU i more, and its event
  abbrev pub with_entry_done : Run O P C R
  with_entry_done = record { logs = set run.logs e.object (with_done i log e.done); transcripts = set run.transcripts i (entries ++ e ∷ []) }

  -- the place of that entry
  abbrev pub new_place : Place
  new_place = record { cpu = i; entry = length entries }

  module _ (log_is : slice_get run.logs e.object ≡ Some log) (entries_is : slice_get run.transcripts i ≡ Some entries) where
    abbrev next : Run O P C R
    next = with_entry_done

    abbrev p : Place
    p = new_place

    was : transcript_of i run ≡ entries
    was = ap (λ o. unwrap_or o []) entries_is

    mine : transcript_of i next ≡ entries ++ e ∷ []
    mine = ap (λ o. unwrap_or o []) (get_set_same run.transcripts i (entries ++ e ∷ []) entries entries_is)

    theirs : (k : ℕ) → i ≢ k → transcript_of k next ≡ transcript_of k run
    theirs k off = ap (λ o. unwrap_or o []) (get_set_other run.transcripts i k (entries ++ e ∷ []) off)

    log_here : log_of e.object next ≡ with_done i log e.done
    log_here = ap (λ o. unwrap_or o []) (get_set_same run.logs e.object (with_done i log e.done) log log_is)

    log_there : (x : ℕ) → e.object ≢ x → log_of x next ≡ log_of x run
    log_there x off = ap (λ o. unwrap_or o []) (get_set_other run.logs e.object x (with_done i log e.done) off)

    at_p : entry_at next p ≡ Some e
    at_p = ap (λ l. slice_get l (length entries)) mine ∙ get_last entries e

    -- an entry that was there before
    at_old : (q : Place) → q.entry < length (transcript_of q.cpu run) → entry_at next q ≡ entry_at run q
    at_old q lt = dite (ℕ_discrete i q.cpu)
        (λ own.
        let here : slice_get (transcript_of i next) q.entry ≡ slice_get (transcript_of i run) q.entry
        = ap (λ l. slice_get l q.entry) mine ∙ (same_front entries (e ∷ []) q.entry (subst (λ l. q.entry < length l) was (subst (λ (k : ℕ). q.entry < length (transcript_of k run)) (sym own) lt)) ∙ ap (λ l. slice_get l q.entry) (sym was)) in
        subst (λ (k : ℕ). slice_get (transcript_of k next) q.entry ≡ slice_get (transcript_of k run) q.entry) own here)
        (λ off. ap (λ l. slice_get l q.entry) (theirs q.cpu off))

    events_old : (x : ℕ) (places : List Place) → AllByRecursion (λ q. q.entry < length (transcript_of q.cpu run)) places → events_on next x places ≡ events_on run x places
    events_old x [] all = refl
    events_old x (q ∷ places) all = λ j. with_entry x q.cpu (at_old q all.0 j) (events_old x places all.1 j)

    full_old : (places : List Place) → AllByRecursion (λ q. q.entry < length (transcript_of q.cpu run)) places → NoneBehindFull run places → NoneBehindFull next places
    full_old [] all full = tt
    full_old (q ∷ places) all full = ((λ f at none. events_old f.object places all.1 ∙ full.0 f (sym (at_old q all.0) ∙ at) none), full_old places all.1 full.1)

    module _ (places : List Place) (order : IsOrder run places) (room : (s : Steps O P C R) → e.done ≡ done.Steps s → (q : Place) (f : Entry O P C R) → entry_at run q ≡ Some f → f.done ≡ done.NoRoom → e.object ≢ f.object) where
      all_old : AllByRecursion (λ q. q.entry < length (transcript_of q.cpu run)) places
      all_old = all_within (λ cpu. length (transcript_of cpu run)) places (λ cpu. subst (λ l. AllByRecursion (λ k. k < length (transcript_of cpu run)) l) (sym (order.entries cpu)) (numbers_below 0 (length (transcript_of cpu run)) (length (transcript_of cpu run)) (omega arith)))

      entries_next : (k : ℕ) → entries_of k (places ++ p ∷ []) ≡ numbers 0 (length (transcript_of k next))
      entries_next k = dite (ℕ_discrete i k)
          (λ own.
          let n : ℕ = length entries in
          let before : entries_of i places ≡ numbers 0 n = order.entries i ∙ ap (λ l. numbers 0 (length l)) was in
          let long : length (transcript_of i next) ≡ suc n = ap length mine ∙ (length-append entries (e ∷ []) ∙ omega arith) in
          let here : entries_of i (places ++ p ∷ []) ≡ numbers 0 (length (transcript_of i next))
          = entries_append i places (p ∷ []) ∙ ((λ j. before j ++ entries_own i p [] refl j) ∙ ((ap (λ a. numbers 0 n ++ a ∷ []) (sym (zero-add n)) ∙ num_push 0 n) ∙ ap (numbers 0) (sym long))) in
          subst (λ (c : ℕ). entries_of c (places ++ p ∷ []) ≡ numbers 0 (length (transcript_of c next))) own here)
          (λ off. entries_append k places (p ∷ []) ∙ (ap (λ l. entries_of k places ++ l) (entries_other k p [] off) ∙ (append-nil (entries_of k places) ∙ (order.entries k ∙ ap (λ l. numbers 0 (length l)) (sym (theirs k off))))))

      events_next : (x : ℕ) → events_on next x (places ++ p ∷ []) ≡ log_of x next
      events_next x = dite (ℕ_discrete e.object x)
          (λ on.
          let old : events_on next e.object places ≡ log = events_old e.object places all_old ∙ (order.events e.object ∙ ap (λ o. unwrap_or o []) log_is) in
          let new : events_on next e.object (p ∷ []) ≡ with_event i e.done [] = ap (λ o. with_entry e.object i o []) at_p ∙ rw (eq-eqb e.object e.object refl) refl in
          let here : events_on next e.object (places ++ p ∷ []) ≡ log_of e.object next
          = events_append next e.object places (p ∷ []) ∙ ((λ j. old j ++ new j) ∙ (event_last i log e.done ∙ sym log_here)) in
          subst (λ (y : ℕ). events_on next y (places ++ p ∷ []) ≡ log_of y next) on here)
          (λ off. events_append next x places (p ∷ []) ∙ ((λ j. events_old x places all_old j ++ one_off next x p e at_p off j) ∙ (append-nil (events_on run x places) ∙ (order.events x ∙ sym (log_there x off)))))

      -- behind an entry without room the new one isn't done on its object
      behind : (d : Done O P C R) → e.done ≡ d → (q : Place) → q.entry < length (transcript_of q.cpu run) → (f : Entry O P C R) → entry_at next q ≡ Some f → f.done ≡ done.NoRoom → events_on next f.object (p ∷ []) ≡ []
      behind done.NoRoom is q lt f at none = one_none next f.object p e at_p is
      behind (done.Steps s) is q lt f at none = one_off next f.object p e at_p (room s is q f (sym (at_old q lt) ∙ at) none)

      pub order_more : IsOrder next (places ++ p ∷ [])
      order_more = record {
        entries = entries_next;
        events = events_next;
        full = full_push next places p (full_old places all_old order.full) (all_map (λ q lt. behind e.done refl q lt) places all_old);
      }
