-- Lists of places: one place more.
use Rattle.std.proofs.{Common.{◌≡◌, ◌≢◌, ◌==◌, ℕ, zero, suc, ◌+◌, true, false, cond, List, [], ◌∷◌, ◌++◌, length, map, Option, Some, None, refl, ap, ◌∙◌, arith, eq-eqb, ne_eqb, add-zero}, lemmas.List.map-append, lemmas.List.Elements.filter-append}
use Rattle.std.specs.List.{filter, AllByRecursion}
use Rattle.event_log.specs.{declared.event.Event.Event, declared.event.Steps.Steps, declared.entry.Done.Done, declared.entry.Entry.Entry, declared.entry.Run.Run}
use Rattle.sound_run.specs.{declared.place.Place.Place, Orders.{numbers, entries_of, with_event, with_entry, entry_at, events_on, NoneBehindFull}}
use Rattle.event_log.specs.declared.entry.Done.TheVariants as done

pub num_length : (a n : ℕ) → length (numbers a n) ≡ n
num_length a zero = refl
num_length a (suc n) = ap suc (num_length (suc a) n)

pub num_push : (a n : ℕ) → numbers a n ++ (a + n) ∷ [] ≡ numbers a (suc n)
num_push a zero = ap (λ k. k ∷ []) (add-zero a)
num_push a (suc n) = let e : a + suc n ≡ suc a + n = omega arith in ap (λ l. a ∷ l) (ap (λ k. numbers (suc a) n ++ k ∷ []) e ∙ num_push (suc a) n)

pub entries_append : (cpu : ℕ) (a b : List Place) → entries_of cpu (a ++ b) ≡ entries_of cpu a ++ entries_of cpu b
entries_append cpu a b = ap (map (λ (p : Place). p.entry)) (filter-append (λ (p : Place). p.cpu == cpu) a b) ∙ map-append (λ (p : Place). p.entry) (filter (λ (p : Place). p.cpu == cpu) a) (filter (λ (p : Place). p.cpu == cpu) b)

pub entries_own : (cpu : ℕ) (p : Place) (ps : List Place) → p.cpu ≡ cpu → entries_of cpu (p ∷ ps) ≡ p.entry ∷ entries_of cpu ps
entries_own cpu p ps is = rw (eq-eqb p.cpu cpu is) refl

pub entries_other : (cpu : ℕ) (p : Place) (ps : List Place) → p.cpu ≢ cpu → entries_of cpu (p ∷ ps) ≡ entries_of cpu ps
entries_other cpu p ps ne = rw (ne_eqb p.cpu cpu ne) refl

module _ {O P C R : Type 0} where
  with_event_append : (cpu : ℕ) (d : Done O P C R) (xs ys : List (Event O P C R)) → with_event cpu d (xs ++ ys) ≡ with_event cpu d xs ++ ys
  with_event_append cpu (done.Steps s) xs ys = refl
  with_event_append cpu done.NoRoom xs ys = refl

  with_entry_append : (x cpu : ℕ) (o : Option (Entry O P C R)) (xs ys : List (Event O P C R)) → with_entry x cpu o (xs ++ ys) ≡ with_entry x cpu o xs ++ ys
  with_entry_append x cpu None xs ys = refl
  with_entry_append x cpu (Some e) xs ys = elim (e.object == x) as (λ b. cond b (with_event cpu e.done (xs ++ ys)) (xs ++ ys) ≡ cond b (with_event cpu e.done xs) xs ++ ys) [ true ↦ with_event_append cpu e.done xs ys | false ↦ refl ]

module _ {O P C R : Type 0} (run : Run O P C R) where
  pub events_append : (x : ℕ) (a b : List Place) → events_on run x (a ++ b) ≡ events_on run x a ++ events_on run x b
  events_append x [] b = refl
  events_append x (p ∷ a) b = ap (with_entry x p.cpu (entry_at run p)) (events_append x a b) ∙ with_entry_append x p.cpu (entry_at run p) (events_on run x a) (events_on run x b)

  pub full_push : (order : List Place) (p : Place) → NoneBehindFull run order → AllByRecursion (λ q. (e : Entry O P C R) → entry_at run q ≡ Some e → e.done ≡ done.NoRoom → events_on run e.object (p ∷ []) ≡ []) order → NoneBehindFull run (order ++ p ∷ [])
  full_push [] p full why = ((λ e at none. refl), tt)
  full_push (q ∷ order) p full why = ((λ e at none. events_append e.object order (p ∷ []) ∙ (ap (λ l. l ++ events_on run e.object (p ∷ [])) (full.0 e at none) ∙ why.0 e at none)), full_push order p full.1 why.1)

  pub one_off : (x : ℕ) (p : Place) (e : Entry O P C R) → entry_at run p ≡ Some e → e.object ≢ x → events_on run x (p ∷ []) ≡ []
  one_off x p e at off = ap (λ o. with_entry x p.cpu o []) at ∙ rw (ne_eqb e.object x off) refl

  pub one_none : (x : ℕ) (p : Place) (e : Entry O P C R) → entry_at run p ≡ Some e → e.done ≡ done.NoRoom → events_on run x (p ∷ []) ≡ []
  one_none x p e at none = ap (λ o. with_entry x p.cpu o []) at ∙ elim (e.object == x) as (λ b. cond b (with_event p.cpu e.done []) [] ≡ []) [ true ↦ ap (λ d. with_event p.cpu d []) none | false ↦ refl ]

  pub one_on : (x : ℕ) (p : Place) (e : Entry O P C R) (s : Steps O P C R) → entry_at run p ≡ Some e → e.object ≡ x → e.done ≡ done.Steps s → events_on run x (p ∷ []) ≡ record { cpu = p.cpu; steps = s } ∷ []
  one_on x p e s at on is = ap (λ o. with_entry x p.cpu o []) at ∙ rw (eq-eqb e.object x on) (ap (λ d. with_event p.cpu d []) is)
