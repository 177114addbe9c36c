-- A transcript and a log after one entry more.
use Rattle.std.proofs.{Common.{◌≡◌, ◌≢◌, ℕ, ◌==◌, true, false, cond, List, [], ◌∷◌, ◌++◌, map, refl, ◌∙◌, ap, eq-eqb, ne_eqb}, lemmas.List.{append-nil, map-append}, lemmas.List.Elements.filter-append}
use Rattle.std.specs.List.{AllByRecursion}
use Rattle.event_log.specs.{declared.event.Steps.Steps, declared.event.Event.Event, declared.entry.Done.Done, declared.entry.Entry.Entry, Log.of}
use Rattle.sound_run.specs.Sound.{NoneAfterFull, done_on, with_steps, steps_by}
use Rattle.event_log.specs.declared.entry.Done.TheVariants as done

module _ {O P C R : Type 0} where
  with_append : (d : Done O P C R) (xs ys : List (Steps O P C R)) → with_steps d (xs ++ ys) ≡ with_steps d xs ++ ys
  with_append (done.Steps s) xs ys = refl
  with_append done.NoRoom xs ys = refl

  pub done_append : (x : ℕ) (es fs : List (Entry O P C R)) → done_on x (es ++ fs) ≡ done_on x es ++ done_on x fs
  done_append x [] fs = refl
  done_append x (e ∷ es) fs = elim (e.object == x) as (λ b. cond b (with_steps e.done (done_on x (es ++ fs))) (done_on x (es ++ fs)) ≡ cond b (with_steps e.done (done_on x es)) (done_on x es) ++ done_on x fs) [
    | true ↦ ap (with_steps e.done) (done_append x es fs) ∙ with_append e.done (done_on x es) (done_on x fs)
    | false ↦ done_append x es fs
  ]

  pub done_here : (x : ℕ) (e : Entry O P C R) → e.object ≡ x → done_on x (e ∷ []) ≡ with_steps e.done []
  done_here x e is = rw (eq-eqb e.object x is) refl

  pub done_elsewhere : (x : ℕ) (e : Entry O P C R) → e.object ≢ x → done_on x (e ∷ []) ≡ []
  done_elsewhere x e ne = rw (ne_eqb e.object x ne) refl

  -- an entry without room is no done entry
  pub done_without : (x : ℕ) (e : Entry O P C R) → e.done ≡ done.NoRoom → done_on x (e ∷ []) ≡ []
  done_without x e none = elim (e.object == x) as (λ b. cond b (with_steps e.done []) [] ≡ []) [ true ↦ ap (λ d. with_steps d []) none | false ↦ refl ]

  pub steps_push : (cpu : ℕ) (log : List (Event O P C R)) (s : Steps O P C R) → steps_by cpu (log ++ record { cpu = cpu; steps = s } ∷ []) ≡ steps_by cpu log ++ s ∷ []
  steps_push cpu log s =
      let e : Event O P C R = record { cpu = cpu; steps = s } in
      let mine : of cpu (e ∷ []) ≡ e ∷ [] = rw (eq-eqb cpu cpu refl) refl in
      ap (map (λ (d : Event O P C R). d.steps)) (filter-append (λ (d : Event O P C R). d.cpu == cpu) log (e ∷ []) ∙ ap (λ l. of cpu log ++ l) mine)
      ∙ map-append (λ (d : Event O P C R). d.steps) (of cpu log) (e ∷ [])

  pub steps_other : (x cpu : ℕ) (log : List (Event O P C R)) (s : Steps O P C R) → cpu ≢ x → steps_by x (log ++ record { cpu = cpu; steps = s } ∷ []) ≡ steps_by x log
  steps_other x cpu log s ne =
      let e : Event O P C R = record { cpu = cpu; steps = s } in
      let none : of x (e ∷ []) ≡ [] = rw (ne_eqb cpu x ne) refl in
      ap (map (λ (d : Event O P C R). d.steps)) (filter-append (λ (d : Event O P C R). d.cpu == x) log (e ∷ []) ∙ (ap (λ l. of x log ++ l) none ∙ append-nil (of x log)))

  -- an entry more, which isn't done on an object that was found full
  pub full_push : (es : List (Entry O P C R)) (e : Entry O P C R) → NoneAfterFull es → AllByRecursion (λ f. f.done ≡ done.NoRoom → done_on f.object (e ∷ []) ≡ []) es → NoneAfterFull (es ++ e ∷ [])
  full_push [] e full why = ((λ _. refl), tt)
  full_push (f ∷ es) e full why = ((λ none. done_append f.object es (e ∷ []) ∙ (ap (λ l. l ++ done_on f.object (e ∷ [])) (full.0 none) ∙ why.0 none)), full_push es e full.1 why.1)
