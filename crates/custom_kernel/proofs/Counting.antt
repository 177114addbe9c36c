-- A step more, behind steps that were counted.
use Rattle.std.proofs.{Common.{◌≡◌, ⊎_elim, ℕ, ◌+◌, ◌<◌, Bool, true, false, true≢false, Option, Some, None, List, [], ◌∷◌, ◌++◌, length, take, refl, sym, ap, ◌∙◌, arith, length-append}, lemmas.Bool.cases_lt, lemmas.List.{append_assoc, take_all, take-append-le}}
use Rattle.std.specs.Option.{option_map_or}
use Rattle.kernel_object.specs.{declared.call.KCall.KCall, declared.object.KernelObject.KernelObject, Kernel.{kernel_opening, kernel_answer}}
use Rattle.custom_records.specs.Custom.{CustomStep}
use Rattle.custom_kernel.specs.{Counts.{AreRight, IsCountOf, Counted, answers_of, LeadsTo, IsCounting}, KernelModel.{call_of, answers_last}}

-- a step behind the others changes none of the earlier beginnings
earlier : (steps : List CustomStep) (s : CustomStep) (k : ℕ) → k < length steps → take (k + 1) (steps ++ s ∷ []) ≡ take (k + 1) steps
earlier steps s k lt = take-append-le (k + 1) steps (s ∷ []) (omega (arith, lt))

-- the whole is its longest beginning
whole : (steps : List CustomStep) (s : CustomStep) (k : ℕ) → k ≡ length steps → take (k + 1) (steps ++ s ∷ []) ≡ steps ++ s ∷ []
whole steps s k e = take_all (k + 1) (steps ++ s ∷ []) (omega (arith, length-append steps (s ∷ []), e))

module _ (right : List CustomStep → Bool) (steps : List CustomStep) (s : CustomStep) (n : ℕ) (c : IsCountOf right steps n) where
  still_right : AreRight right (steps ++ s ∷ []) n
  still_right k lt = let within = c.within in ap right (earlier steps s k (omega (arith, lt, within))) ∙ c.all k lt

  -- the count is one more
  count_grows : n ≡ length steps → right (steps ++ s ∷ []) ≡ true → IsCountOf right (steps ++ s ∷ []) (n + 1)
  count_grows e hit = record {
    within = omega (arith, length-append steps (s ∷ []), e);
    all = λ k lt. ⊎_elim (λ less. still_right k less) (λ le. let same : k ≡ length steps = omega (arith, lt, le, e) in ap right (whole steps s k same) ∙ hit) (cases_lt k n);
    next = λ more. absurd (omega (arith, length-append steps (s ∷ []), e, more));
  }

  -- the count ends
  count_ends : n ≡ length steps → right (steps ++ s ∷ []) ≡ false → IsCountOf right (steps ++ s ∷ []) n
  count_ends e miss = record {
    within = omega (arith, length-append steps (s ∷ []), e);
    all = still_right;
    next = λ _. ap right (whole steps s n e) ∙ miss;
  }

  -- the count has ended
  count_stays : n < length steps → IsCountOf right (steps ++ s ∷ []) n
  count_stays lt = record {
    within = omega (arith, length-append steps (s ∷ []), lt);
    all = still_right;
    next = λ _. ap right (earlier steps s n lt) ∙ c.next lt;
  }

-- what is right of a call is of one
some_call : (right : KCall → Bool) (o : Option KCall) → option_map_or right o false ≡ true → (c : KCall) × (o ≡ Some c)
some_call right None e = absurd (true≢false (sym e))
some_call right (Some c) e = (c, refl)

-- behind a call the object is in its next state
leads_on : (o state next : KernelObject) (steps : List CustomStep) (s : CustomStep) (c : KCall) → LeadsTo o steps state → call_of s.call ≡ Some c → next ≡ (kernel_answer state c).0 → LeadsTo o (steps ++ s ∷ []) next
leads_on o state next steps s c leads called to = λ t more.
    ap (answers_last o) (append_assoc steps (s ∷ []) (t ∷ more))
    ∙ (leads s (t ∷ more)
    ∙ (ap (λ r. option_map_or (λ d. answers_last (kernel_answer state d).0 (t ∷ more)) r false) called
    ∙ ap (λ x. answers_last x (t ∷ more)) (sym to)))

module _ (c : Counted) (state : KernelObject) (goes_on : Bool) (i : IsCounting c state goes_on) (s : CustomStep) (steps : List CustomStep) (grown : steps ≡ c.steps ++ s ∷ []) (next : KernelObject) where
  -- a right step
  pub counting_right : goes_on ≡ true → answers_last state (s ∷ []) ≡ true → ((call : KCall) → call_of s.call ≡ Some call → next ≡ (kernel_answer state call).0)
      → IsCounting (record { params = c.params; steps = steps; right = c.right + 1 }) next goes_on
  counting_right on hit to =
      let all = i.all on in
      let call = some_call _ (call_of s.call) hit in
      rw grown (record {
        count = count_grows (answers_of c.params) c.steps s c.right i.count all (i.leads on s [] ∙ hit);
        all = λ _. omega (arith, length-append c.steps (s ∷ []), all);
        leads = λ _. leads_on (kernel_opening c.params) state next c.steps s call.0 (i.leads on) call.1 (to call.0 call.1);
        ended = λ e. absurd (true≢false (sym on ∙ e));
      })

  -- a wrong step
  pub counting_wrong : goes_on ≡ true → answers_last state (s ∷ []) ≡ false → IsCounting (record { params = c.params; steps = steps; right = c.right }) next false
  counting_wrong on miss =
      let all = i.all on in
      rw grown (record {
        count = count_ends (answers_of c.params) c.steps s c.right i.count all (i.leads on s [] ∙ miss);
        all = λ e. absurd (true≢false (sym e));
        leads = λ e. absurd (true≢false (sym e));
        ended = λ _. omega (arith, length-append c.steps (s ∷ []), all);
      })

  -- a step behind a wrong one
  pub counting_stays : goes_on ≡ false → IsCounting (record { params = c.params; steps = steps; right = c.right }) next goes_on
  counting_stays off =
      let ended = i.ended off in
      rw grown (record {
        count = count_stays (answers_of c.params) c.steps s c.right i.count ended;
        all = λ e. absurd (true≢false (sym e ∙ off));
        leads = λ e. absurd (true≢false (sym e ∙ off));
        ended = λ _. omega (arith, length-append c.steps (s ∷ []), ended);
      })
