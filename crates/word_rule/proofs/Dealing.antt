-- The callers of a new cell's first seat go to seats of their own, one by one.
use Rattle.std.proofs.{Common.{◌≡◌, ℕ, suc, ◌+◌, ◌-◌, ◌<◌, ◌==◌, Bool, List, [], ◌∷◌, ◌++◌, length, refl, sym, ap, ◌∙◌, subst, ⊎_elim, arith}, lemmas.Bool.Decides.nat_tests}
use Rattle.event_log.specs.{declared.object.SeqObject.Ghosts, Distinct.has}
use Rattle.event_log.proofs.Lists.{get_push}
use Rattle.word_rule.specs.{declared.lock_kind.Stage.TheVariants.Idle, Cell.{Cell, Lawful, EachAt, opening_pass}, Locks.Fits, Rule.CellInvariant.SeatView, Rule.Seats.{Seat, idle, idle_from, keeping, letting}, Rule.Callers.{pass_view_of, IsWithout}}
use Rattle.word_rule.proofs.{Lists.{has_one, or_none}, Runs.no_run}

module _ {O P C R : Type 0} where
  -- the first seat, where the callers below k have gone
  abbrev pub undealt : Cell O P C R → ℕ → SeatView O P C R
  undealt h k = record { reported = h ∷ []; main = idle 0 [] [] []; others = idle_from k (h.numbers - k) h.opening }

  -- the seat of caller k
  abbrev pub one_of : Cell O P C R → ℕ → SeatView O P C R
  one_of h k = record { reported = h ∷ []; main = idle k (k ∷ []) h.opening []; others = [] }

  next : (h : Cell O P C R) (k : ℕ) → k < h.numbers → idle_from k (h.numbers - k) h.opening ≡ idle k (k ∷ []) h.opening [] ∷ idle_from (k + 1) (h.numbers - (k + 1)) h.opening
  next h k below = let e : h.numbers - k ≡ suc (h.numbers - (k + 1)) = omega arith in ap (λ m. idle_from k m h.opening) e

  pub goes_on : (h : Cell O P C R) (k : ℕ) (m m' : Seat O P C R) → k < h.numbers → m ≡ (undealt h k, []) → m' ≡ (keeping m.0, m.1) → m' ≡ (undealt h (k + 1), [])
  goes_on h k m m' below e e' = e' ∙ ((λ i. (keeping (e i).0, (e i).1)) ∙ ap (λ l. (keeping record { reported = h ∷ []; main = idle 0 [] [] []; others = l }, [])) (next h k below))

  pub is_one : (h : Cell O P C R) (k : ℕ) (m m' : Seat O P C R) → k < h.numbers → m ≡ (undealt h k, []) → m' ≡ (letting m.0, []) → m' ≡ (one_of h k, [])
  is_one h k m m' below e e' = e' ∙ ((λ i. (letting (e i).0, [])) ∙ ap (λ l. (letting record { reported = h ∷ []; main = idle 0 [] [] []; others = l }, [])) (next h k below))

has_one_is : (k : ℕ) → ◌≡◌ {A = ℕ → Bool} (λ j. has j (k ∷ [])) (λ j. k == j)
has_one_is k = λ i j. or_none (k == j) i

swap : (k j : ℕ) → (k == j) ≡ (j == k)
swap k j = grind (arith, nat_tests)

module _ {O P C R : Type 0} (meaning : Ghosts O P C R) where
  pub one_rests : (h reported : Cell O P C R) (k : ℕ) (m : Seat O P C R) → reported ≡ h → k < h.numbers → Fits h.kind h.numbers → Lawful meaning h h.opening → m ≡ (one_of h k, []) → IsWithout meaning reported k Idle m
  one_rests h reported k m is below fits valid e = subst (λ (z : Cell O P C R × Seat O P C R). IsWithout meaning z.0 k Idle z.1) (λ i. (sym is i, sym e i)) record {
    at = record { alone = refl; number = refl; carries = refl; stands = refl; reported = refl };
    pass_view = record {
      caller = record { acts = grind (arith, nat_tests); least = λ x hx. let same = has_one x k hx in omega arith; below = λ x hx. let same = has_one x k hx in omega arith };
      valid = valid;
    };
    ran = no_run h fits;
  }

  pub part_first : (h reported : Cell O P C R) (k : ℕ) (m : Seat O P C R) → reported ≡ h → m ≡ (one_of h k, []) → pass_view_of reported m.0 ≡ opening_pass h k
  part_first h reported k m is me = (λ i. pass_view_of (is i) (me i).0) ∙ (λ i. record { caller = record { cell = h; owned = ((has_one_is k) ∙ (λ i j. swap k j i)) i; acting = k }; seen = h.opening })

pub each_push : {A : Type 0} (P : ℕ → A → Type 0) (k : ℕ) (xs ys : List A) (p : A) → EachAt P xs → length xs ≡ k → ys ≡ xs ++ p ∷ [] → P k p → EachAt P ys
each_push {A} P k xs ys p all len more here = subst (λ l. EachAt P l) (sym more) (λ j q e. ⊎_elim {0, 0, 0} (all j q) (λ t. subst (λ (z : ℕ × A). P z.0 z.1) (λ i. (sym (t.0 ∙ len) i, t.1 i)) here) (get_push xs p j q e))
