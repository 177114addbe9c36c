-- Counting what two CPUs have added to a log.
use Rattle.std.proofs.{Common.{◌≡◌, ℕ, zero, suc, ◌<◌, ◌≤◌, ◌+◌, ◌==◌, List, [], ◌∷◌, ◌++◌, length, map, take, drop, cond, refl, sym, ap, ◌∙◌, arith, length-append, Bool}, lemmas.List.{length-map, length-take-le}, lemmas.List.Elements.filter-append}
use Rattle.std.specs.List.{AllByRecursion, filter}
use mathlib.Core.Logic.{dite}
use native.Mathlib.Decide.{ℕ_discrete}
use Rattle.event_log.specs.{declared.object.SeqObject.Ghosts, declared.event.Event.Event, History.History, Log.calls_of}
use Rattle.event_log.proofs.Beginnings.{begins_rest}
use Rattle.sound_run.specs.declared.lock_kind.LockKind.{LockKind}
use Rattle.word_rule.specs.Cell.{first_pass}
use Rattle.guarded_cell.specs.Calls.{IsEnded}

-- a list of things that are numbered below 2 has those of the number 0 and those of 1
two_kinds : {X : Type 0} (f : X → ℕ) (l : List X) → AllByRecursion (λ x. f x < 2) l → length l ≡ length (filter (λ x. f x == 0) l) + length (filter (λ x. f x == 1) l)
two_kinds f [] all = refl
two_kinds {X} f (x ∷ xs) all = one_more (f x) all.0 (two_kinds f xs all.1)
  where
    first_more : (n a b : ℕ) → n ≡ a + b → suc n ≡ suc a + b
    first_more n a b h = omega arith

    second_more : (n a b : ℕ) → n ≡ a + b → suc n ≡ a + suc b
    second_more n a b h = omega arith

    one_more : (k : ℕ) → k < 2 → length xs ≡ length (filter (λ x. f x == 0) xs) + length (filter (λ x. f x == 1) xs) → suc (length xs) ≡ length (cond (k == 0) (x ∷ filter (λ x. f x == 0) xs) (filter (λ x. f x == 0) xs)) + length (cond (k == 1) (x ∷ filter (λ x. f x == 1) xs) (filter (λ x. f x == 1) xs))
    one_more zero lt h = first_more (length xs) (length (filter (λ x. f x == 0) xs)) (length (filter (λ x. f x == 1) xs)) h
    one_more (suc zero) lt h = second_more (length xs) (length (filter (λ x. f x == 0) xs)) (length (filter (λ x. f x == 1) xs)) h
    one_more (suc (suc k)) lt h = absurd (omega arith)

-- where there is room for n and m, the one of n doesn't stop before
pub all_done : (past n m first second total limit : ℕ) → total ≡ past + (first + second) → past + (n + m) ≤ limit → first ≤ n → second ≤ m → (first < n → total ≡ limit) → first ≡ n
all_done past n m first second total limit counted room few less full = dite (ℕ_discrete first n) (λ e. e) (λ ne. let lt : first < n = omega (arith, ne, few) in let whole = full lt in absurd (omega (arith, counted, room, less, lt, whole)))

module _ {E C : Type 0} (cpu : E → ℕ) (calls_in : E → List C) where
  -- what one CPU has added by that many calls, each as one event
  own_count : (k : ℕ) (past since log : List E) (calls : List C) → log ≡ past ++ since → map calls_in (filter (λ e. cpu e == k) log) ≡ map calls_in (filter (λ e. cpu e == k) past) ++ map (λ c. c ∷ []) calls
      → length (filter (λ e. cpu e == k) since) ≡ length calls
  own_count k past since log calls whole mine =
      let is_own : E → Bool = λ e. cpu e == k in
      let parts : length (filter is_own log) ≡ length (filter is_own past) + length (filter is_own since) = ap (λ l. length (filter is_own l)) whole ∙ (ap length (filter-append is_own past since) ∙ length-append (filter is_own past) (filter is_own since)) in
      let reported : length (filter is_own log) ≡ length (filter is_own past) + length calls =
      sym (length-map (filter is_own log) calls_in) ∙ (ap length mine ∙ (length-append (map calls_in (filter is_own past)) (map (λ c. c ∷ []) calls)
      ∙ (λ i. length-map (filter is_own past) calls_in i + length-map calls (λ (c : C). c ∷ []) i))) in
      omega (arith, parts, reported)

  -- what two CPUs have added so
  added_by_two : (past since log : List E) (zeros ones : List C) → log ≡ past ++ since → AllByRecursion (λ e. cpu e < 2) since
      → map calls_in (filter (λ e. cpu e == 0) log) ≡ map calls_in (filter (λ e. cpu e == 0) past) ++ map (λ c. c ∷ []) zeros
      → map calls_in (filter (λ e. cpu e == 1) log) ≡ map calls_in (filter (λ e. cpu e == 1) past) ++ map (λ c. c ∷ []) ones
      → length log ≡ length past + (length zeros + length ones)
  added_by_two past since log zeros ones whole each its_zero its_one =
      let total : length log ≡ length past + length since = ap length whole ∙ length-append past since in
      let split : length since ≡ length (filter (λ e. cpu e == 0) since) + length (filter (λ e. cpu e == 1) since) = two_kinds cpu since each in
      let first = own_count 0 past since log zeros whole its_zero in
      let second = own_count 1 past since log ones whole its_one in
      omega (arith, total, split, first, second)

-- the events that two CPUs leave of a cell of their own, who have done the first of their calls
pub ended_count : {O P C R : Type 0} (meaning : Ghosts O P C R) (kind : LockKind) (before after : History O P C R) (xs ys : List C) (n m : ℕ) → n ≤ length xs → m ≤ length ys
    → IsEnded meaning (first_pass kind 0 before 2 0) (take n xs) (first_pass kind 0 before 2 1) (take m ys) after → length after.log ≡ length before.log + (n + m)
ended_count {O} {P} {C} {R} meaning kind before after xs ys n m few less e =
    let total = added_by_two (λ (x : Event O P C R). x.cpu) (λ (x : Event O P C R). calls_of x.steps.list.items) before.log (drop (length before.log) after.log) after.log (take n xs) (take m ys)
    (begins_rest before.log after.log e.valid.begins) e.valid.numbered e.first_calls.mine e.second_calls.mine in
    let first = length-take-le n xs few in
    let second = length-take-le m ys less in
    omega (arith, total, first, second)
