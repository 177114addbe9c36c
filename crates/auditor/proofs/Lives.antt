-- A reference to what an object's entries are in lives no longer than these.
use Rattle.std.proofs.Common.{ℕ, List, [], ◌++◌}
use contract.BorrowLft.{◌⊑◌, ⊑_meet, ⊑_static}

abbrev calls : List ℕ → List ℕ → List ℕ
calls c r = c ++ (r ++ [])

abbrev object : List ℕ → List ℕ → List ℕ → List ℕ → List ℕ
object o p c r = o ++ (p ++ (c ++ (r ++ [])))

-- as the rows of calls, of steps, of their list and of an entry have them
abbrev pub entry_lives : List ℕ → List ℕ → List ℕ → List ℕ → List ℕ
entry_lives o p c r =
    let f = object o p c r in let step = (f ++ calls c r) ++ [] in let row = (step ++ step) ++ [] in let list = (step ++ row) ++ [] in
    let asked = (c ++ []) ++ (((c ++ []) ++ (c ++ [])) ++ []) in let done = f ++ (((f ++ list) ++ []) ++ []) in
    f ++ (asked ++ (done ++ []))

module _ (κ : List ℕ) where
  and : (a b : List ℕ) → κ ⊑ a → κ ⊑ b → κ ⊑ a ++ b
  and a b h k = ⊑_meet κ a b h k

  closed : (a : List ℕ) → κ ⊑ a → κ ⊑ a ++ []
  closed a h = and a [] h (⊑_static κ)

  twice : (a : List ℕ) → κ ⊑ a → κ ⊑ a ++ ((a ++ a) ++ [])
  twice a h = and a ((a ++ a) ++ []) h (closed (a ++ a) (and a a h h))

  -- as a step has them
  pub in_step : (o p c r : List ℕ) → κ ⊑ o → κ ⊑ p → κ ⊑ c → κ ⊑ r → κ ⊑ object o p c r ++ calls c r
  in_step o p c r ho hp hc hr =
      let b : κ ⊑ calls c r = and c (r ++ []) hc (closed r hr) in
      and (object o p c r) (calls c r) (and o (p ++ calls c r) ho (and p (calls c r) hp b)) b

  pub in_entry : (o p c r : List ℕ) → κ ⊑ o → κ ⊑ p → κ ⊑ c → κ ⊑ r → κ ⊑ entry_lives o p c r
  in_entry o p c r ho hp hc hr =
      let f = object o p c r in let b = calls c r in
      let B : κ ⊑ b = and c (r ++ []) hc (closed r hr) in
      let F : κ ⊑ f = and o (p ++ b) ho (and p b hp B) in
      let step = (f ++ b) ++ [] in let list = (step ++ ((step ++ step) ++ [])) ++ [] in
      let L : κ ⊑ list = closed (step ++ ((step ++ step) ++ [])) (twice step (closed (f ++ b) (and f b F B))) in
      let asked = (c ++ []) ++ (((c ++ []) ++ (c ++ [])) ++ []) in
      let A : κ ⊑ asked = twice (c ++ []) (closed c hc) in
      let steps = (f ++ list) ++ [] in let S : κ ⊑ steps = closed (f ++ list) (and f list F L) in
      let done = f ++ (steps ++ []) in let D : κ ⊑ done = and f (steps ++ []) F (closed steps S) in
      and f (asked ++ (done ++ [])) F (and asked (done ++ []) A (closed done D))
