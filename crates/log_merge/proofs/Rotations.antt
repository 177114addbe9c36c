-- Chains, cut and rotated.
use Rattle.std.proofs.{Common.{◌≡◌, ℕ, zero, suc, ◌<◌, List, [], ◌∷◌, ◌++◌, length, map, take, drop, get_or, refl, sym, ap, ◌∙◌, subst, arith, append_assoc}, lemmas.List.append-nil}
use Rattle.event_log.specs.Distinct.{AreDistinctBelow}
use Rattle.event_log.proofs.Distinct.{distinct_push}
use Rattle.log_merge.specs.Chains.{Chain, Cyclic}

module _ {A : Type 0} (R : A → A → Type 0) where
  pub chain_join : (a : List A) (p : A) (b : List A) (q : A) → Chain R a p → Chain R (p ∷ b) q → Chain R (a ++ p ∷ b) q
  chain_join [] p b q w h = h
  chain_join (x ∷ []) p b q w h = (w, h)
  chain_join (x ∷ y ∷ a) p b q w h = (w.0, chain_join (y ∷ a) p b q w.1 h)

  pub chain_split : (a : List A) (p : A) (b : List A) (q : A) → Chain R (a ++ p ∷ b) q → Chain R a p × Chain R (p ∷ b) q
  chain_split [] p b q h = (tt, h)
  chain_split (x ∷ []) p b q h = (h.0, h.1)
  chain_split (x ∷ y ∷ a) p b q h = let t = chain_split (y ∷ a) p b q h.1 in ((h.0, t.0), t.1)

  pub turn : (x : A) (a : List A) (y : A) (b : List A) → Cyclic R (x ∷ (a ++ y ∷ b)) → Cyclic R (y ∷ (b ++ x ∷ a))
  turn x a y b h = let t = chain_split (x ∷ a) y b x h in chain_join (y ∷ b) x a y t.1 t.0

-- a list before a place, the element there, and what is behind it
record Cut {A : Type 0} (xs : List A) (k : ℕ) : Type 0 where
  pub here : A
  pub behind : List A
  pub whole : xs ≡ take k xs ++ here ∷ behind
  pub rest : drop k xs ≡ here ∷ behind

cut : {A : Type 0} (xs : List A) (k : ℕ) → k < length xs → Cut xs k
cut [] k lt = absurd (omega arith)
cut (x ∷ xs) zero lt = record { here = x; behind = xs; whole = refl; rest = refl }
cut (x ∷ xs) (suc k) lt = let c = cut xs k (omega arith) in record { here = c.here; behind = c.behind; whole = ap (λ l. x ∷ l) c.whole; rest = c.rest }

module _ {A : Type 0} (R : A → A → Type 0) where
  -- a cycle may begin with any of its places
  pub cyclic_rotated : (xs : List A) (k : ℕ) → k < length xs → Cyclic R xs → Cyclic R (drop k xs ++ take k xs)
  cyclic_rotated [] k lt h = absurd h
  cyclic_rotated (x ∷ xs) zero lt h = subst (Cyclic R) (sym (append-nil (x ∷ xs))) h
  cyclic_rotated (x ∷ xs) (suc k) lt h =
      let c = cut xs k (omega arith) in
      let rotated = turn R x (take k xs) c.here c.behind (subst (λ (l : List A). Cyclic R (x ∷ l)) c.whole h) in
      subst (λ (l : List A). Cyclic R (l ++ x ∷ take k xs)) (sym c.rest) rotated

  pub chain_map : {B : Type 0} (S : B → B → Type 0) (f : A → B) → ((x y : A) → R x y → S (f x) (f y)) → (xs : List A) (q : A) → Chain R xs q → Chain S (map f xs) (f q)
  chain_map S f go [] q h = tt
  chain_map S f go (x ∷ []) q h = go x q h
  chain_map S f go (x ∷ y ∷ xs) q h = (go x y h.0, chain_map S f go (y ∷ xs) q h.1)

  pub cyclic_map : {B : Type 0} (S : B → B → Type 0) (f : A → B) → ((x y : A) → R x y → S (f x) (f y)) → (xs : List A) → Cyclic R xs → Cyclic S (map f xs)
  cyclic_map S f go [] h = h
  cyclic_map S f go (x ∷ xs) h = chain_map S f go (x ∷ xs) x h

-- a chain that leads back to one of its places is a cycle from there on
pub chain_back : (R : ℕ → ℕ → Type 0) (xs : List ℕ) (k : ℕ) → k < length xs → Chain R xs (get_or xs k 0) → Cyclic R (drop k xs)
chain_back R xs k lt h =
    let c = cut xs k lt in
    let back : get_or xs k 0 ≡ c.here = read xs k lt c in
    let whole : Chain R (take k xs ++ c.here ∷ c.behind) c.here = subst (λ (z : List ℕ × ℕ). Chain R z.0 z.1) (λ j. (c.whole j, back j)) h in
    subst (Cyclic R) (sym c.rest) (chain_split R (take k xs) c.here c.behind c.here whole).1
  where
    read : (ys : List ℕ) (i : ℕ) → i < length ys → (d : Cut ys i) → get_or ys i 0 ≡ d.here
    read [] i less d = absurd (omega arith)
    read (y ∷ ys) zero less d = ap (λ l. get_or l 0 0) d.rest
    read (y ∷ ys) (suc i) less d = let e = cut ys i (omega arith) in read ys i (omega arith) e ∙ ap (λ l. get_or l 0 0) (sym e.rest ∙ d.rest)

-- distinct numbers are as distinct where those in front go to the end
pub distinct_rotated : (n : ℕ) (xs ys : List ℕ) → AreDistinctBelow n (xs ++ ys) → AreDistinctBelow n (ys ++ xs)
distinct_rotated n [] ys q = subst (AreDistinctBelow n) (sym (append-nil ys)) q
distinct_rotated n (x ∷ xs) ys q =
    let later = subst (AreDistinctBelow n) (append_assoc xs ys (x ∷ [])) (distinct_push n (xs ++ ys) x q.2 q.0 q.1) in
    subst (AreDistinctBelow n) (append_assoc ys (x ∷ []) xs) (distinct_rotated n xs (ys ++ x ∷ []) later)
