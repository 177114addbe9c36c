-- Elements that are given to rows, one after another.
use Rattle.std.proofs.{Common.{◌≡◌, ◌⊎◌, inl, inr, ℕ, ◌<◌, ◌≤◌, List, [], ◌∷◌, ◌++◌, length, refl, sym, ap, subst, ◌∙◌, arith, length-set, length-append, slice_get, Some, Vec, Global, vec_capacity}, lemmas.Option.slice_get_within}
use Rattle.std.specs.Prelude.{slice_set}
use Rattle.event_log.proofs.Lists.{get_push}
use Rattle.sound_run.proofs.Slices.{one_of, get_set_same, get_set_other}

module _ {T : Type 0} where
  -- the second row is the first with that element behind
  abbrev pub IsLonger : Vec T Global → T → Vec T Global → Type 0
  IsLonger old x new = (new.items ≡ old.items ++ x ∷ []) × (vec_capacity new ≡ vec_capacity old)

  -- each element that was given stands behind its row, and the other rows are as they were
  pub record Dealt (old : List (Vec T Global)) (given : List T) (new : List (Vec T Global)) : Type 0 where
    pub count : length new ≡ length old
    pub dealt : (k : ℕ) (a b : Vec T Global) (x : T) → slice_get old k ≡ Some a → slice_get new k ≡ Some b → slice_get given k ≡ Some x → IsLonger a x b
    pub others : (k : ℕ) (a b : Vec T Global) → length given ≤ k → slice_get old k ≡ Some a → slice_get new k ≡ Some b → b ≡ a

  pub none_dealt : (old : List (Vec T Global)) → Dealt old [] old
  none_dealt old = record { count = refl; dealt = λ k a b x e f h. absurd (cc); others = λ k a b le e f. one_of b a (slice_get old k) f e }

  -- one element more
  pub one_dealt : (old mid : List (Vec T Global)) (given : List T) (k : ℕ) (a b : Vec T Global) (x : T) → k ≡ length given → slice_get mid k ≡ Some a → IsLonger a x b → Dealt old given mid → Dealt old (given ++ x ∷ []) (slice_set mid k b)
  one_dealt old mid given k a b x at there longer d =
      let long = length-append given (x ∷ []) in
      record {
        count = length-set mid k b ∙ d.count;
        dealt = λ j p q y e f h. here j p q y e f (get_push given x j y h);
        others = λ j p q le e f. d.others j p q (omega (arith, le, long)) e (sym (get_set_other mid k j b (λ same. absurd (omega (arith, le, long, at, same)))) ∙ f);
      }
    where
      here : (j : ℕ) (p q : Vec T Global) (y : T) → slice_get old j ≡ Some p → slice_get (slice_set mid k b) j ≡ Some q → ((slice_get given j ≡ Some y) ⊎ ((j ≡ length given) × (x ≡ y))) → IsLonger p y q
      here j p q y e f (inl h) =
          let below = slice_get_within given j y h in
          d.dealt j p q y e (sym (get_set_other mid k j b (λ same. absurd (omega (arith, below, at, same)))) ∙ f) h
      here j p q y e f (inr (last, is)) =
          let same : j ≡ k = last ∙ sym at in
          let new_is : b ≡ q = one_of b q (slice_get (slice_set mid k b) j) (ap (slice_get (slice_set mid k b)) same ∙ get_set_same mid k b a there) f in
          let old_is : a ≡ p = d.others j p a (omega (arith, last)) e (ap (slice_get mid) same ∙ there) in
          subst (λ z. IsLonger p z q) is (subst (λ z. IsLonger p x z) new_is (subst (λ z. IsLonger z x b) old_is longer))

-- there is a row for the next of as many elements
pub row_there : {T : Type 0} (front rest all : List T) (x : T) (rows k : ℕ) → front ++ x ∷ rest ≡ all → k ≡ length front → length all ≡ rows → k < rows
row_there front rest all x rows k split at count =
    let total = ap length (sym split) ∙ length-append front (x ∷ rest) in omega (arith, total, at, count)
