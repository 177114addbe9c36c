-- A pass that another is joined to, among the passes of one CPU.
use Rattle.std.proofs.{Common.{◌≡◌, ℕ, List, [], ◌∷◌, ◌++◌, length, map, sym, ◌∙◌, ap, subst, arith, slice_get, Some, ◌⊎◌, inl, inr}, Math.ListN.set, lemmas.Option.slice_get_within}
use mathlib.Core.Logic.{dite}
use native.Mathlib.Decide.{ℕ_discrete}
use Rattle.event_log.proofs.Lists.{some_at, get_push}
use Rattle.word_rule.specs.Cell.{PassView}
use Rattle.sound_run.proofs.Slices.{one_of, get_set_same, get_set_other, get_map, map_get}
use Rattle.guarded_cell.specs.Runs.{Joins, EachJoins}
use Rattle.guarded_cell.proofs.SoundRuns.{joins_self, joins_then}

module _ {S O P C R : Type 0} (view : S → PassView O P C R) where
  -- where the pass at x joined, each did
  pub set_joins : (old new : List S) (x : ℕ) (p q : S) → new ≡ set old x q → slice_get old x ≡ Some p → Joins (view p) (view q) → EachJoins (map view old) (map view new)
  set_joins old new x p q is was joins y a b e f =
      let s = get_map view old y a e in
      let t = get_map view new y b f in
      dite (ℕ_discrete y x)
      (λ at.
      let s_is : p ≡ s.0 = one_of p s.0 (slice_get old y) (ap (slice_get old) at ∙ was) s.1 in
      let t_is : q ≡ t.0 = one_of q t.0 (slice_get new y) (ap (slice_get new) at ∙ (ap (λ l. slice_get l x) is ∙ get_set_same old x q p was)) t.1 in
      subst (λ z. Joins z b) s.2 (subst (λ z. Joins (view s.0) z) t.2 (subst (λ z. Joins (view z) (view t.0)) s_is (subst (λ z. Joins (view p) (view z)) t_is joins))))
      (λ ne.
      let same : s.0 ≡ t.0 = one_of s.0 t.0 (slice_get old y) s.1 (sym (ap (λ l. slice_get l y) is ∙ get_set_other old x y q (λ at. ne (sym at))) ∙ t.1) in
      subst (λ z. Joins z b) s.2 (subst (λ z. Joins (view s.0) z) t.2 (subst (λ z. Joins (view s.0) (view z)) same (joins_self (view s.0)))))

  pub each_self : (xs : List S) → EachJoins (map view xs) (map view xs)
  each_self xs y a b e f = subst (λ z. Joins a z) (one_of a b (slice_get (map view xs) y) e f) (joins_self a)

module _ {O P C R : Type 0} where
  pub each_then : (xs ys zs : List (PassView O P C R)) → length ys ≡ length zs → EachJoins xs ys → EachJoins ys zs → EachJoins xs zs
  each_then xs ys zs wide p q x a c e f =
      let b = some_at ys x (let lt = slice_get_within zs x c f in omega (arith, lt, wide)) in
      joins_then a b.0 c (p x a b.0 e b.1) (q x b.0 c b.1 f)

module _ {S O P C R : Type 0} (view : S → PassView O P C R) where
  -- one pass more that joined the one at its place
  pub each_snoc : (xs : List S) (y : S) (x : ℕ) (after : List (PassView O P C R)) → x ≡ length xs → EachJoins (map view xs) after → ((b : PassView O P C R) → slice_get after x ≡ Some b → Joins (view y) b) → EachJoins (map view (xs ++ y ∷ [])) after
  each_snoc xs y x after at h joins k a b e f =
      let s = get_map view (xs ++ y ∷ []) k a e in
      by s.0 s.2 (get_push xs y k s.0 s.1)
    where
      by : (z : S) → view z ≡ a → ((slice_get xs k ≡ Some z) ⊎ ((k ≡ length xs) × (y ≡ z))) → Joins a b
      by z is (inl there) = h k a b (map_get view xs k z there ∙ ap (λ p. Some p) is) f
      by z is (inr last) = subst (λ p. Joins p b) (ap view last.1 ∙ is) (joins b (ap (λ n. slice_get after n) (at ∙ sym last.0) ∙ f))
