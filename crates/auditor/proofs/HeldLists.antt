-- Lists inside of other values, as the sleepers of channels are.
use Rattle.std.proofs.{Common.{◌≡◌, ℕ, ◌<◌, List, [], ◌∷◌, length, get_or, set, map, refl, sym, ap, ◌∙◌, arith}, lemmas.List.{get_or-map, map-set, length-map, set-get_or}}

-- a list of no length
pub empty_is : (xs : List ℕ) → length xs ≡ 0 → xs ≡ []
empty_is [] e = refl
empty_is (x ∷ xs) e = absurd (omega (arith, e))

module _ {X : Type 0} (view : X → List ℕ) (xs : List X) (c : ℕ) where
  -- a place among the values is one among the lists
  pub place_of : c < length xs → c < length (map view xs)
  place_of lt = omega (arith, length-map xs view)

  -- the value that was read at that place
  pub list_at : (x : X) → c < length xs → x ≡ get_or xs c x → get_or (map view xs) c [] ≡ view x
  list_at x lt e = get_or-map view xs c x [] lt ∙ ap view (sym e)

  -- the value that was written at that place
  pub list_put : (x : X) (l : List ℕ) → view x ≡ l → map view (set xs c x) ≡ set (map view xs) c l
  list_put x l e = map-set view xs c x ∙ ap (λ y. set (map view xs) c y) e

  -- the value that was read is written with the same list
  pub list_stays : (x y : X) → c < length xs → x ≡ get_or xs c x → view y ≡ view x → map view (set xs c y) ≡ map view xs
  list_stays x y lt e same =
      list_put y (get_or (map view xs) c []) (same ∙ sym (list_at x lt e)) ∙ set-get_or (map view xs) c []
