-- Reading items one after another, each but the first behind a semicolon.
use Rattle.std.proofs.{Common.{◌≡◌, ℕ, suc, ◌-◌, Option, Some, None, List, [], ◌∷◌, ◌++◌, ap, codes}, lemmas.List.append-nil}
use Rattle.event_log.specs.declared.event.TheConstants.{MOST_CALLS}
use Rattle.record_lines.specs.{Reading.{◌>>=◌, key_at}, LineParts.{more_at, list_at}}
use Rattle.record_lines.proofs.Readings.{bind_grown}

module _ {T : Type 0} (item_at : List (List ℕ) → Option (T × List (List ℕ))) where
  -- the items that were read, and then up to n of those that follow
  abbrev pub behind : List T → ℕ → List (List ℕ) → Option (List T × List (List ℕ))
  behind front n ws = more_at item_at n ws >>= λ more. Some (front ++ more.0, more.1)

  pub list_first : (ws rest : List (List ℕ)) (x : T) → item_at ws ≡ Some (x, rest) → list_at item_at ws ≡ behind (x ∷ []) (MOST_CALLS - 1) rest
  unfolding list_at
  list_first ws rest x e = rw e

  pub list_none : (ws : List (List ℕ)) → item_at ws ≡ None → list_at item_at ws ≡ None
  unfolding list_at
  list_none ws e = rw e

  pub more_step : (n : ℕ) (front longer : List T) (ws rest last : List (List ℕ)) (x : T) → longer ≡ front ++ x ∷ [] → key_at (codes ";") ws ≡ Some rest → item_at rest ≡ Some (x, last) → behind front (suc n) ws ≡ behind longer n last
  unfolding more_at
  more_step n front longer ws rest last x grown key read = rw (key, read) (bind_grown (more_at item_at n last) front longer x grown)

  pub more_none : (n : ℕ) (front : List T) (ws rest : List (List ℕ)) → key_at (codes ";") ws ≡ Some rest → item_at rest ≡ None → behind front (suc n) ws ≡ None
  unfolding more_at
  more_none n front ws rest key read = rw (key, read)

  pub more_end : (n : ℕ) (front : List T) (ws : List (List ℕ)) → key_at (codes ";") ws ≡ None → behind front (suc n) ws ≡ Some (front, ws)
  unfolding more_at
  more_end n front ws key = rw (key, append-nil front)

  pub more_full : (front : List T) (ws : List (List ℕ)) → behind front 0 ws ≡ Some (front, ws)
  unfolding more_at
  more_full front ws = ap (λ l. Some (l, ws)) (append-nil front)
