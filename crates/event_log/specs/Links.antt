-- How lists are kept as chains: each number has a cell that names the number behind it, and one that names the number
-- before it. Only the invariant and private functions speak of these.
use Rattle.std.specs.{Prelude.{◌≡◌, ℕ, zero, suc, Bool, true, false, List, [], ◌∷◌, ◌++◌, length, get_or, map}, List.{concat, AllZip}}
use Rattle.event_log.specs.{Distinct.{has, without, AreDistinctBelow}, Chain.ChainLists, declared.chain.Ends.Ends}

-- that many numbers from x on, each the next of the one before
abbrev pub walk : List ℕ → ℕ → ℕ → List ℕ
walk next x zero = []
walk next x (suc n) = x ∷ walk next (get_or next x 0) n

-- the chain between those ends
abbrev pub chain_of : List ℕ → Ends → List ℕ
chain_of next e = walk next e.first e.count

-- all chains between their ends
abbrev pub lists_of : List ℕ → List Ends → List (List ℕ)
lists_of next ends = map (chain_of next) ends

-- the value that contracts see
abbrev pub view_of : ℕ → List ℕ → List Ends → ChainLists
view_of n next ends = record { numbers = n; lists = lists_of next ends }

-- the list's last number, or x
abbrev pub last_of : ℕ → List ℕ → ℕ
last_of x [] = x
last_of x (y ∷ ys) = last_of y ys

-- behind x stand these: the next of each is the one behind it, whose previous it is
abbrev pub Linked : List ℕ → List ℕ → ℕ → List ℕ → Type 0
Linked next previous x [] = Unit {0}
Linked next previous x (y ∷ ys) = (get_or next x 0 ≡ y) × (get_or previous y 0 ≡ x) × Linked next previous y ys

-- the list stands as a chain between those ends
abbrev pub IsChain : List ℕ → List ℕ → Ends → List ℕ → Type 0
IsChain next previous e [] = e.count ≡ 0
IsChain next previous e (x ∷ xs) = (e.first ≡ x) × (e.last ≡ last_of x xs) × (e.count ≡ suc (length xs)) × Linked next previous x xs

-- the cells of n numbers keep these lists, and the flags say which numbers stand in one
pub record AreChains (n : ℕ) (next previous : List ℕ) (stands : List Bool) (ends : List Ends) (lists : List (List ℕ)) : Type 0 where
  pub next_long : length next ≡ n
  pub previous_long : length previous ≡ n
  pub stands_long : length stands ≡ n
  pub linked : AllZip (IsChain next previous) ends lists
  pub once : AreDistinctBelow n (concat lists)
  pub flagged : (t : ℕ) → get_or stands t false ≡ has t (concat lists)

-- the cells outside the list are as they were
abbrev pub SameOutside : List ℕ → List ℕ → List ℕ → Type 0
SameOutside m old new = (x : ℕ) → has x m ≡ false → get_or new x 0 ≡ get_or old x 0

-- cells of m were written, and now xs stands as a chain between those ends
pub record Rewrites (m n p n' p' : List ℕ) (e : Ends) (xs : List ℕ) : Type 0 where
  pub chain : IsChain n' p' e xs
  pub next : SameOutside m n n'
  pub previous : SameOutside m p p'
  pub next_long : length n' ≡ length n
  pub previous_long : length p' ≡ length p

-- whatever lists stand between the ends a and b in cells of k numbers, they stand as one now
abbrev pub Joins : List ℕ → List ℕ → Ends → Ends → List ℕ → List ℕ → Ends → Type 0
Joins next previous a b next' previous' e =
    (k : ℕ) (xs ys : List ℕ) → length next ≡ k → length previous ≡ k → AreDistinctBelow k (xs ++ ys) → IsChain next previous a xs → IsChain next previous b ys → Rewrites (xs ++ ys) next previous next' previous' e (xs ++ ys)

-- whatever list with the number t stands between the ends e in cells of k numbers, it stands there without t now
abbrev pub Cuts : List ℕ → List ℕ → Ends → ℕ → List ℕ → List ℕ → Ends → Type 0
Cuts next previous e t next' previous' e' =
    (k : ℕ) (xs : List ℕ) → length next ≡ k → length previous ≡ k → AreDistinctBelow k xs → has t xs ≡ true → IsChain next previous e xs → Rewrites xs next previous next' previous' e' (without t xs)
