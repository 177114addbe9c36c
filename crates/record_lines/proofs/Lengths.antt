-- How long words and lines get, counted roughly.
use Rattle.std.proofs.{Common.{◌≡◌, ℕ, ◌+◌, ◌*◌, ◌<◌, ◌≤◌, ◌^◌, List, [], ◌∷◌, ◌++◌, length, length-append, map, arith, codes, decimal}, lemmas.Fmt.length-decimal-le}
use Rattle.std.specs.List.{AllByRecursion, flat_map}
use Rattle.event_log.specs.declared.event.TheConstants.{MOST_CALLS}
use Rattle.record_lines.specs.Words.{sentence, separated}

-- how long the words are, each with a byte behind it
abbrev pub long : List (List ℕ) → ℕ
long [] = 0
long (w ∷ ws) = length w + 1 + long ws

pub long_append : (a b : List (List ℕ)) → long (a ++ b) ≡ long a + long b
long_append [] b = omega arith
long_append (w ∷ a) b = omega (arith, long_append a b)

pub sentence_le : (ws : List (List ℕ)) → length (sentence ws) ≤ long ws
sentence_le [] = omega arith
sentence_le (w ∷ []) = omega arith
sentence_le (w ∷ v ∷ ws) = omega (arith, sentence_le (v ∷ ws), length-append w (32 ∷ sentence (v ∷ ws)))

pub number_le : (n : ℕ) → n < 2 ^ 64 → length (decimal n) ≤ 20
number_le n small = length-decimal-le 20 n (omega arith) (omega (arith, small)) small

module _ {X : Type 0} (f : X → List (List ℕ)) where
  others_le : (xs : List X) → AllByRecursion (λ x. long (f x) ≤ 57) xs → long (flat_map (λ others. codes ";" ∷ others) (map f xs)) ≤ 59 * length xs
  others_le [] all = omega arith
  others_le (x ∷ xs) all =
      let one = all.0 in
      omega (arith, one, others_le xs all.1, long_append (codes ";" ∷ f x) (flat_map (λ others. codes ";" ∷ others) (map f xs)))

  pub separated_le : (xs : List X) → AllByRecursion (λ x. long (f x) ≤ 57) xs → length xs ≤ MOST_CALLS → long (separated (map f xs)) ≤ 472
  separated_le [] all few = omega arith
  separated_le (x ∷ xs) all few =
      let one = all.0 in
      omega (arith, one, few, others_le xs all.1, long_append (f x) (flat_map (λ others. codes ";" ∷ others) (map f xs)))
