-- Requests, dealt to their CPUs.
use Rattle.std.proofs.{Common.{◌≡◌, ◌≢◌, ℕ, zero, suc, ◌+◌, ◌<◌, ◌≤◌, ◌==◌, Bool, true, false, Some, List, [], ◌∷◌, ◌++◌, map, length, refl, sym, ◌∙◌, ap, subst, cond, arith, slice_get, slice_set}, lemmas.Bool.{eq-eqb, ne_eqb}, lemmas.List.{append-nil, map-append, length-map}, lemmas.List.Elements.filter-append, lemmas.List.Sums.length-filter}
use Rattle.std.specs.List.{AllByRecursion, filter, range_with_len}
use Rattle.kernel_object.specs.KernelTypes.{KernelTodo}
use Rattle.scripts.specs.ScriptText.{Request, count_of, script_of, dealt}

-- the script with one request more, if it is of this CPU
pub script_push : (cpu : ℕ) (requests : List Request) (r : Request) → script_of cpu (requests ++ r ∷ []) ≡ script_of cpu requests ++ cond (r.cpu == cpu) (r.todo ∷ []) []
script_push cpu requests r =
    let split : filter (λ (q : Request). q.cpu == cpu) (requests ++ r ∷ []) ≡ filter (λ q. q.cpu == cpu) requests ++ filter (λ q. q.cpu == cpu) (r ∷ []) = filter-append (λ q. q.cpu == cpu) requests (r ∷ []) in
    ap (map (λ (q : Request). q.todo)) split ∙ (map-append (λ (q : Request). q.todo) (filter (λ q. q.cpu == cpu) requests) (filter (λ q. q.cpu == cpu) (r ∷ [])) ∙ ap (λ l. script_of cpu requests ++ l) (last (r.cpu == cpu)))
  where
    last : (b : Bool) → map (λ (q : Request). q.todo) (cond b (r ∷ []) []) ≡ cond b (r.todo ∷ []) []
    last true = refl
    last false = refl

script_own : (cpu : ℕ) (requests : List Request) (r : Request) → r.cpu ≡ cpu → script_of cpu (requests ++ r ∷ []) ≡ script_of cpu requests ++ r.todo ∷ []
script_own cpu requests r is = script_push cpu requests r ∙ ap (λ b. script_of cpu requests ++ cond b (r.todo ∷ []) []) (eq-eqb r.cpu cpu is)

script_other : (cpu : ℕ) (requests : List Request) (r : Request) → r.cpu ≢ cpu → script_of cpu (requests ++ r ∷ []) ≡ script_of cpu requests
script_other cpu requests r not = script_push cpu requests r ∙ (ap (λ b. script_of cpu requests ++ cond b (r.todo ∷ []) []) (ne_eqb r.cpu cpu not) ∙ append-nil (script_of cpu requests))

-- as many entries as requests
pub script_length : (cpu : ℕ) (requests : List Request) → length (script_of cpu requests) ≡ count_of cpu requests
script_length cpu requests = length-map (filter (λ r. r.cpu == cpu) requests) (λ r. r.todo) ∙ length-filter (λ r. r.cpu == cpu) requests

abbrev from : ℕ → ℕ → List Request → List (List KernelTodo)
from a n requests = map (λ cpu. script_of cpu requests) (range_with_len a n)

-- the scripts of later CPUs
from_later : (a n : ℕ) (requests : List Request) (r : Request) → r.cpu < a → from a n (requests ++ r ∷ []) ≡ from a n requests
from_later a zero requests r less = refl
from_later a (suc n) requests r less =
    let head = script_other a requests r (λ e. omega (arith, e, less)) in
    let tail = from_later (a + 1) n requests r (omega (arith, less)) in
    ap (λ s. s ∷ from (a + 1) n (requests ++ r ∷ [])) head ∙ ap (λ l. script_of a requests ∷ l) tail

from_push : (a n i : ℕ) (requests : List Request) (r : Request) → r.cpu ≡ a + i → i < n → from a n (requests ++ r ∷ []) ≡ slice_set (from a n requests) i (script_of r.cpu requests ++ r.todo ∷ [])
from_push a zero i requests r is less = absurd (omega (arith, less))
from_push a (suc n) zero requests r is less =
    let here : r.cpu ≡ a = omega (arith, is) in
    let head : script_of a (requests ++ r ∷ []) ≡ script_of r.cpu requests ++ r.todo ∷ [] = script_own a requests r here ∙ ap (λ c. script_of c requests ++ r.todo ∷ []) (sym here) in
    let tail = from_later (a + 1) n requests r (omega (arith, here)) in
    ap (λ s. s ∷ from (a + 1) n (requests ++ r ∷ [])) head ∙ ap (λ l. (script_of r.cpu requests ++ r.todo ∷ []) ∷ l) tail
from_push a (suc n) (suc i) requests r is less =
    let head = script_other a requests r (λ e. omega (arith, e, is)) in
    let tail = from_push (a + 1) n i requests r (omega (arith, is)) (omega (arith, less)) in
    ap (λ s. s ∷ from (a + 1) n (requests ++ r ∷ [])) head ∙ ap (λ l. script_of a requests ∷ l) tail

from_get : (a n i : ℕ) (requests : List Request) → i < n → slice_get (from a n requests) i ≡ Some (script_of (a + i) requests)
from_get a zero i requests less = absurd (omega (arith, less))
from_get a (suc n) zero requests less = let here : a ≡ a + 0 = omega arith in ap (λ c. Some (script_of c requests)) here
from_get a (suc n) (suc i) requests less = let here : a + 1 + i ≡ a + suc i = omega arith in from_get (a + 1) n i requests (omega (arith, less)) ∙ ap (λ c. Some (script_of c requests)) here

-- one request more is one entry more in its CPU's script
pub dealt_push : (n : ℕ) (requests : List Request) (r : Request) → r.cpu < n → dealt n (requests ++ r ∷ []) ≡ slice_set (dealt n requests) r.cpu (script_of r.cpu requests ++ r.todo ∷ [])
dealt_push n requests r less = from_push 0 n r.cpu requests r (omega arith) less

pub dealt_get : (n cpu : ℕ) (requests : List Request) → cpu < n → slice_get (dealt n requests) cpu ≡ Some (script_of cpu requests)
dealt_get n cpu requests less = let here : 0 + cpu ≡ cpu = omega arith in from_get 0 n cpu requests less ∙ ap (λ k. Some (script_of k requests)) here

-- what holds of each request holds of each entry
script_all : (P : KernelTodo → Type 0) (cpu : ℕ) (requests : List Request) → AllByRecursion (λ r. P r.todo) requests → AllByRecursion P (script_of cpu requests)
script_all P cpu [] h = tt
script_all P cpu (r ∷ requests) h =
    let rest = script_all P cpu requests h.1 in
    elim (r.cpu == cpu) as (λ b. AllByRecursion P (map (λ (q : Request). q.todo) (cond b (r ∷ filter (λ q. q.cpu == cpu) requests) (filter (λ q. q.cpu == cpu) requests)))) [ true ↦ (h.0, rest) | false ↦ rest ]

from_all : (P : KernelTodo → Type 0) (most : ℕ) (a n : ℕ) (requests : List Request) → AllByRecursion (λ r. P r.todo) requests → ((cpu : ℕ) → count_of cpu requests ≤ most)
    → AllByRecursion (λ s. (length s ≤ most) × AllByRecursion P s) (from a n requests)
from_all P most a zero requests all within = tt
from_all P most a (suc n) requests all within =
    let few : length (script_of a requests) ≤ most = subst (λ (k : ℕ). k ≤ most) (sym (script_length a requests)) (within a) in
    ((few, script_all P a requests all), from_all P most (a + 1) n requests all within)

-- few requests of each CPU, each as wanted, are scripts as wanted
pub dealt_all : (P : KernelTodo → Type 0) (most n : ℕ) (requests : List Request) → AllByRecursion (λ r. P r.todo) requests → ((cpu : ℕ) → count_of cpu requests ≤ most)
    → AllByRecursion (λ s. (length s ≤ most) × AllByRecursion P s) (dealt n requests)
dealt_all P most n requests all within = from_all P most 0 n requests all within
