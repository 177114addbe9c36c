-- What the head of a record says of its objects.
use Rattle.std.specs.{Prelude.{ℕ, Bool, List, [], map, unwrap_or}, List.{slice_get, list_any}, Str.bytes_eq}

-- an object's name, the word for its lock, the most events of its log, and its kind with its numbers
pub record CustomSettings : Type 0 where
  pub name : List ℕ
  pub lock : List ℕ
  pub events : ℕ
  pub kind : List ℕ
  pub numbers : List ℕ

-- the number of CPUs, the objects, and the words whose replies refuse
pub record CustomHead : Type 0 where
  pub cpus : ℕ
  pub objects : List CustomSettings
  pub refusing : List (List ℕ)

-- the names of the objects
abbrev pub names_of : CustomHead → List (List ℕ)
names_of head = map (λ (o : CustomSettings). o.name) head.objects

-- the word at that place, from 0
abbrev pub word_in : List (List ℕ) → ℕ → List ℕ
word_in words place = unwrap_or (slice_get words place) []

-- whether a reply with that word refuses its call
abbrev pub refuses_word : List (List ℕ) → List ℕ → Bool
refuses_word refusing word = list_any (λ w. bytes_eq w word) refusing
