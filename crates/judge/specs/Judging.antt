-- What a judge knows of what it was handed over.
use Rattle.std.specs.Prelude.{◌≡◌, ℕ, ◌+◌, ◌-◌, ◌<◌, ◌≤◌, Bool, if◌then◌else◌, List, [], ◌∷◌, length, map, take, drop, Option, Some, None, slice_get, slice_index, unwrap_or}
use Rattle.event_log.specs.Log.{steps_of}
use Rattle.auditor.specs.{ReceivedRun.ReceivedRun, Terms.Terms}
use Rattle.custom_records.specs.{declared.object.CustomObject.CustomObject, declared.object.CustomReply.CustomReply, Custom.CustomEvent, CustomForm.Head, CustomReceived.CustomReceived, Said.Said, Settings.CustomSettings}

-- what was handed over, and how many steps of each log were called right
pub record Counted : Type 0 where
  pub parts : CustomReceived
  pub counts : List ℕ

-- what a judge by counts has received
abbrev pub CustomReceivedRun : Type 0
CustomReceivedRun = ReceivedRun ℕ CustomObject (Unit {0}) Said CustomReply

-- what a log is judged by: so many steps of it are right
abbrev pub CustomTerms : Type 0
CustomTerms = Terms (Unit {0}) ℕ

-- the terms of an object's log, of which so many steps are right
abbrev pub term_of : CustomSettings → ℕ → CustomTerms
term_of o n = record { params = tt; limit = o.events; state = n }

-- those of all logs; where there is no count no step is right
abbrev pub custom_terms : List ℕ → List CustomSettings → List CustomTerms
custom_terms counts [] = []
custom_terms counts (o ∷ objects) = term_of o (slice_index counts 0) ∷ custom_terms (drop 1 counts) objects

-- what the judge has received, as parts of a record with that head
abbrev pub custom_parts : Head → Bool → CustomReceivedRun → CustomReceived
custom_parts head begun d = record { head = head; begun = begun; count = d.count; logs = d.logs; events = d.events; transcripts = d.transcripts; entries = d.entries }

-- how many logs were begun, at least, where none is whole that wasn't
abbrev pub begun_logs : CustomReceived → ℕ
begun_logs p = if p.begun then length p.logs + 1 else length p.logs

-- the log at that place has a count, which is no more than its steps
pub record HasCount (counts : List ℕ) (logs : List (List CustomEvent)) (x : ℕ) : Type 0 where
  pub count : ℕ
  pub there : slice_get counts x ≡ Some count
  pub within : count ≤ length (steps_of (unwrap_or (slice_get logs x) []))

-- the first of the logs that has none, if there is one
abbrev pub IsFirstWithout : List ℕ → List (List CustomEvent) → Option ℕ → Type 0
IsFirstWithout counts logs None = (y : ℕ) → y < length logs → HasCount counts logs y
IsFirstWithout counts logs (Some x) = (x < length logs) × (HasCount counts logs x → ⊥) × ((y : ℕ) → y < x → HasCount counts logs y)

-- one log more is whole, behind so many, of which so many steps were still to be right
abbrev pub IsNextWithout : List ℕ → ℕ → ℕ → Option ℕ → Option ℕ → Type 0
IsNextWithout counts log left (Some x) new = new ≡ Some x
IsNextWithout counts log left None None = (log < length counts) × (left ≡ 0)
IsNextWithout counts log left None (Some x) = (x ≡ log) × ((log < length counts) × (left ≡ 0) → ⊥)

-- the judge has received those parts
pub record HasReceivedCustom (p : CustomReceived) (counts most : List ℕ) (log rest : ℕ) (none : Option ℕ) (d : CustomReceivedRun) : Type 0 where
  pub limits : most ≡ map (λ (o : CustomSettings). o.events) p.head.so_far.objects
  pub whole : log ≡ length p.logs
  pub cpus : d.cpus ≡ p.head.so_far.cpus
  pub objects : d.objects ≡ length p.head.so_far.objects
  pub opened : d.opened ≡ take (begun_logs p) (custom_terms counts p.head.so_far.objects)
  pub left : rest ≡ slice_index counts (length p.logs) - length (steps_of p.events)
  pub without : IsFirstWithout counts p.logs none
