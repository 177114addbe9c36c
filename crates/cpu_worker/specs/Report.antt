-- The report of a run: a line for each object, and one for the whole run.
use Rattle.std.specs.{Prelude.{ℕ, ◌+◌, ◌-◌, ◌^◌, min, max, Bool, true, false, ◌==◌, List, [], ◌∷◌, ◌++◌, map, length, codes, decimal}, List.{filter, flat_map, fold, sum, count_by, enumerate_from}}
use Rattle.event_log.specs.declared.entry.Done.TheVariants.{Steps, NoRoom}
use Rattle.kernel_object.specs.KernelTypes.{KernelDone, KernelEntry}
use Rattle.records.specs.{RecordRanges.Record, Settings.ObjectSettings}
use Rattle.kernel_words.specs.Parameters.{lock_word}
use Rattle.record_lines.specs.Words.{sentence, text_of_lines}
use Rattle.cpu_worker.specs.declared.sums.Sums.{Sums}

-- the entries of all transcripts
abbrev pub all_entries : List (List KernelEntry) → List KernelEntry
all_entries transcripts = flat_map (λ entries. entries) transcripts

-- those on the object at that place, from 0
abbrev pub entries_on : ℕ → List KernelEntry → List KernelEntry
entries_on place entries = filter (λ e. e.object == place) entries

-- whether the object's log was full
abbrev pub lacks_room : KernelDone → Bool
lacks_room (Steps s) = false
lacks_room NoRoom = true

-- the greatest of the numbers, or 0 where there are none
abbrev pub greatest : List ℕ → ℕ
greatest numbers = fold (λ most n. max most n) 0 numbers

-- how many entries there are, how many of them had no room, the sum of their looks up to 2^64 - 1, and their greatest looks
abbrev pub sums_of : List KernelEntry → Sums
sums_of entries = record {
  entries = length entries;
  noroom = count_by (λ e. lacks_room e.done) entries;
  looks = min (sum (map (λ e. e.looks) entries)) (2 ^ 64 - 1);
  most = greatest (map (λ e. e.looks) entries);
}

-- the sums of two lists of entries together
abbrev pub joined : Sums → Sums → Sums
joined s t = record {
  entries = s.entries + t.entries;
  noroom = s.noroom + t.noroom;
  looks = min (s.looks + t.looks) (2 ^ 64 - 1);
  most = max s.most t.most;
}

-- `NAME LOCK entries A noroom B looks L most X`
abbrev pub object_words : ObjectSettings → Sums → List (List ℕ)
object_words o s = o.name ∷ lock_word o.lock ∷ codes "entries" ∷ decimal s.entries ∷ codes "noroom" ∷ decimal s.noroom ∷ codes "looks" ∷ decimal s.looks ∷ codes "most" ∷ decimal s.most ∷ []

-- `cpus N entries K`
abbrev pub run_words : ℕ → ℕ → List (List ℕ)
run_words cpus entries = codes "cpus" ∷ decimal cpus ∷ codes "entries" ∷ decimal entries ∷ []

-- the words of each object's line
abbrev pub objects_words : List KernelEntry → List ObjectSettings → List (List (List ℕ))
objects_words entries objects = map (λ p. object_words p.1 (sums_of (entries_on p.0 entries))) (enumerate_from 0 objects)

-- the text of a report
unfoldable pub report_text : Record → List ℕ
report_text r =
    let entries = all_entries r.run.transcripts in
    text_of_lines (map sentence (objects_words entries r.settings.objects ++ (run_words r.settings.cpus (length entries) ∷ [])))
