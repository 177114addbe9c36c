-- The text of a record of its writer's objects: its head, a log for each object, and a transcript for each CPU.
use Rattle.std.specs.{Prelude.{ℕ, ◌+◌, List, [], ◌∷◌, ◌++◌, map, length}, List.{flat_map, zip}}
use Rattle.custom_records.specs.{Custom.{CustomEvent, CustomEntry}, Ranges.CustomRecord, Settings.{CustomSettings, CustomHead}, LineText.{first_words, cpus_words, count_words, custom_object_words, refuses_words, log_words, custom_event_words, cpu_words, custom_entry_words, last_words}}
use Rattle.record_lines.specs.Words.{sentence, text_of_lines}

-- the form, the number of CPUs, the objects, and the words that refuse
abbrev pub custom_head_lines : CustomHead → List (List (List ℕ))
custom_head_lines head = first_words ∷ cpus_words head.cpus ∷ count_words (length head.objects) ∷ (map custom_object_words head.objects ++ (refuses_words head.refusing ∷ []))

-- `log NAME EVENTS`, and a line for each event
abbrev pub custom_log_lines : CustomSettings × List CustomEvent → List (List (List ℕ))
custom_log_lines (o, log) = log_words o.name (length log) ∷ map custom_event_words log

-- `cpu CPU ENTRIES`, and a line for each entry
abbrev pub custom_transcript_lines : CustomHead → ℕ → List CustomEntry → List (List (List ℕ))
custom_transcript_lines head cpu entries = cpu_words cpu (length entries) ∷ map (custom_entry_words head) entries

-- the transcripts of the CPUs from this one on
abbrev pub custom_transcripts_lines : CustomHead → ℕ → List (List CustomEntry) → List (List (List ℕ))
custom_transcripts_lines head cpu [] = []
custom_transcripts_lines head cpu (entries ∷ more) = custom_transcript_lines head cpu entries ++ custom_transcripts_lines head (cpu + 1) more

-- each line of a record, as its words
unfoldable pub custom_record_lines : CustomRecord → List (List (List ℕ))
custom_record_lines r = custom_head_lines r.head ++ (flat_map custom_log_lines (zip r.head.objects r.run.logs) ++ (custom_transcripts_lines r.head 0 r.run.transcripts ++ (last_words ∷ [])))

-- the text of a record: single spaces between the words of a line
unfoldable pub custom_text : CustomRecord → List ℕ
custom_text r = text_of_lines (map sentence (custom_record_lines r))
