-- What has a text: the records whose words and numbers are in their ranges.
use Rattle.std.specs.{Prelude.{ℕ, ◌≡◌, ◌<◌, ◌≤◌, ◌^◌, true, List, length}, List.AllByRecursion}
use Rattle.event_log.specs.{declared.event.TheConstants.MOST_CALLS, declared.entry.Done.TheVariants.{Steps, NoRoom}}
use Rattle.custom_records.specs.{declared.settings.TheConstants.{MOST_CUSTOM_CPUS, MOST_CUSTOM_OBJECTS, MOST_SIZES, MOST_WORDS}, declared.spoken.TheConstants.MOST_NUMBERS, Custom.{CustomStep, CustomEvent, CustomDone, CustomEntry, CustomRun}, Said.Said, Settings.{CustomSettings, CustomHead, names_of, word_in, refuses_word}}
use Rattle.record_lines.specs.Names.{is_name}

-- the most events of a log, and entries of a transcript
abbrev pub most_lines : ℕ
most_lines = 4294967295

-- a number of 64 bits
abbrev pub IsNumber : ℕ → Type 0
IsNumber n = n < 2 ^ 64

-- a word, and at most 6 numbers
pub record SaidFits (s : Said) : Type 0 where
  pub word : is_name s.word ≡ true
  pub few : length s.numbers ≤ MOST_NUMBERS
  pub numbers : AllByRecursion IsNumber s.numbers

-- names, 1 to 4,294,967,295 events, at most 32 numbers
pub record CustomSettingsFit (o : CustomSettings) : Type 0 where
  pub name : is_name o.name ≡ true
  pub lock : is_name o.lock ≡ true
  pub events : (1 ≤ o.events) × (o.events ≤ most_lines)
  pub kind : is_name o.kind ≡ true
  pub few : length o.numbers ≤ MOST_SIZES
  pub numbers : AllByRecursion IsNumber o.numbers

-- no word stands twice
abbrev pub Differ : List (List ℕ) → Type 0
Differ words = (i j : ℕ) → i < length words → j < length words → word_in words i ≡ word_in words j → i ≡ j

-- 1 to 256 CPUs, 1 to 256 objects of different names, at most 32 different words
pub record HeadFits (head : CustomHead) : Type 0 where
  pub cpus : (1 ≤ head.cpus) × (head.cpus ≤ MOST_CUSTOM_CPUS)
  pub count : (1 ≤ length head.objects) × (length head.objects ≤ MOST_CUSTOM_OBJECTS)
  pub each : AllByRecursion CustomSettingsFit head.objects
  pub names : Differ (names_of head)
  pub few : length head.refusing ≤ MOST_WORDS
  pub words : AllByRecursion (λ w. is_name w ≡ true) head.refusing
  pub once : Differ head.refusing

module _ (head : CustomHead) where
  -- the reply refuses exactly if its word is one of those
  pub record StepFits (s : CustomStep) : Type 0 where
    pub call : SaidFits s.call
    pub reply : SaidFits s.reply.said
    pub refuses : s.reply.refuses ≡ refuses_word head.refusing s.reply.said.word

  -- 1 to 8 steps
  pub record StepsFit (steps : List CustomStep) : Type 0 where
    pub some : 0 < length steps
    pub few : length steps ≤ MOST_CALLS
    pub each : AllByRecursion StepFits steps

  -- steps that fit, or none
  abbrev pub DoneFits : CustomDone → Type 0
  DoneFits (Steps s) = StepsFit s.list.items
  DoneFits NoRoom = Unit {0}

  -- an event of one of the CPUs
  pub record EventFits (e : CustomEvent) : Type 0 where
    pub cpu : e.cpu < head.cpus
    pub steps : StepsFit e.steps.list.items

  -- an entry on one of the objects, of 1 to 8 calls
  pub record EntryFits (e : CustomEntry) : Type 0 where
    pub object : e.object < length head.objects
    pub looks : IsNumber e.looks
    pub some : 0 < length e.asked.items
    pub few : length e.asked.items ≤ MOST_CALLS
    pub calls : AllByRecursion SaidFits e.asked.items
    pub done : DoneFits e.done

  -- a log
  abbrev pub LogFits : List CustomEvent → Type 0
  LogFits log = (length log ≤ most_lines) × AllByRecursion EventFits log

  -- a transcript
  abbrev pub TranscriptFits : List CustomEntry → Type 0
  TranscriptFits entries = (length entries ≤ most_lines) × AllByRecursion EntryFits entries

  -- a log for each object, and a transcript for each CPU
  pub record RunFits (run : CustomRun) : Type 0 where
    pub log_count : length run.logs ≡ length head.objects
    pub logs : AllByRecursion LogFits run.logs
    pub transcript_count : length run.transcripts ≡ head.cpus
    pub transcripts : AllByRecursion TranscriptFits run.transcripts

-- what was set, and what was done
pub record CustomRecord : Type 0 where
  pub head : CustomHead
  pub run : CustomRun

-- a record that has a text
abbrev pub CustomRecordFits : CustomRecord → Type 0
CustomRecordFits r = HeadFits r.head × RunFits r.head r.run
