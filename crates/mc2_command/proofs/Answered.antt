-- What holds of an answer, and of a refusal.
use Rattle.std.proofs.Common.{◌≡◌, ◌⊎◌, ◌≤◌, ℕ, Err, List, Option, String, Global, string_bytes, inl, inr, refl, sym, ◌∙◌, subst, ap, arith}
use Rattle.kernel_object.specs.contracts.object.KernelObjectSeqObject.TheImpl.{ghosts as kernel}
use Rattle.auditor.specs.{Faults.IsFirstFault, declared.fault.Fault.Fault}
use Rattle.event_log.specs.Stream.{counted}
use Rattle.log_merge.specs.{MergedRecords.HasCycle, declared.record_merge.MergeFault.MergeFault}
use Rattle.program.specs.{Inputs.bytes_of, Texts.SpellsRecordOf, declared.refusal.Refusal.Refusal}
use Rattle.records.specs.{RecordRanges.Record, Runs.opened_of}
use Rattle.sound_run.specs.declared.place.Place.{Place}
use Rattle.mc2_command.specs.{declared.arguments.Arguments.Arguments, declared.fault.CommandFault.CommandFault, Answers.{AnswersFor, AnswersWith, FindsNoOrder, RefusesCycle, RefusesUnsound}, Asked.Asks, Faults.{status_of, reports_read_failed}, Refused.{IsNoOrder, Refuses, RefusesMerge, RefusesOrder, RefusesTo}}
use Rattle.log_merge.specs.declared.record_merge.MergeFault.TheVariants as merging
use Rattle.program.proofs.Refused as causes
use Rattle.program.specs.declared.refusal.Refusal.TheVariants as refusal
use Rattle.mc2_command.specs.declared.arguments.Arguments.TheVariants as forms
use Rattle.mc2_command.specs.declared.fault.CommandFault.TheVariants as fault

-- a text that goes with what the words ask for goes with the words
pub with_words : (held : Option (List ℕ) → Option (List ℕ)) (words : List (String Global)) (a : Arguments) (status : ℕ) (text : List ℕ)
    → Asks words a → AnswersFor held a status text → AnswersWith held words status text
with_words held words a status text asked (inl h) = inl (h.0, (a, asked, h.1))
with_words held words a status text asked (inr h) = inr (h.0, (a, asked, h.1))

-- why a record has no order
pub no_order : (held : Option (List ℕ) → Option (List ℕ)) (name : Option (List ℕ)) (of : Record) (cause : MergeFault) (f : CommandFault) → SpellsRecordOf held name of
    → ((c : Fault) → cause ≡ merging.Unsound c → IsFirstFault kernel (opened_of of.settings) of.run c)
    → ((c : List Place) → cause ≡ merging.Cycle c → HasCycle kernel (opened_of of.settings) of.run c)
    → IsNoOrder of.settings cause f → RefusesMerge held name f
no_order held name of merging.OutOfMemory f read unsound cycle is = inl (refusal.OutOfMemory, is, tt)
no_order held name of (merging.Unsound c) f read unsound cycle (inl is) = inl (refusal.OutOfMemory, is, tt)
no_order held name of (merging.Unsound c) f read unsound cycle (inr h) =
    let why : RefusesUnsound held name (string_bytes h.0) = record { of = of; read = read; fault = c; first = unsound c refl; is = h.2 } in
    subst (RefusesMerge held name) (sym h.1) (inr why)
no_order held name of (merging.Cycle c) f read unsound cycle (inl is) = inl (refusal.OutOfMemory, is, tt)
no_order held name of (merging.Cycle c) f read unsound cycle (inr h) =
    let why : RefusesCycle held name (string_bytes h.0) = record { of = of; read = read; cycle = c; has = cycle c refl; is = h.2 } in
    subst (RefusesMerge held name) (sym h.1) (inr why)

-- no refusal that programs share has status 1
shared : (cause : Refusal) (f : CommandFault) → f ≡ fault.Common cause → status_of f ≡ 1 → ⊥
shared cause f is one = causes.not_one cause (sym (ap status_of is) ∙ one)

-- what is found of a record is its first fault or a cycle
found : (held : Option (List ℕ) → Option (List ℕ)) (name : Option (List ℕ)) (f : CommandFault) → RefusesOrder held name f
    → (text : List ℕ) × (RefusesUnsound held name text ⊎ RefusesCycle held name text)
found held name (fault.Common cause) h = absurd h
found held name (fault.NoThreadStarted cpu) h = absurd h
found held name (fault.Unsound text) h = (string_bytes text, inl h)
found held name (fault.Cycle text) h = (string_bytes text, inr h)

module _ (held : Option (List ℕ) → Option (List ℕ)) (words : List (String Global)) (f : CommandFault) (one : status_of f ≡ 1) where
  -- of all commands `merge` alone finds something with a refusal
  by_command : (a : Arguments) → Asks words a → RefusesTo held a f → FindsNoOrder held words
  by_command (forms.Run settings scripts) asked (inl h) = absurd (shared h.0 f h.1 one)
  by_command (forms.Run settings scripts) asked (inr (given, both, inl is)) = absurd (shared refusal.OutOfMemory f is one)
  by_command (forms.Run settings scripts) asked (inr (given, both, inr (cpu, is, few))) = let three : status_of f ≡ 3 = ap status_of is in absurd (omega (arith, one, three))
  by_command (forms.Sim settings scripts schedule) asked (inl h) = absurd (shared h.0 f h.1 one)
  by_command (forms.Sim settings scripts schedule) asked (inr (given, both, h)) = absurd (shared h.0 f h.1 one)
  by_command (forms.Report name) asked h = absurd (shared h.0 f h.1 one)
  by_command (forms.Audit name) asked h = absurd (shared h.0 f h.1 one)
  by_command (forms.Merge name) asked (inl h) = absurd (shared h.0 f h.1 one)
  by_command (forms.Merge name) asked (inr h) = let what = found held (bytes_of name) f h in (name, asked, what.0, what.1)
  by_command (forms.Upgrade name) asked h = absurd (shared h.0 f h.1 one)

  by_words : Refuses held words f → FindsNoOrder held words
  by_words (inl (inl is)) = absurd (shared refusal.OutOfMemory f is one)
  by_words (inl (inr h)) = absurd (shared refusal.BadWords f h.0 one)
  by_words (inr h) = by_command h.0 h.1 h.2

-- a refusal with status 1 says that `merge` found something
pub found_by : (held : Option (List ℕ) → Option (List ℕ)) (words : List (String Global)) (f : CommandFault) (status : ℕ) → status ≡ status_of f → Refuses held words f → status ≡ 1 → FindsNoOrder held words
found_by held words f status is h one = by_words held words f (sym is ∙ one) h

-- and never that a write failed
pub no_write : (f : CommandFault) (status : ℕ) → status ≡ status_of f → f ≡ fault.Common refusal.WriteFailed → status ≡ 1 → ⊥
no_write f status is failed one = shared refusal.WriteFailed f failed (sym is ∙ one)

-- nor has that status 2
pub no_write_two : (f : CommandFault) (status : ℕ) → status ≡ status_of f → f ≡ fault.Common refusal.WriteFailed → status ≡ 2 → ⊥
no_write_two f status is failed two = let three : status_of f ≡ 3 = ap status_of failed in absurd (omega (arith, is, three, two))

-- a status below 3 says that no read failed
pub none_failed : (f : CommandFault) (status old new : ℕ) → status ≡ status_of f → new ≡ counted (reports_read_failed {X = ℕ} (Err f)) old → status ≤ 2 → new ≡ old
none_failed (fault.Common cause) status old new is count few = causes.none_failed cause status old new is count few
none_failed (fault.NoThreadStarted cpu) status old new is count few = count
none_failed (fault.Unsound text) status old new is count few = count
none_failed (fault.Cycle text) status old new is count few = count
