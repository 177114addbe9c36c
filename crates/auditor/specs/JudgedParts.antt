-- A judge of a record that was handed over in parts.
use Rattle.std.specs.Prelude.{◌≡◌, ℕ, ◌+◌, Bool, if◌then◌else◌, List, length, take}
use Rattle.kernel_object.specs.{declared.object.KernelObject.KernelObject, declared.call.KParams.KParams, declared.call.KCall.KCall, declared.call.KReply.KReply, contracts.object.KernelObjectSeqObject.TheImpl.{ghosts as kernel}}
use Rattle.records.specs.{KernelForm.{Head, settings_in}, RecordStates.KernelReceived, Runs.opened_of}
use Rattle.auditor.specs.{declared.opened_object.OpenedObject.OpenedObject, ReceivedRun.ReceivedRun, Terms.starts, Transcripts.opened_by}

-- what the judge has received, as parts of a record with that head
abbrev pub judged_parts : Head → Bool → ReceivedRun KernelObject KernelObject KParams KCall KReply → KernelReceived
judged_parts head begun d = record { head = head; count = d.count; begun = begun; logs = d.logs; events = d.events; transcripts = d.transcripts; entries = d.entries }

-- how many logs were begun, at least, where none is whole that wasn't
abbrev pub begun_logs : KernelReceived → ℕ
begun_logs p = if p.begun then length p.logs + 1 else length p.logs

-- the judge has received those parts: so many logs were begun of the objects that the settings open
pub record HasReceivedParts (p : KernelReceived) (opened : List (OpenedObject KernelObject KParams KCall KReply)) (log : ℕ) (d : ReceivedRun KernelObject KernelObject KParams KCall KReply) : Type 0 where
  pub cpus : d.cpus ≡ p.head.cpus
  pub objects : d.objects ≡ length p.head.objects
  pub same : opened_by opened ≡ opened_of (settings_in p.head)
  pub begun : d.opened ≡ take (begun_logs p) (starts kernel (opened_of (settings_in p.head)))
  pub whole : log ≡ length p.logs
