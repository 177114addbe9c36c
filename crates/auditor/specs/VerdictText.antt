-- The text of a verdict.
use Rattle.std.specs.Prelude.{ℕ, ◌+◌, ◌<◌, ◌^◌, List, [], ◌∷◌, ◌++◌, length, codes, decimal}
use Rattle.records.specs.Settings.{Settings, name_at}
use Rattle.auditor.specs.{declared.fault.Fault.Fault, declared.fault.Fault.TheVariants.{TooLong, WrongStep, RoomWasLeft, NotItsEvent, NotAsked, Unclaimed}, declared.fault.Verdict.Verdict, declared.fault.Verdict.TheVariants.{Sound, Unsound}}

-- `log NAME`, and what follows
abbrev pub on_log : Settings → ℕ → List ℕ → List ℕ
on_log s object more = codes "log " ++ (name_at s object ++ more)

-- `cpu C entry N: `, and what follows; entries are counted from 1
abbrev pub on_entry : ℕ → ℕ → List ℕ → List ℕ
on_entry cpu entry more = codes "cpu " ++ (decimal cpu ++ (codes " entry " ++ (decimal (entry + 1) ++ more)))

-- the text of a fault; events and steps are counted from 1
abbrev pub fault_text : Settings → Fault → List ℕ
fault_text s (TooLong object) = on_log s object (codes ": too long")
fault_text s (WrongStep object event step) = on_log s object (codes " event " ++ (decimal (event + 1) ++ (codes " step " ++ (decimal (step + 1) ++ codes ": wrong step"))))
fault_text s (RoomWasLeft cpu entry) = on_entry cpu entry (codes ": room was left")
fault_text s (NotItsEvent cpu entry) = on_entry cpu entry (codes ": not its event")
fault_text s (NotAsked cpu entry) = on_entry cpu entry (codes ": not what was asked")
fault_text s (Unclaimed object event) = on_log s object (codes " event " ++ (decimal (event + 1) ++ codes ": unclaimed"))

-- the line of a verdict, with its end
abbrev pub verdict_text : Settings → Verdict → List ℕ
verdict_text s Sound = codes "sound\n"
verdict_text s (Unsound fault) = codes "unsound: " ++ (fault_text s fault ++ 10 ∷ [])

-- the fault's object is one of the settings, and its other numbers are below 2^63
abbrev pub IsNamed : Settings → Fault → Type 0
IsNamed s (TooLong object) = object < length s.objects
IsNamed s (WrongStep object event step) = (object < length s.objects) × (event < 2 ^ 63) × (step < 2 ^ 63)
IsNamed s (RoomWasLeft cpu entry) = entry < 2 ^ 63
IsNamed s (NotItsEvent cpu entry) = entry < 2 ^ 63
IsNamed s (NotAsked cpu entry) = entry < 2 ^ 63
IsNamed s (Unclaimed object event) = (object < length s.objects) × (event < 2 ^ 63)

-- so is the verdict's fault, if it has one
abbrev pub CanBeReported : Settings → Verdict → Type 0
CanBeReported s Sound = Unit {0}
CanBeReported s (Unsound fault) = IsNamed s fault
