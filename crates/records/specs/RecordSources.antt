-- The record that the rest of a source spells.
use Rattle.std.specs.Prelude.{ℕ, ◌≡◌, List, Option, Result, Ok, Err}
use Rattle.record_lines.specs.{declared.text.fault.TextFault.TextFault, declared.text.fault.TextFault.TheVariants.{OutOfMemory, ReadFailed, BadLine}, Sources.IsRest}
use Rattle.records.specs.{RecordFaults.{IsWhole, IsBadLine}, RecordRanges.Record}

-- the rest of a source is the record's text
abbrev pub SpellsRecord : Option (List ℕ) → Record → Type 0
SpellsRecord remaining r = (bytes : List ℕ) × IsRest remaining bytes × IsWhole bytes r

-- the line that is named is the first bad one of the rest of a source
abbrev pub NamesBadLineOfRest : Option (List ℕ) → TextFault → Type 0
NamesBadLineOfRest remaining OutOfMemory = Unit {0}
NamesBadLineOfRest remaining ReadFailed = Unit {0}
NamesBadLineOfRest remaining (BadLine n) = (bytes : List ℕ) × IsRest remaining bytes × IsBadLine bytes n

-- the record was read, unless memory ran out or reading failed
abbrev pub IsReadFrom : Record → Result Record TextFault → Type 0
IsReadFrom r (Ok x) = x ≡ r
IsReadFrom r (Err OutOfMemory) = Unit {0}
IsReadFrom r (Err ReadFailed) = Unit {0}
IsReadFrom r (Err (BadLine n)) = ⊥
