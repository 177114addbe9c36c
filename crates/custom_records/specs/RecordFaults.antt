-- Which line of a text is the first that no record continues.
use Rattle.std.specs.Prelude.{ℕ, ◌≡◌, ◌<◌, List, Result, Ok, Err}
use Rattle.custom_records.specs.{Ranges.{CustomRecord, CustomRecordFits}, RecordText.custom_text}
use Rattle.record_lines.specs.{FirstLines.first_lines, declared.text.fault.LinesFault.LinesFault, declared.text.fault.LinesFault.TheVariants.{OutOfMemory, Line}}

-- the bytes are the text of the record, which is within all limits
pub record IsCustomText (bytes : List ℕ) (r : CustomRecord) : Type 0 where
  pub fit : CustomRecordFits r
  pub text : bytes ≡ custom_text r

-- the first n lines are the first n lines of some record's text
pub record AgreesCustom (n : ℕ) (bytes : List ℕ) : Type 0 where
  pub shown : CustomRecord
  pub fit : CustomRecordFits shown
  pub same : first_lines n bytes ≡ first_lines n (custom_text shown)

-- line n, from 1, is the first such that the first n lines aren't those of any record's text
pub record IsBadCustomLine (bytes : List ℕ) (n : ℕ) : Type 0 where
  pub bad : AgreesCustom n bytes → ⊥
  pub before : (k : ℕ) → k < n → AgreesCustom k bytes

-- the line that is named is the first bad one
abbrev pub NamesBadCustomLine : List ℕ → LinesFault → Type 0
NamesBadCustomLine bytes OutOfMemory = Unit {0}
NamesBadCustomLine bytes (Line n) = IsBadCustomLine bytes n

-- this was read, unless memory ran out
abbrev pub IsReadCustom : {X : Type 0} → X → Result X LinesFault → Type 0
IsReadCustom x (Ok y) = y ≡ x
IsReadCustom x (Err OutOfMemory) = Unit {0}
IsReadCustom x (Err (Line n)) = ⊥
