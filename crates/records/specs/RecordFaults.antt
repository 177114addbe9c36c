-- Which line of a text is the first that no record continues.
use Rattle.std.specs.Prelude.{ℕ, ◌≡◌, ◌<◌, List, ◌++◌, length, Result, Ok, Err}
use Rattle.record_lines.specs.{declared.text.fault.LinesFault.LinesFault, declared.text.fault.LinesFault.TheVariants.{OutOfMemory, Line}, FirstLines.first_lines}
use Rattle.kernel_words.specs.{declared.form.Form.Form, declared.form.TheConstants.WRITTEN}
use Rattle.records.specs.{RecordRanges.{Record, RecordFitsIn}, RecordText.record_text}

-- the text of a record in that form
abbrev pub text_in : Form → Record → List ℕ
text_in form r = record_text form r.settings r.run

-- its text as it is written: record 2
abbrev pub text_of : Record → List ℕ
text_of r = text_in WRITTEN r

-- the first n lines are the first n lines of some record's text, in one of the forms
pub record Agrees (n : ℕ) (bytes : List ℕ) : Type 0 where
  pub form : Form
  pub shown : Record
  pub fit : RecordFitsIn form shown
  pub same : first_lines n bytes ≡ first_lines n (text_in form shown)

-- line n, from 1, is the first such that the first n lines aren't those of any record's text
pub record IsBadLine (bytes : List ℕ) (n : ℕ) : Type 0 where
  pub bad : Agrees n bytes → ⊥
  pub before : (k : ℕ) → k < n → Agrees k bytes

-- the line that is named is the first bad one
abbrev pub NamesBadLine : List ℕ → LinesFault → Type 0
NamesBadLine bytes OutOfMemory = Unit {0}
NamesBadLine bytes (Line n) = IsBadLine bytes n

-- this was read, unless memory ran out
abbrev pub IsRead : {X : Type 0} → X → Result X LinesFault → Type 0
IsRead x (Ok y) = y ≡ x
IsRead x (Err OutOfMemory) = Unit {0}
IsRead x (Err (Line n)) = ⊥

-- the whole bytes are the record's text, in one of the forms
pub record IsWhole (bytes : List ℕ) (r : Record) : Type 0 where
  pub form : Form
  pub fit : RecordFitsIn form r
  pub text : bytes ≡ text_in form r

-- the record's text in one of the forms, of so many bytes, stands at the front
pub record IsFront (bytes : List ℕ) (r : Record × ℕ) : Type 0 where
  pub form : Form
  pub fit : RecordFitsIn form r.0
  pub rest : List ℕ
  pub text : bytes ≡ text_in form r.0 ++ rest
  pub count : r.1 ≡ length (text_in form r.0)
