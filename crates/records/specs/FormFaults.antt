-- Which line of a text is the first bad one, where there is one form of records alone.
use Rattle.std.specs.Prelude.{ℕ, ◌≡◌, ◌<◌, List, [], ◌∷◌, codes}
use Rattle.kernel_words.specs.{declared.form.Form.Form, Forms.version}
use Rattle.records.specs.{RecordFaults.text_in, RecordRanges.{Record, RecordFitsIn}}
use Rattle.record_lines.specs.{FirstLines.first_lines, Words.sentence}

-- the first line of a record in that form
abbrev pub form_line : Form → List ℕ
form_line form = sentence (codes "record" ∷ version form ∷ [])

-- the first n lines are the first n lines of some record's text in that form
pub record AgreesIn (form : Form) (n : ℕ) (bytes : List ℕ) : Type 0 where
  pub shown : Record
  pub fit : RecordFitsIn form shown
  pub same : first_lines n bytes ≡ first_lines n (text_in form shown)

-- line n, from 1, is the first such that the first n lines aren't those of any record's text in that form
pub record IsBadLineIn (form : Form) (bytes : List ℕ) (n : ℕ) : Type 0 where
  pub bad : AgreesIn form n bytes → ⊥
  pub before : (k : ℕ) → k < n → AgreesIn form k bytes
