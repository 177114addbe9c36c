-- Which line of a text is the first that no record of a form continues.
use Rattle.std.specs.Prelude.{ℕ, ◌≡◌, ◌<◌, List, ◌++◌, length}
use Rattle.record_lines.specs.{declared.forms.form.RecordForm.Ghosts, FirstLines.first_lines, FormText.whole_text, Received.{Whole, WholeFits}}

module _ {S H E T : Type 0} (f : Ghosts S H E T) where
  -- the first n lines are the first n lines of some record's text
  pub record WholeAgrees (n : ℕ) (bytes : List ℕ) : Type 0 where
    pub shown : Whole H E T
    pub fit : WholeFits f shown
    pub same : first_lines n bytes ≡ first_lines n (whole_text f shown)

  -- line n, from 1, is the first such that the first n lines aren't those of any record's text
  pub record IsWholeBadLine (bytes : List ℕ) (n : ℕ) : Type 0 where
    pub bad : WholeAgrees n bytes → ⊥
    pub before : (k : ℕ) → k < n → WholeAgrees k bytes

  -- the whole bytes are the record's text
  pub record IsWholeText (bytes : List ℕ) (w : Whole H E T) : Type 0 where
    pub fit : WholeFits f w
    pub text : bytes ≡ whole_text f w

  -- the record's text, of so many bytes, stands at the front
  pub record IsWholeFront (bytes : List ℕ) (w : Whole H E T) (count : ℕ) : Type 0 where
    pub fit : WholeFits f w
    pub rest : List ℕ
    pub text : bytes ≡ whole_text f w ++ rest
    pub is : count ≡ length (whole_text f w)
