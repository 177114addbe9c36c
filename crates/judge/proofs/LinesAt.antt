-- The line that begins at a byte of a text.
use Rattle.std.proofs.{Common.{◌≡◌, ℕ, List, ◌∷◌, ◌++◌, length, drop, sym, ap, ◌∙◌}, Math.Seq.drop-append_seam}
use Rattle.judge.specs.OwnLines.{IsLineAt}
use Rattle.record_lines.proofs.FirstLines.{same_line, no_such_end}
use Rattle.record_lines.specs.Words.{NoEnd}

-- from that byte on the text begins with the line
from_there : (text : List ℕ) (at : ℕ) (line : List ℕ) (l : IsLineAt text at line) → drop at text ≡ line ++ 10 ∷ l.rest
from_there text at line l = ap (λ n. drop n text) (sym l.place) ∙ (ap (drop (length l.front)) l.parts ∙ drop-append_seam l.front (line ++ 10 ∷ l.rest))

-- there is one such line
pub one_line : (text : List ℕ) (at : ℕ) (a b : List ℕ) → IsLineAt text at a → IsLineAt text at b → a ≡ b
one_line text at a b l m = (same_line a b l.rest m.rest l.no_end m.no_end (sym (from_there text at a l) ∙ from_there text at b m)).0

-- there is none where no line ends
pub no_line : (text back : List ℕ) (at : ℕ) (line : List ℕ) → back ≡ drop at text → NoEnd back → IsLineAt text at line → ⊥
no_line text back at line behind no_end l = no_such_end line back l.rest no_end (sym (behind ∙ from_there text at line l))
