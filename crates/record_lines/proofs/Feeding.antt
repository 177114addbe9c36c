-- Bytes of a source that are taken piece by piece.
use Rattle.std.proofs.Common.{◌≡◌, ℕ, List, Option, Result, Ok, Err, refl}
use Rattle.std.specs.{Io.KnownBytes.Consumes, Result.IfErr}
use Rattle.record_lines.specs.{declared.text.fault.LinesFault.LinesFault, declared.text.fault.LinesFault.TheVariants.{OutOfMemory, Line}, declared.text.line_machine.Pieces.Pieces, LineMachine.RefusesLine, Pieces.RefusesPieces}

-- what was taken so far of a source
pub record HasFedOf {R : Type 0} (takes : List ℕ → R → Type 0) (old now : Option (List ℕ)) (reader : R) : Type 0 where
  pub seen : List ℕ
  pub consumed : Consumes old now seen
  pub taken : takes seen reader

-- a fault of lines that names a refused one alone
pub piece_refused : {S X : Type 0} (takes : List ℕ → S → S → Type 0) (refuses : List ℕ → S → Type 0) (fits : ℕ → ℕ → Type 0) (first : Pieces S) (text : List ℕ) (r : Result X LinesFault) → ((n : ℕ) → r ≡ Err (Line n) → RefusesLine takes refuses fits text first.lines 1 n) → IfErr r (RefusesPieces takes refuses fits first text)
piece_refused takes refuses fits first text (Ok x) refused = tt
piece_refused takes refuses fits first text (Err OutOfMemory) refused = tt
piece_refused takes refuses fits first text (Err (Line n)) refused = refused n refl
