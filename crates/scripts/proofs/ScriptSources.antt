-- Scripts, piece by piece.
use Rattle.std.proofs.Common.{◌≡◌, ℕ, List, Option, Result, Ok, Err, refl, sym, subst}
use Rattle.std.specs.Result.{IsErrAnd, IfErr}
use Rattle.record_lines.specs.{declared.streams.feeding.SourceFault.SourceFault, declared.streams.feeding.SourceFault.TheVariants.{ReadFailed, Reported}, declared.text.fault.LinesFault.LinesFault, declared.text.fault.LinesFault.TheVariants.{OutOfMemory, Line}, declared.text.fault.TextFault.TextFault, declared.text.line_machine.Pieces.Pieces, Feeding.HasRefused, LineMachine.RefusesLine, Pieces.RefusesPieces, Sources.IsRest, TextFaults.{of_lines, of_source}}
use Rattle.scripts.specs.{ScriptFaults.{ScriptState, TakesScriptLine, RefusesScriptLine, FitsScriptLine, no_entries, NamesFirstBad, NamesFirstBadOfRest}, ScriptText.IsFirstBad}
use Rattle.records.specs.Settings.{Settings}
use Rattle.scripts.proofs.ScriptTexts.{line_refused}
use Rattle.record_lines.proofs.Consuming.{of_rest}

module _ (settings : Settings) where
  source_names : (old new : Option (List ℕ)) (first : Pieces ScriptState) (cause : SourceFault LinesFault) → first.lines ≡ no_entries settings → ((f : LinesFault) → cause ≡ Reported f → HasRefused (RefusesPieces TakesScriptLine RefusesScriptLine FitsScriptLine first) old new f) → NamesFirstBadOfRest settings old (of_source cause)
  source_names old new first ReadFailed is refused = tt
  source_names old new first (Reported OutOfMemory) is refused = tt
  source_names old new first (Reported (Line m)) is refused =
      let bad = refused (Line m) refl in
      of_rest (λ text. IsFirstBad settings text m) old new bad.0 bad.1
      (λ more. line_refused settings bad.0 more m (subst (λ (s : ScriptState). RefusesLine TakesScriptLine RefusesScriptLine FitsScriptLine bad.0 s 1 m) is bad.2))

  -- a source's refusal that is handed on
  pub read_refused : {X : Type 0} (old new : Option (List ℕ)) (first : Pieces ScriptState) (cause : SourceFault LinesFault) (r : Result X TextFault) → IsErrAnd r (λ f. f ≡ of_source cause) → first.lines ≡ no_entries settings → ((f : LinesFault) → cause ≡ Reported f → HasRefused (RefusesPieces TakesScriptLine RefusesScriptLine FitsScriptLine first) old new f) → IfErr r (NamesFirstBadOfRest settings old)
  read_refused old new first cause (Ok x) is same refused = tt
  read_refused old new first cause (Err f) is same refused = subst (NamesFirstBadOfRest settings old) (sym is) (source_names old new first cause same refused)

  text_names : (old : Option (List ℕ)) (text : List ℕ) (fault : LinesFault) → IsRest old text → NamesFirstBad settings text fault → NamesFirstBadOfRest settings old (of_lines fault)
  text_names old text OutOfMemory rest names = tt
  text_names old text (Line m) rest names = (text, rest, names)

  -- a text's refusal that is handed on
  pub end_refused : {X : Type 0} (old : Option (List ℕ)) (text : List ℕ) (fault : LinesFault) (r : Result X TextFault) → IsErrAnd r (λ f. f ≡ of_lines fault) → IsRest old text → NamesFirstBad settings text fault → IfErr r (NamesFirstBadOfRest settings old)
  end_refused old text fault (Ok x) is rest names = tt
  end_refused old text fault (Err f) is rest names = subst (NamesFirstBadOfRest settings old) (sym is) (text_names old text fault rest names)
