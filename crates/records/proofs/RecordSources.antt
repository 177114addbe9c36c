-- Records from sources.
use Rattle.std.proofs.Common.{◌≡◌, ℕ, List, length, length-append, Option, Some, None, Result, Ok, Err, refl, sym, ap, subst, arith}
use Rattle.std.specs.{Io.KnownBytes.Consumes, Result.{IsErrAnd, IfErr}}
use Rattle.kernel_words.specs.declared.form.Form.{Form}
use Rattle.record_lines.specs.{declared.text.fault.LinesFault.LinesFault, declared.text.fault.TextFault.TextFault, declared.text.fault.TextFault.TheVariants.{OutOfMemory, ReadFailed, BadLine}, declared.text.line_machine.Pieces.Pieces, Feeding.HasRefused, LineMachine.{RefusesLine as LineRefused}, Pieces.RefusesPieces, Sources.IsReadOut, TextFaults.of_lines, Sources.IsRest, Then.ok_map}
use Rattle.records.specs.{RecordFaults.{IsBadLine, NamesBadLine, text_in}, RecordStates.{RecordState, nothing_read, TakesLine, RefusesLine, FitsLine}, RecordRanges.{Record, RecordFitsIn}, RecordSources.{SpellsRecord, NamesBadLineOfRest, IsReadFrom}}
use Rattle.records.proofs.RecordTexts.{whole_one, bad_is_none, refused_is_bad}
use Rattle.record_lines.proofs.Consuming.{of_rest}
use Rattle.record_lines.specs.declared.text.fault.LinesFault.TheVariants as lines

-- what was read to its end, behind what was read before
pub out_behind : (old between now : Option (List ℕ)) (seen : List ℕ) → Consumes old between seen → IsReadOut between now → IsReadOut old now
out_behind None between now seen consumed out = λ all e few. absurd cc
out_behind (Some xs) None now seen consumed out = absurd consumed
out_behind (Some xs) (Some ys) now seen consumed out = λ all e few. let same : xs ≡ all = cc in out ys refl (omega (arith, ap length consumed, length-append seen ys, ap length same, few))

-- a bad line of what was read
pub bad_of_rest : (old new : Option (List ℕ)) (first : Pieces RecordState) (n : ℕ) → first.lines ≡ nothing_read → HasRefused (RefusesPieces TakesLine RefusesLine FitsLine first) old new (lines.Line n) → NamesBadLineOfRest old (BadLine n)
bad_of_rest old new first n is bad =
    of_rest (λ bytes. IsBadLine bytes n) old new bad.0 bad.1
    (λ more. refused_is_bad bad.0 more n (subst (λ (s : RecordState). LineRefused TakesLine RefusesLine FitsLine bad.0 s 1 n) is bad.2))

-- one record alone is spelled by all bytes
pub spells_one : (remaining : Option (List ℕ)) (x : Record) (form : Form) (r : Record) → SpellsRecord remaining x → RecordFitsIn form r → remaining ≡ Some (text_in form r) → x ≡ r
spells_one remaining x form r read fit e = whole_one read.0 x form r read.2 fit (read.1 (text_in form r) e)

names_rest : (old : Option (List ℕ)) (seen : List ℕ) (fault : LinesFault) → IsRest old seen → NamesBadLine seen fault → NamesBadLineOfRest old (of_lines fault)
names_rest old seen lines.OutOfMemory all names = tt
names_rest old seen (lines.Line n) all names = (seen, all, names)

-- a refusal at the end that is handed on
pub end_refused : {X : Type 0} (old : Option (List ℕ)) (seen : List ℕ) (fault : LinesFault) (result : Result X TextFault) → IsErrAnd result (λ f. f ≡ of_lines fault) → IsRest old seen → NamesBadLine seen fault → IfErr result (NamesBadLineOfRest old)
end_refused old seen fault (Ok x) is all names = tt
end_refused old seen fault (Err f) is all names = subst (NamesBadLineOfRest old) (sym is) (names_rest old seen fault all names)

-- a fault that names a bad line is none of a record's text
pub refused_unread : (old : Option (List ℕ)) (fault : TextFault) (form : Form) (r : Record) → NamesBadLineOfRest old fault → RecordFitsIn form r → old ≡ Some (text_in form r) → IsReadFrom r (Err fault)
refused_unread old OutOfMemory form r names fit e = tt
refused_unread old ReadFailed form r names fit e = tt
refused_unread old (BadLine n) form r names fit e = bad_is_none names.0 n form r names.2 fit (names.1 (text_in form r) e)

-- whatever a record would be made of
pub only_refused : {X : Type 0} (record_of : X → Record) (old : Option (List ℕ)) (fault : TextFault) (result : Result X TextFault) (form : Form) (r : Record) → IsErrAnd result (λ f. f ≡ fault) → IfErr result (NamesBadLineOfRest old) → RecordFitsIn form r → old ≡ Some (text_in form r) → IsReadFrom r (ok_map record_of result)
only_refused record_of old fault (Ok x) form r is names fit e = absurd is
only_refused record_of old fault (Err f) form r is names fit e = refused_unread old f form r names fit e
