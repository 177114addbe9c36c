-- Why a text was not judged, by why its record was not read.
use Rattle.std.proofs.Common.{◌≡◌, ℕ, List, Option, Result, Ok, Err, sym, ap, subst}
use Rattle.std.specs.Result.{IsErrAnd, IfErr}
use Rattle.record_lines.specs.{declared.text.fault.TextFault.TextFault, Sources.IsReadOut}
use Rattle.records.specs.{RecordRanges.Record, RecordSources.{NamesBadLineOfRest, IsReadFrom}}
use Rattle.auditor.specs.{declared.fault.Verdict.Verdict, Audits.{IsTextFault, IsAudited}}
use Rattle.record_lines.specs.declared.text.fault.TextFault.TheVariants as text_fault

-- the bad line is that of the reading
pub text_named : {X : Type 0} (remaining : Option (List ℕ)) (cause : TextFault) (result : Result X TextFault) → IsErrAnd result (λ f. f ≡ cause) → NamesBadLineOfRest remaining cause → IfErr result (IsTextFault remaining)
text_named remaining cause (Ok x) is names = tt
text_named remaining cause (Err f) is names = subst (IsTextFault remaining) (sym is) names

judged : (r : Record) (cause : TextFault) → IsReadFrom r (Err cause) → IsAudited r (Err cause)
judged r text_fault.OutOfMemory read = tt
judged r text_fault.ReadFailed read = tt
judged r (text_fault.BadLine n) read = read

-- a record's text isn't refused
pub text_judged : (r : Record) (cause : TextFault) (result : Result Verdict TextFault) → IsErrAnd result (λ f. f ≡ cause) → IsReadFrom r (Err cause) → IsAudited r result
text_judged r cause (Ok v) is read = absurd is
text_judged r cause (Err f) is read = subst (λ g. IsAudited r (Err g)) (sym is) (judged r cause read)

-- where neither memory ran out nor reading failed, the source was read to its end
pub text_read_out : {X Y : Type 0} (old new : Option (List ℕ)) (cause : TextFault) (result : Result X TextFault) → IsErrAnd result (λ f. f ≡ cause)
    → ((◌≡◌ {A = Result Y TextFault} (Err cause) (Err text_fault.OutOfMemory) → ⊥) → (◌≡◌ {A = Result Y TextFault} (Err cause) (Err text_fault.ReadFailed) → ⊥) → IsReadOut old new)
    → (result ≡ Err text_fault.OutOfMemory → ⊥) → (result ≡ Err text_fault.ReadFailed → ⊥) → IsReadOut old new
text_read_out old new cause (Ok x) is out no_memory no_failure = absurd is
text_read_out old new text_fault.OutOfMemory (Err f) is out no_memory no_failure = absurd (no_memory (ap Err is))
text_read_out old new text_fault.ReadFailed (Err f) is out no_memory no_failure = absurd (no_failure (ap Err is))
text_read_out old new (text_fault.BadLine n) (Err f) is out no_memory no_failure = out (λ e. absurd cc) (λ e. absurd cc)
