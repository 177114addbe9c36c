-- What holds of a refusal by its cause.
use Rattle.std.proofs.Common.{◌≡◌, ◌≤◌, ℕ, Result, Ok, Err, IfErr, sym, subst, arith}
use Rattle.std.specs.Result.{IsErrAnd}
use Rattle.event_log.specs.Stream.{counted}
use Rattle.program.specs.{Refusals.{status_of, reports_read_failed}, declared.refusal.Refusal.Refusal}
use Rattle.program.specs.declared.refusal.Refusal.TheVariants as refusal

-- what holds of a cause's refusal holds of the answer
pub refused : {X E : Type 0} (P : E → Type 0) (r : Result X E) (f : E) → IsErrAnd r (λ h. h ≡ f) → P f → IfErr r P
refused P (Ok x) f is h = absurd is
refused P (Err g) f is h = subst P (sym is) h

-- what always holds holds of a refusal
pub always : {X E : Type 0} (P : Type 0) (r : Result X E) → P → IfErr r (λ _. P)
always P (Ok x) h = tt
always P (Err e) h = h

-- no refusal that programs share has status 1
pub not_one : (cause : Refusal) → status_of cause ≡ 1 → ⊥
not_one refusal.OutOfMemory one = omega arith
not_one (refusal.BadSettings bad) one = omega arith
not_one (refusal.BadScripts n) one = omega arith
not_one (refusal.BadSchedule n) one = omega arith
not_one (refusal.BadRecord n) one = omega arith
not_one refusal.ReadFailed one = omega arith
not_one refusal.WriteFailed one = omega arith
not_one refusal.BadWords one = omega arith

-- a status below 3 says that no read failed
pub none_failed : (cause : Refusal) (status old new : ℕ) → status ≡ status_of cause → new ≡ counted (reports_read_failed cause) old → status ≤ 2 → new ≡ old
none_failed refusal.OutOfMemory status old new is count few = count
none_failed (refusal.BadSettings bad) status old new is count few = count
none_failed (refusal.BadScripts n) status old new is count few = count
none_failed (refusal.BadSchedule n) status old new is count few = count
none_failed (refusal.BadRecord n) status old new is count few = count
none_failed refusal.ReadFailed status old new is count few = absurd (omega (arith, is, few))
none_failed refusal.WriteFailed status old new is count few = count
none_failed refusal.BadWords status old new is count few = count
