-- Answers that aren't that a count was mistold, and counts that are the same.
use Rattle.std.proofs.{Common.{◌≡◌, ℕ, Bool, false, not, List, Result, Ok, Err, sym, subst, ◌∙◌, bytes_eq}, lemmas.Bool.not-false, lemmas.Slice.Eq.bytes_eq-Decides}
use Rattle.auditor.specs.{declared.fault.Fault.Fault, declared.fault.Verdict.Verdict}
use Rattle.judge.specs.{declared.custom_judge.Mistold.Mistold, declared.custom_merge_judge.CustomMergeFault.CustomMergeFault}
use Rattle.sound_run.specs.declared.place.Place.{Place}
use Rattle.judge.specs.declared.custom_merge_judge.CustomMergeFault.TheVariants as fault

-- it is a verdict
abbrev IsVerdictGiven : Result Verdict Mistold → Type 0
IsVerdictGiven (Ok v) = Unit {0}
IsVerdictGiven (Err m) = ⊥

-- a verdict isn't that
pub verdict_isnt : (v : Verdict) (m : Mistold) → ◌≡◌ {A = Result Verdict Mistold} (Ok v) (Err m) → ⊥
verdict_isnt v m e = subst IsVerdictGiven e tt

-- it is another answer of a merge
abbrev IsOther : Result (List Place) CustomMergeFault → Type 0
IsOther (Err (fault.Mistold m)) = ⊥
IsOther (Err fault.OutOfMemory) = Unit {0}
IsOther (Err (fault.Unsound f)) = Unit {0}
IsOther (Err (fault.Cycle c)) = Unit {0}
IsOther (Ok places) = Unit {0}

-- an order isn't that
pub order_isnt : (places : List Place) (m : Mistold) → ◌≡◌ {A = Result (List Place) CustomMergeFault} (Ok places) (Err (fault.Mistold m)) → ⊥
order_isnt places m e = subst IsOther e tt

-- nor is a fault
pub fault_isnt : (f : Fault) (m : Mistold) → ◌≡◌ {A = Result (List Place) CustomMergeFault} (Err (fault.Unsound f)) (Err (fault.Mistold m)) → ⊥
fault_isnt f m e = subst IsOther e tt

-- nor is a cycle
pub cycle_isnt : (places : List Place) (m : Mistold) → ◌≡◌ {A = Result (List Place) CustomMergeFault} (Err (fault.Cycle places)) (Err (fault.Mistold m)) → ⊥
cycle_isnt places m e = subst IsOther e tt

-- counts that don't differ are the same
pub same_counts : (a b : List ℕ) (differ : Bool) → differ ≡ not (bytes_eq a b) → differ ≡ false → a ≡ b
same_counts a b differ is same = (bytes_eq-Decides a b).0 (not-false (bytes_eq a b) (sym is ∙ same))
