-- What is found of a run once all of it was received.
use Rattle.std.proofs.Common.{◌≡◌, ℕ, zero, suc, List, [], ◌∷◌, length, map, Option, Some, slice_get, refl, sym, ap, subst, arith}
use Rattle.std.specs.Prelude.{◌↔◌, slice_index}
use Rattle.event_log.specs.{declared.event.Event.Event, declared.entry.Run.Run}
use Rattle.event_log.proofs.Lists.{some_at}
use Rattle.auditor.specs.{declared.fault.Fault.Fault, declared.fault.Verdict.Verdict, declared.kept_log.KeptLog.KeptLog, declared.replay.Replay.Replay, ReceivedRun.{ReceivedRun, run_of}, KeptLogs.events_in, JudgeStates.IsRightWith, Passes.{IsRunOver, AreEnds, IsEnd, AreTaken, IsFirstLeft}, SoFar.{HasLogs, IsWith, IsFound}, ByModels.SoundBy, Faults.{IsFaultBy, IsFirstFaultBy}, NoFaults.HasNoFaultBy, StepModels.StepModel, Terms.{Terms, opened_list}}
use Rattle.auditor.proofs.{GoingOn.with_itself, LeftEvents.{first_unclaimed, none_left}}
use Rattle.auditor.specs.declared.fault.Fault.TheVariants as fault
use Rattle.auditor.specs.declared.fault.Verdict.TheVariants as verdict

module _ {X Y : Type 0} (f : X → Y) where
  same_map : (xs : List X) (ys : List Y) → length xs ≡ length ys → ((i : ℕ) (x : X) → slice_get xs i ≡ Some x → slice_get ys i ≡ Some (f x)) → map f xs ≡ ys
  same_map [] [] n h = refl
  same_map [] (y ∷ ys) n h = absurd (omega (arith, n))
  same_map (x ∷ xs) [] n h = absurd (omega (arith, n))
  same_map (x ∷ xs) (y ∷ ys) n h =
      let e = h 0 x refl in
      let head : f x ≡ y = cc in
      λ j. head j ∷ same_map xs ys (omega (arith, n)) (λ i. h (suc i)) j

-- a number of each value, at a place
pub index_map : {X : Type 0} (f : X → ℕ) (xs : List X) (i : ℕ) (x : X) → slice_get xs i ≡ Some x → slice_index (map f xs) i ≡ f x
index_map f [] i x e = cc
index_map f (y ∷ ys) zero x e = let same : y ≡ x = cc in ap f same
index_map f (y ∷ ys) (suc i) x e = index_map f ys i x e

-- the logs that were kept are those that were received
pub kept_are : {T O P C R J W : Type 0} (model : StepModel T O P C R) (shows : J → T) (d : ReceivedRun T O P C R) (replay : Option (Replay O J W P C R T)) (logs : List (KeptLog O W P C R)) (room : ℕ) → IsRightWith model shows d replay logs room → events_in logs ≡ d.logs
kept_are model shows d replay logs room all = same_map (λ (l : KeptLog _ _ _ _ _). l.log) logs d.logs all.logs.count (λ x l at. (all.logs.each x l at).log)

module _ {T O P C R J W : Type 0} (model : StepModel T O P C R) (shows : J → T) (d : ReceivedRun T O P C R) (replay : Option (Replay O J W P C R T)) (logs : List (KeptLog O W P C R)) (room : ℕ) (all : IsRightWith model shows d replay logs room) (whole : HasLogs d) (cpus : length d.transcripts ≡ d.cpus) (idle : d.entries ≡ [])
    (given : IsRunOver d.opened (run_of d)) where
  itself : IsWith d d.opened (run_of d)
  itself = with_itself d whole cpus idle given

  same_logs : map (λ (l : KeptLog O W P C R). l.log) logs ≡ d.logs
  same_logs = kept_are model shows d replay logs room all

  are : AreEnds model.meaning (opened_list d.opened) (run_of d) (length d.transcripts) (map (λ (l : KeptLog O W P C R). l.end) logs)
  are x lt =
      let l = some_at logs x (let n = all.logs.count in omega (arith, lt, n)) in
      subst (λ (e : ℕ). IsEnd model.meaning (opened_list d.opened) (run_of d) (length d.transcripts) x e) (sym (index_map (λ (k : KeptLog O W P C R). k.end) logs x l.0 l.1)) ((all.logs.each x l.0 l.1).end d.opened (run_of d) itself)

  pub all_taken : AreTaken (map (λ (l : KeptLog O W P C R). l.log) logs) (map (λ (l : KeptLog O W P C R). l.end) logs) (length logs) → HasNoFaultBy model d.opened (run_of d)
  all_taken taken =
      let here : AreTaken d.logs (map (λ (l : KeptLog O W P C R). l.end) logs) (length d.logs) = subst (λ (z : List (List (Event O P C R)) × ℕ). AreTaken z.0 (map (λ (l : KeptLog O W P C R). l.end) logs) z.1) (λ j. (same_logs j, all.logs.count j)) taken in
      none_left model d.opened (run_of d) given (all.right.logs d.opened (run_of d) itself) (all.right.transcripts d.opened (run_of d) itself) (map (λ (l : KeptLog O W P C R). l.end) logs) are here

  pub one_left : (x e : ℕ) → IsFirstLeft (map (λ (l : KeptLog O W P C R). l.log) logs) (map (λ (l : KeptLog O W P C R). l.end) logs) x e → IsFirstFaultBy model d.opened (run_of d) (fault.Unclaimed x e)
  one_left x e left =
      let here : IsFirstLeft d.logs (map (λ (l : KeptLog O W P C R). l.end) logs) x e = subst (λ (z : List (List (Event O P C R))). IsFirstLeft z (map (λ (l : KeptLog O W P C R). l.end) logs) x e) same_logs left in
      first_unclaimed model d.opened (run_of d) given (all.right.logs d.opened (run_of d) itself) (all.right.transcripts d.opened (run_of d) itself) (map (λ (l : KeptLog O W P C R). l.end) logs) are x e here

module _ {T O P C R : Type 0} (model : StepModel T O P C R) (objects : List (Terms P T)) (run : Run O P C R) (none : SoundBy model objects run → (f : Fault) → IsFaultBy model objects run f → ⊥) (one : (f g : Fault) → IsFirstFaultBy model objects run f → IsFirstFaultBy model objects run g → f ≡ g) where
  -- what is found is exact
  pub sound_exactly : (v : Verdict) → IsFound model objects run v → (v ≡ verdict.Sound) ↔ SoundBy model objects run
  sound_exactly verdict.Sound found = ((λ e. found), (λ s. refl))
  sound_exactly (verdict.Unsound f) found = ((λ e. absurd (cc)), (λ s. absurd (none s f found.there)))

  pub fault_exactly : (f : Fault) (v : Verdict) → IsFound model objects run v → (v ≡ verdict.Unsound f) ↔ IsFirstFaultBy model objects run f
  fault_exactly f verdict.Sound found = ((λ e. absurd (cc)), (λ k. absurd (none found f k.there)))
  fault_exactly f (verdict.Unsound g) found = ((λ e. let same : g ≡ f = cc in subst (λ (h : Fault). IsFirstFaultBy model objects run h) same found), (λ k. ap (λ (h : Fault). verdict.Unsound h) (one g f found k)))
