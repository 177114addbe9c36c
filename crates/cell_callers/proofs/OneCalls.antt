-- One call over all its returns: its steps are those of one hold, and the caller sees its answer.
use Rattle.std.specs.{declared.cmp.PartialEq.{Ghosts as Eq}, declared.default.Default.{Ghosts as Default}}
use Rattle.std.proofs.Common.{◌≡◌, ℕ, zero, suc, ◌+◌, ◌-◌, ◌^◌, min, Bool, true, false, true≢false, List, [], ◌∷◌, ◌++◌, refl, sym, ap, ◌∙◌, subst, arith, append-nil, inl, inr, ⊎_elim, Option, Some, None, Result, Ok, Err, IfOk, OnErr}
use Rattle.event_log.specs.{declared.object.SeqObject.Ghosts, declared.event.Event.Event, declared.event.Steps.Steps, declared.logged.NoRoom.NoRoom, History.{History, with_event}, Log.{Fulfils, one_step}}
use Rattle.event_log.proofs.Batches.{answers_fulfil}
use Rattle.sound_run.specs.declared.lock_kind.LockKind.{LockKind}
use Rattle.sound_run.proofs.Slices.{one_of}
use Rattle.word_rule.specs.{declared.hold.Hold.Hold, declared.machine.step_done.StepDone.StepDone, declared.lock_kind.Stage.{Stage, TheVariants.{Idle, Ticket, Mcs, Trying}}, declared.lock_kind.McsStage.TheVariants.Ready, declared.progress.Progress.Progress, declared.view.TraceStep.TraceStep}
use Rattle.word_rule.specs.{Answered.{IsAnswered, IsRefused}, Cell.{HoldView, PassView, Grows, IsPassView, stored}, CallerState.{CallerState, Moves, Takes, Gives}, Locks.holding, LockRuns.events_in, OneHold.{gets_object, how_many, HasAcquired, HasReleased, HasHeld, HasHeldAtOnce}}
use Rattle.word_rule.specs.{Passes.{view_of_hold, run_of_hold, state_of_hold}, Polls.{GoesThere, GoesBack, IsStepThere, IsStepBack, IsRelease, got_by, idle_at, is_idle}, StepKinds.{arrives, ends_hold, is_look}}
use Rattle.word_rule.proofs.{OneHolds.{count_append, Since, since_moved, acquired_at_once, HeldSince, held_moved, held_given, held_once}, RunLists.extends_self, Lists.{grows_self, grows_then}, WholeCalls.{answered, refused}}
use Rattle.guarded_cell.specs.{declared.cell.AnyCell.AnyCell, declared.any_caller.AnyCaller.AnyCaller, AnyCallers.state_of_caller, Held.{HasCalled, HasBatched, left_by_call}, Kinds.kind_of}
use Rattle.cell_callers.specs.{Applies.{IsHeldApply, IsHeldBatch, WasFull}, OneCalls.{looks_of, LooksInVain, ReleasesLater}, Wholes.{HasCalledWhole, HasTriedCall}}
use Rattle.sound_run.specs.declared.lock_kind.LockKind.TheVariants as kinds
use Rattle.word_rule.specs.declared.machine.step_done.StepDone.TheVariants as steps
use Rattle.word_rule.specs.declared.progress.Progress.TheVariants as reported

-- how often a caller has joined the line that stands there on its way to the object
abbrev joined : Stage → ℕ
joined Idle = 0
joined (Mcs Ready) = 0
joined q = 1

counted : (test : StepDone → Bool) (done : List StepDone) (s : StepDone) (n : ℕ) → how_many test done ≡ n → how_many test (done ++ s ∷ []) ≡ n + how_many test (s ∷ [])
counted test done s n is = count_append test done (s ∷ []) ∙ ap (λ (z : ℕ). z + how_many test (s ∷ [])) is

no_more : (n : ℕ) → n + 0 ≡ n
no_more n = omega arith

-- what the caller has done since its first state: it looked so often, and hasn't got the object
record Came {O P C R : Type 0} (first : CallerState O P C R) (n : ℕ) (a : CallerState O P C R) : Type 0 where
  done : List StepDone
  since : Since first.caller first.run done a
  grown : Grows first.caller.owned first.seen a.seen
  arrived : how_many arrives done ≡ joined a.stage
  got : how_many gets_object done ≡ 0
  unended : how_many ends_hold done ≡ 0
  looked : how_many is_look done ≡ n

-- it has got the object x, with so many looks
abbrev Got : {O P C R : Type 0} → CallerState O P C R → ℕ → History O P C R → CallerState O P C R → Type 0
Got first looks x b = HasAcquired first.caller first.run looks x.log b.run × (b.caller ≡ first.caller) × Grows first.caller.owned first.seen x.log

-- what it has done since it has the object: none of it is a look, an arrival or an end
record Held {O P C R : Type 0} (hold : HoldView O P C R) (before : List (TraceStep (Event O P C R))) (a : CallerState O P C R) : Type 0 where
  done : List StepDone
  since : HeldSince hold before done a
  unended : how_many ends_hold done ≡ 0
  stays : how_many arrives done ≡ 0
  blind : how_many is_look done ≡ 0

-- it has given the object back, and has seen the log that it left
abbrev Released : {O P C R : Type 0} → HoldView O P C R → List (TraceStep (Event O P C R)) → CallerState O P C R → Type 0
Released hold before b = HasReleased hold before b.run × (b.caller ≡ hold.caller) × (b.seen ≡ hold.history.log)

-- what it has seen, and what it sees of an answer
abbrev seen_at : {O P C R : Type 0} → CallerState O P C R → PassView O P C R
seen_at a = record { caller = a.caller; seen = a.seen }

abbrev Sees : {O P C R A : Type 0} → Ghosts O P C R → (A → Steps O P C R) → List C → Result A NoRoom → CallerState O P C R → CallerState O P C R → Type 0
Sees g by asked said first last = IfOk said (λ r. IsAnswered g (seen_at first) asked (by r) (seen_at last)) × OnErr said (IsRefused g (seen_at first) (seen_at last))

module _ {O P C R : Type 0} (g : Ghosts O P C R) (first : CallerState O P C R) where
  start : is_idle first ≡ true → Came first 0 first
  start idle = record { done = []; since = (refl, extends_self first.caller.owned first.run); grown = grows_self first.caller.owned first.seen; arrived = sym (outside first.has first.stage idle); got = refl; unended = refl; looked = refl }
    where
      outside : (has : Option (History O P C R)) (q : Stage) → idle_at has q ≡ true → joined q ≡ 0
      outside None Idle is = refl
      outside None (Ticket q) is = absurd (true≢false (sym is))
      outside None (Mcs q) is = absurd (true≢false (sym is))
      outside None Trying is = absurd (true≢false (sym is))
      outside (Some x) q is = absurd (true≢false (sym is))

  grown_more : (n : ℕ) (a b : CallerState O P C R) → Came first n a → Grows a.caller.owned a.seen b.seen → Grows first.caller.owned first.seen b.seen
  grown_more n a b came grows = grows_then first.caller.owned first.seen a.seen b.seen came.grown (subst (λ c. Grows c.owned a.seen b.seen) came.since.0 grows)

  -- a step that doesn't get the object, and one that gets it
  came_more : (n more : ℕ) (p q : Stage) (s : StepDone) (a b : CallerState O P C R) → Moves g p q (s ∷ []) a b → 0 + how_many gets_object (s ∷ []) ≡ 0 → 0 + how_many ends_hold (s ∷ []) ≡ 0 → joined p + how_many arrives (s ∷ []) ≡ joined q → n + how_many is_look (s ∷ []) ≡ more
      → Came first n a → Came first more b
  came_more n more p q s a b m got unended joins looks came = record {
    done = came.done ++ s ∷ [];
    since = since_moved g first.caller first.run came.done (s ∷ []) p q a b came.since m;
    grown = grown_more n a b came m.grows;
    arrived = counted arrives came.done s (joined a.stage) came.arrived ∙ (ap (λ z. joined z + how_many arrives (s ∷ [])) m.from ∙ (joins ∙ sym (ap joined m.to)));
    got = counted gets_object came.done s 0 came.got ∙ got;
    unended = counted ends_hold came.done s 0 came.unended ∙ unended;
    looked = counted is_look came.done s n came.looked ∙ looks;
  }

  came_got : (n : ℕ) (x : History O P C R) (p q : Stage) (s : StepDone) (a b : CallerState O P C R) → Takes g p q (s ∷ []) a b → gets_object s ≡ true → 0 + how_many gets_object (s ∷ []) ≡ 1 → 0 + how_many ends_hold (s ∷ []) ≡ 0 → joined p + how_many arrives (s ∷ []) ≡ 1
      → b.has ≡ Some x → b.seen ≡ b.caller.cell.opening ++ events_in b.run → Came first n a → Got first (min (n + how_many is_look (s ∷ [])) (2 ^ 64 - 1)) x b
  came_got n x p q s a b t gets got unended joins has left came = (
    acquired_at_once g first.caller first.run (min (n + how_many is_look (s ∷ [])) (2 ^ 64 - 1)) x came.done (s ∷ []) p q a b
        record {
          before = came.done;
          last = s;
          is = refl;
          got = gets;
          once = counted gets_object came.done s 0 came.got ∙ got;
          arrived = counted arrives came.done s (joined a.stage) came.arrived ∙ (ap (λ z. joined z + how_many arrives (s ∷ [])) t.from ∙ joins);
          unended = counted ends_hold came.done s 0 came.unended ∙ unended;
        } (ap (λ (z : ℕ). min z (2 ^ 64 - 1)) (sym (counted is_look came.done s n came.looked))) came.since t has left,
    t.caller ∙ came.since.0,
    subst (Grows first.caller.owned first.seen) (sym (ap (λ z. z.log) (one_of x (stored g a.caller.cell b.seen) b.has has t.has))) (grown_more n a b came t.grows),
  )

  -- a step of the lock that looks at nothing, one that looks in vain, and one that gets the object
  one_stepped : (k : LockKind) (n : ℕ) (a b : CallerState O P C R) → IsStepThere g k reported.Stepped a b → Came first n a → Came first n b
  one_stepped kinds.Ticket n a b s came = came_more n n _ _ steps.Draw a b s.1 refl refl refl (no_more n) came
  one_stepped kinds.Mcs n a b s came = elim s [
    | inl y ↦ came_more n n _ _ steps.Clear a b y refl refl refl (no_more n) came
    | inr r ↦ elim r [ inl y ↦ came_more n n _ _ (steps.Enter false) a b y.2.made refl refl refl (no_more n) came | inr l ↦ elim l [ inl y ↦ came_more n n _ _ steps.Arm a b y.2 refl refl refl (no_more n) came | inr y ↦ came_more n n _ _ steps.Link a b y.2 refl refl refl (no_more n) came ] ]
  ]

  one_vain : (k : LockKind) (n : ℕ) (a b : CallerState O P C R) → IsStepThere g k reported.Looked a b → Came first n a → Came first (n + 1) b
  one_vain kinds.Ticket n a b s came = came_more n (n + 1) _ _ (steps.Look false) a b s.1.made refl refl refl refl came
  one_vain kinds.Mcs n a b s came = came_more n (n + 1) _ _ (steps.Look false) a b s.made refl refl refl refl came

  one_got : (k : LockKind) (looked : Bool) (n : ℕ) (x : History O P C R) (a b : CallerState O P C R) → IsStepThere g k (got_by looked) a b → b.has ≡ Some x → b.seen ≡ b.caller.cell.opening ++ events_in b.run → Came first n a → Got first (looks_of n looked) x b
  one_got kinds.Ticket true n x a b s has left came = came_got n x _ _ (steps.Look true) a b s.1 refl refl refl refl has left came
  one_got kinds.Ticket false n x a b s has left came = absurd s
  one_got kinds.Mcs true n x a b s has left came = came_got n x _ _ (steps.Look true) a b s refl refl refl refl has left came
  one_got kinds.Mcs false n x a b s has left came = subst (λ (z : ℕ). Got first (min z (2 ^ 64 - 1)) x b) (no_more n) (came_got n x _ _ (steps.Enter true) a b s refl refl refl refl has left came)

  -- up to the last of these steps
  goes_there : {S : Type 0} (state_of : S → CallerState O P C R) (k : LockKind) (n : ℕ) (a : CallerState O P C R) (j : ℕ) (t : Progress) (b : CallerState O P C R) → GoesThere g state_of k a j t b → Came first n a → (z : CallerState O P C R) × IsStepThere g k t z b × Came first n z
  goes_there state_of k n a zero t b gone came = (a, gone, came)
  goes_there state_of k n a (suc j) t b gone came = goes_there state_of k n (state_of gone.0) j t b gone.2 (one_stepped k n a (state_of gone.0) gone.1 came)

module _ {O P C R : Type 0} (g : Ghosts O P C R) (hold : HoldView O P C R) (before : List (TraceStep (Event O P C R))) where
  held_more : (p q : Stage) (s : StepDone) (a b : CallerState O P C R) → Moves g p q (s ∷ []) a b → holding p ≡ true → 0 + how_many ends_hold (s ∷ []) ≡ 0 → 0 + how_many arrives (s ∷ []) ≡ 0 → 0 + how_many is_look (s ∷ []) ≡ 0 → Held hold before a → Held hold before b
  held_more p q s a b m holds unended stays blind h = record {
    done = h.done ++ s ∷ [];
    since = held_moved g hold before h.done (s ∷ []) p q a b h.since m holds;
    unended = counted ends_hold h.done s 0 h.unended ∙ unended;
    stays = counted arrives h.done s 0 h.stays ∙ stays;
    blind = counted is_look h.done s 0 h.blind ∙ blind;
  }

  held_end : (p q : Stage) (s : StepDone) (a b : CallerState O P C R) → Gives g p q s a b → ends_hold s ≡ true → 0 + how_many arrives (s ∷ []) ≡ 0 → 0 + how_many is_look (s ∷ []) ≡ 0 → Held hold before a → Released hold before b
  held_end p q s a b t ends stays blind h = (
    held_given g hold before h.done s p q a b h.since record { ended = ends; unended = h.unended; stays = counted arrives h.done s 0 h.stays ∙ stays; blind = counted is_look h.done s 0 h.blind ∙ blind } t,
    t.caller ∙ h.since.since.0,
    sym (ap (λ z. z.log) (one_of hold.history (stored g a.caller.cell b.seen) a.has h.since.has t.had)),
  )

  -- a step towards the release, one that looks in vain for the successor, and the one that releases the lock
  back_stepped : (k : LockKind) (a b : CallerState O P C R) → IsStepBack g k reported.Stepped a b → Held hold before a → Held hold before b
  back_stepped kinds.Ticket a b s h = absurd s
  back_stepped kinds.Mcs a b s h = elim s [
    | inl r ↦ elim r [ inl y ↦ held_more _ _ (steps.See true) a b y.2.made refl refl refl refl h | inr y ↦ held_more _ _ (steps.See false) a b y refl refl refl refl h ]
    | inr r ↦ elim r [ inl y ↦ held_more _ _ (steps.Empty false) a b y.made refl refl refl refl h | inr y ↦ held_more _ _ (steps.See true) a b y.2.made refl refl refl refl h ]
  ]

  back_vain : (k : LockKind) (a b : CallerState O P C R) → IsStepBack g k reported.Looked a b → Held hold before a → Held hold before b
  back_vain kinds.Ticket a b s h = absurd s
  back_vain kinds.Mcs a b s h = held_more _ _ (steps.See false) a b s.made refl refl refl refl h

  back_left : (k : LockKind) (a b : CallerState O P C R) → IsStepBack g k reported.Left a b → Held hold before a → Released hold before b
  back_left kinds.Ticket a b s h = held_end _ _ steps.Serve a b s.1 refl refl refl h
  back_left kinds.Mcs a b s h = elim s [ inl y ↦ held_end _ _ (steps.Empty true) a b y refl refl refl h | inr y ↦ held_end _ _ steps.Pass a b y.2 refl refl refl h ]

  -- up to the last of these steps
  goes_back : {S : Type 0} (state_of : S → CallerState O P C R) (k : LockKind) (a : CallerState O P C R) (j : ℕ) (t : Progress) (b : CallerState O P C R) → GoesBack g state_of k a j t b → Held hold before a → (z : CallerState O P C R) × IsStepBack g k t z b × Held hold before z
  goes_back state_of k a zero t b gone h = (a, gone, h)
  goes_back state_of k a (suc j) t b gone h = goes_back state_of k (state_of gone.0) j t b gone.2 (back_stepped k a (state_of gone.0) gone.1 h)

module _ {O P C R : Type 0} (g : Ghosts O P C R) (call_eq : Eq C) (call_default : Default C) (reply_eq : Eq R) (reply_default : Default R) where
  abbrev TheHold : Type 0
  TheHold = Hold O P C R g call_eq call_default reply_eq reply_default

  abbrev TheCaller : Type 0
  TheCaller = AnyCaller O P C R g call_eq call_default reply_eq reply_default

  abbrev state : TheCaller → CallerState O P C R
  state = state_of_caller

  -- the caller held the lock once, with so many looks: it came to h, and after the call gave k back
  record IsOnce (first last : CallerState O P C R) (looks : ℕ) (h k : TheHold) : Type 0 where
    got : Got first looks (view_of_hold h).history (state_of_hold h)
    gone : Released (view_of_hold k) (run_of_hold k) last

  -- the release is at its end, or later steps end it
  abbrev Ends : AnyCell O P C R → Bool → TheCaller → TheCaller → Type 0
  Ends c true q last = last ≡ q
  Ends c false q last = (later : ℕ) × ReleasesLater g c q later last

  -- so many returns that say that it waits
  looks_vain : (f : CallerState O P C R) (c : AnyCell O P C R) (p : TheCaller) (call : C) (j : ℕ) (q : TheCaller) (n : ℕ) → LooksInVain g c p call j q → Came f n (state p) → Came f (n + j) (state q)
  looks_vain f c p call zero q n same came = subst (λ (z : ℕ). Came f z (state q)) (sym (no_more n)) (subst (λ z. Came f n (state z)) (sym same) came)
  looks_vain f c p call (suc j) q n vain came =
      let e = goes_there g f state (kind_of c) n (state p) vain.1.0 reported.Looked (state vain.0) vain.1.1 came in
      subst (λ (z : ℕ). Came f z (state q)) (omega arith) (looks_vain f c vain.0 call j q (n + 1) vain.2 (one_vain g f (kind_of c) n e.0 (state vain.0) e.1 e.2))

  -- the rest of a release
  releases : (hold : HoldView O P C R) (before : List (TraceStep (Event O P C R))) (c : AnyCell O P C R) (p : TheCaller) (j : ℕ) (q : TheCaller) → ReleasesLater g c p j q → Held hold before (state p) → Released hold before (state q)
  releases hold before c p zero q gone h = back_left g hold before (kind_of c) (state p) (state q) gone h
  releases hold before c p (suc j) q gone h = releases hold before c gone.0 j q gone.2 (⊎_elim (λ s. back_stepped g hold before (kind_of c) (state p) (state gone.0) s h) (λ s. back_vain g hold before (kind_of c) (state p) (state gone.0) s h) gone.1)

  held_now : (k : TheHold) → Held (view_of_hold k) (run_of_hold k) (state_of_hold k)
  held_now k = record { done = []; since = record { since = (refl, extends_self (view_of_hold k).caller.owned (run_of_hold k)); seen = k.holds.ran.left; has = refl }; unended = refl; stays = refl; blind = refl }

  goes_home : (is_back : Bool) (c : AnyCell O P C R) (k : TheHold) (q last : TheCaller) → IsRelease g state (kind_of c) (state_of_hold k) is_back (state q) → Ends c is_back q last → Released (view_of_hold k) (run_of_hold k) (state last)
  goes_home true c k q last r same =
      let e = goes_back g (view_of_hold k) (run_of_hold k) state (kind_of c) (state_of_hold k) r.0 reported.Left (state q) r.1 (held_now k) in
      subst (λ z. Released (view_of_hold k) (run_of_hold k) (state z)) (sym same) (back_left g (view_of_hold k) (run_of_hold k) (kind_of c) e.0 (state q) e.1 e.2)
  goes_home false c k q last r more =
      let e = goes_back g (view_of_hold k) (run_of_hold k) state (kind_of c) (state_of_hold k) r.0 reported.Stepped (state q) r.1 (held_now k) in
      releases (view_of_hold k) (run_of_hold k) c q more.0 last more.1 (back_stepped g (view_of_hold k) (run_of_hold k) (kind_of c) e.0 (state q) e.1 e.2)

  module _ (first last : CallerState O P C R) (looks : ℕ) (h k : TheHold) (once : IsOnce first last looks h k) where
    leaves : (events : List (Event O P C R)) → (view_of_hold k).caller ≡ (view_of_hold h).caller → run_of_hold k ≡ run_of_hold h → (view_of_hold k).history.log ≡ (view_of_hold h).history.log ++ events → HasHeld first.caller first.run looks events last.run
    leaves events same still longer = held_once first.caller first.run looks (view_of_hold h) (view_of_hold k) (run_of_hold h) (run_of_hold k) last.run events once.got.0 once.got.1 same still longer once.gone.0

    lawful : IsPassView g (seen_at last)
    lawful = subst (IsPassView g) (λ i. record { caller = sym once.gone.1 i; seen = sym once.gone.2 i }) record { caller = k.holds.hold_view.caller; valid = k.holds.hold_view.valid }

    -- one event was done, and nothing as the log was full
    ended : (asked : List C) (s : Steps O P C R) (next : O) → Fulfils g asked s.list.items → (view_of_hold k).caller ≡ (view_of_hold h).caller → run_of_hold k ≡ run_of_hold h → (view_of_hold k).history ≡ with_event (view_of_hold h).history (record { cpu = (view_of_hold h).caller.acting; steps = s }) next
        → HasHeld first.caller first.run looks (record { cpu = first.caller.acting; steps = s } ∷ []) last.run × IsAnswered g (seen_at first) asked s (seen_at last)
    ended asked s next fulfils same still is = (
      leaves (record { cpu = first.caller.acting; steps = s } ∷ []) same still (ap (λ z. z.log) is ∙ ap (λ c. (view_of_hold h).history.log ++ record { cpu = c.acting; steps = s } ∷ []) once.got.1),
      answered g (seen_at first) (seen_at last) (view_of_hold h) (view_of_hold k) h.holds.hold_view once.got.1 once.got.2 same once.gone.1 once.gone.2 lawful asked s next fulfils is,
    )

    was_full : WasFull g h k → HasHeld first.caller first.run looks [] last.run × IsRefused g (seen_at first) (seen_at last)
    was_full is =
        let same = ap (λ z. z.caller) is.same in (
          leaves [] same is.run (ap (λ z. z.history.log) is.same ∙ sym (append-nil (view_of_hold h).history.log)),
          refused g (seen_at first) (seen_at last) (view_of_hold h) (view_of_hold k) h.holds.hold_view once.got.1 once.got.2 same once.gone.1 once.gone.2 lawful is.same is.full,
        )

    by_call : (call : C) (said : Result R NoRoom) → IsHeldApply g h call said k → HasCalled first.caller first.run looks call said last.run × Sees g (one_step call) (call ∷ []) said first last
    by_call call (Ok v) is = let e = ended (call ∷ []) (one_step call v) _ (record { beginning = record { start = refl }; whole = λ _. refl }) is.caller is.run is.after in (e.0, (e.1, tt))
    by_call call (Err e) is = let e = was_full is in (e.0, (tt, e.1))

    by_batch : (calls : List C) (said : Result (Steps O P C R) NoRoom) → IsHeldBatch g h calls said k → HasBatched first.caller first.run looks said last.run × Sees g (λ s. s) calls said first last
    by_batch calls (Ok s) is = let e = ended calls s _ (subst (Fulfils g calls) (sym is.steps) (answers_fulfil g (view_of_hold h).history.state calls)) is.caller is.run is.after in (e.0, (e.1, tt))
    by_batch calls (Err e) is = let e = was_full is in (e.0, (tt, e.1))

  -- a whole call of any kind, and one by a try
  called_once : (deed : TheHold → TheHold → Type 0) (c : AnyCell O P C R) (first last : TheCaller) (call : C) (n : ℕ) (m q : TheCaller) (looked is_back : Bool)
      → is_idle (state first) ≡ true → LooksInVain g c first call n m → (w : HasCalledWhole g deed c m looked is_back q) → Ends c is_back q last → IsOnce (state first) (state last) (looks_of n looked) w.got w.held.left
  called_once deed c first last call n m q looked is_back idle vain w ends =
      let f = state first in
      let came = subst (λ (z : ℕ). Came f z (state m)) (omega arith) (looks_vain f c first call n m 0 vain (start g f idle)) in
      let e = goes_there g f state (kind_of c) n (state m) w.steps (got_by looked) (state_of_hold w.got) w.there came in
      record {
        got = one_got g f (kind_of c) looked n w.got.inside.logged e.0 (state_of_hold w.got) e.1 refl w.got.holds.ran.left e.2;
        gone = goes_home is_back c w.held.left q last w.held.back ends;
      }

  pub one_call : (c : AnyCell O P C R) (first last : TheCaller) (call : C) (n : ℕ) (m q : TheCaller) (said : Result R NoRoom) (looked is_back : Bool) → is_idle (state first) ≡ true → LooksInVain g c first call n m → HasCalledWhole g (λ h k. IsHeldApply g h call said k) c m looked is_back q → Ends c is_back q last
      → HasCalled (state first).caller (state first).run (looks_of n looked) call said (state last).run × Sees g (one_step call) (call ∷ []) said (state first) (state last)
  one_call c first last call n m q said looked is_back idle vain w ends = by_call (state first) (state last) (looks_of n looked) w.got w.held.left (called_once _ c first last call n m q looked is_back idle vain w ends) call said w.held.done

  pub one_batch : (c : AnyCell O P C R) (first last : TheCaller) (call : C) (calls : List C) (n : ℕ) (m q : TheCaller) (said : Result (Steps O P C R) NoRoom) (looked is_back : Bool) → is_idle (state first) ≡ true → LooksInVain g c first call n m → HasCalledWhole g (λ h k. IsHeldBatch g h calls said k) c m looked is_back q → Ends c is_back q last
      → HasBatched (state first).caller (state first).run (looks_of n looked) said (state last).run × Sees g (λ s. s) calls said (state first) (state last)
  one_batch c first last call calls n m q said looked is_back idle vain w ends = by_batch (state first) (state last) (looks_of n looked) w.got w.held.left (called_once _ c first last call n m q looked is_back idle vain w ends) calls said w.held.done

  pub one_try : (c : AnyCell O P C R) (first last : TheCaller) (call : C) (q : TheCaller) (said : Result R NoRoom) (is_back : Bool) → HasTriedCall g (λ h k. IsHeldApply g h call said k) c first is_back q → Ends c is_back q last
      → HasHeldAtOnce (state first).caller (state first).run (left_by_call (state first).caller.acting call said) (state last).run × Sees g (one_step call) (call ∷ []) said (state first) (state last)
  one_try c first last call q said is_back w ends =
      let t = w.there.1 in
      let once : IsOnce (state first) (state last) t.run.0 w.got w.held.left = record { got = (t.run.2, t.caller, t.grows); gone = goes_home is_back c w.held.left q last w.held.back ends } in
      let e = by_call (state first) (state last) t.run.0 w.got w.held.left once call said w.held.done in
      ((t.run.0, t.run.1, e.0), e.1)
