-- A call under a hold.
use Rattle.std.specs.{declared.cmp.PartialEq.{Ghosts as Eq}, declared.default.Default.{Ghosts as Default}, Prelude.{◌≡◌, List, length, Result, Ok, Err}}
use Rattle.event_log.specs.{declared.object.SeqObject.Ghosts, declared.logged.NoRoom.NoRoom, History.with_event, declared.event.Steps.Steps, Log.{answers, one_step}}
use Rattle.word_rule.specs.{Cell.after_steps, declared.hold.Hold.Hold, Passes.{view_of_hold, run_of_hold}}

module _ {O P C R : Type 0} (g : Ghosts O P C R) {call_eq : Eq C} {call_default : Default C} {reply_eq : Eq R} {reply_default : Default R} where
  -- the call was done as one event of the CPU, the last of the log, and was answered as the object answers there
  pub record HasApplied (h : Hold O P C R g call_eq call_default reply_eq reply_default) (call : C) (said : R) (k : Hold O P C R g call_eq call_default reply_eq reply_default) : Type 0 where
    pub caller : (view_of_hold k).caller ≡ (view_of_hold h).caller
    pub reply : said ≡ (g.answer (view_of_hold h).history.state call).1
    pub after : (view_of_hold k).history ≡ with_event (view_of_hold h).history (record { cpu = (view_of_hold h).caller.acting; steps = one_step call said }) (g.answer (view_of_hold h).history.state call).0
    pub run : run_of_hold k ≡ run_of_hold h

  -- the log is full, and nothing was done
  pub record WasFull (h k : Hold O P C R g call_eq call_default reply_eq reply_default) : Type 0 where
    pub full : length (view_of_hold h).history.log ≡ (view_of_hold h).history.limit
    pub same : view_of_hold k ≡ view_of_hold h
    pub run : run_of_hold k ≡ run_of_hold h

  -- the answer under a hold
  abbrev pub IsHeldApply : Hold O P C R g call_eq call_default reply_eq reply_default → C → Result R NoRoom → Hold O P C R g call_eq call_default reply_eq reply_default → Type 0
  IsHeldApply h call (Ok reply) k = HasApplied h call reply k
  IsHeldApply h call (Err full) k = WasFull h k

  -- one event of the CPU, the last of the log, has the calls up to and with the first refused, answered as the object answers there
  pub record HasAppliedAll (h : Hold O P C R g call_eq call_default reply_eq reply_default) (calls : List C) (done : Steps O P C R) (k : Hold O P C R g call_eq call_default reply_eq reply_default) : Type 0 where
    pub caller : (view_of_hold k).caller ≡ (view_of_hold h).caller
    pub steps : done.list.items ≡ answers g (view_of_hold h).history.state calls
    pub after : (view_of_hold k).history ≡ after_steps g (view_of_hold h) done
    pub run : run_of_hold k ≡ run_of_hold h

  abbrev pub IsHeldBatch : Hold O P C R g call_eq call_default reply_eq reply_default → List C → Result (Steps O P C R) NoRoom → Hold O P C R g call_eq call_default reply_eq reply_default → Type 0
  IsHeldBatch h calls (Ok done) k = HasAppliedAll h calls done k
  IsHeldBatch h calls (Err full) k = WasFull h k
