-- What a poll or a try does, by what the caller was.
use Rattle.std.specs.{declared.cmp.PartialEq.{Ghosts as Eq}, declared.default.Default.{Ghosts as Default}}
use Rattle.std.proofs.Common.{◌≡◌, sym, subst}
use Rattle.event_log.specs.declared.object.SeqObject.{Ghosts}
use Rattle.sound_run.specs.declared.lock_kind.LockKind.TheVariants.{Ticket}
use Rattle.word_rule.specs.{declared.hold.Hold.Hold, declared.progress.Polled.Polled, declared.progress.Tried.Tried, Passes.{view_of_hold, state_of_hold}, Polls.{IsPolled, IsTried}}
use Rattle.ticket_lock.specs.{declared.caller.TicketCaller.TicketCaller, Callers.state_of_caller}

module _ {O P C R : Type 0} (g : Ghosts O P C R) {call_eq : Eq C} {call_default : Default C} {reply_eq : Eq R} {reply_default : Default R} where
  pub polled_as : (p q : TicketCaller O P C R g call_eq call_default reply_eq reply_default) (r : Polled (Hold O P C R g call_eq call_default reply_eq reply_default) (TicketCaller O P C R g call_eq call_default reply_eq reply_default))
      → p ≡ q → IsPolled g state_of_hold state_of_caller Ticket q r → IsPolled g state_of_hold state_of_caller Ticket p r
  polled_as p q r is polled = subst (λ (z : TicketCaller O P C R g call_eq call_default reply_eq reply_default). IsPolled g state_of_hold state_of_caller Ticket z r) (sym is) polled

  pub tried_as : (p q : TicketCaller O P C R g call_eq call_default reply_eq reply_default) (r : Tried (Hold O P C R g call_eq call_default reply_eq reply_default) (TicketCaller O P C R g call_eq call_default reply_eq reply_default))
      → p ≡ q → IsTried g state_of_hold state_of_caller view_of_hold q r → IsTried g state_of_hold state_of_caller view_of_hold p r
  tried_as p q r is tried = subst (λ (z : TicketCaller O P C R g call_eq call_default reply_eq reply_default). IsTried g state_of_hold state_of_caller view_of_hold z r) (sym is) tried
