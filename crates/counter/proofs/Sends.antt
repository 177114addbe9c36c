-- A pass of a cell around a counter may go to another thread.
use denote.{Param.Send.{IsSend, sendable}, Plain.UInt}
use mir.Syntax.{w32}
use Rattle.event_log.specs.declared.object.SeqObject.{Ghosts}
use Rattle.std.specs.{declared.cmp.PartialEq.{Ghosts as Compares}, declared.default.Default.{Ghosts as Defaults}}
use Rattle.counter.proofs.{counter.BoundedCounter.TheSendSync.{the_send as counter_send}, call.CounterCall.TheSendSync.{the_send as call_send}, call.CounterReply.TheSendSync.{the_send as reply_send}}
use Rattle.word_rule.proofs.Sends.{pass_send}
use Rattle.counter.specs.contracts.counter.BoundedCounter as Counter
use Rattle.counter.specs.contracts.call.CounterCall as Call
use Rattle.counter.specs.contracts.call.CounterReply as Reply
use Rattle.word_rule.specs.contracts.pass.Pass as Pass

module _ (g : Ghosts Counter.the_row.Denot (UInt w32).Denot Call.the_row.Denot Reply.the_row.Denot) where
  pub counter_pass_send : (ce : Compares Call.the_row.Denot) (cd : Defaults Call.the_row.Denot)
      (re : Compares Reply.the_row.Denot) (rd : Defaults Reply.the_row.Denot)
      → IsSend (Pass.the_row Counter.the_row (UInt w32) Call.the_row Reply.the_row g ce cd re rd)
  counter_pass_send ce cd re rd =
      pass_send Counter.the_row (UInt w32) Call.the_row Reply.the_row g ce cd re rd
      counter_send (search sendable) call_send reply_send
