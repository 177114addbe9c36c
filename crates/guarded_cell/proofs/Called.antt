-- What calls leave in the log.
use Rattle.std.proofs.{Common.{◌≡◌, ℕ, ◌+◌, ◌<◌, ◌≤◌, List, [], ◌∷◌, ◌++◌, length, map, take, drop, get_or, refl, sym, ap, ◌∙◌, subst, arith, append_assoc, length-append, Result, Ok, Err, IfOk, OnErr}, lemmas.List.{append-nil, map-append, take_more}}
use Rattle.event_log.specs.{declared.object.SeqObject.Ghosts, declared.event.Event.Event, Log.{Begins, of, calls_of, one_step}, History.History}
use Rattle.event_log.proofs.Beginnings.{begins_self, begins_then, begins_rest}
use Rattle.word_rule.specs.{Cell.{Caller, PassView, Grows, Lawful, IsPassView, IsCaller, stored}, Answered.{IsAnswered, IsRefused}}
use Rattle.guarded_cell.specs.Calls.{asked_by, HasEachCall, IsEnded}

-- a list that is full, and one that begins with it and isn't longer than the limit
pub full_longer : {E : Type 0} (a b : List E) (limit : ℕ) → Begins a b → length a ≡ limit → length b ≤ limit → length b ≡ limit
full_longer a b limit begins full within =
    let total : length b ≡ length a + length (drop (length a) b) = ap length (begins_rest a b begins) ∙ length-append a (drop (length a) b) in
    omega arith

module _ {O P C R : Type 0} where
  -- the calls of an event
  abbrev calls_in : Event O P C R → List C
  calls_in e = calls_of e.steps.list.items

  -- a caller that has called nothing yet
  pub called_nothing : (before : PassView O P C R) → HasEachCall before [] before.seen
  called_nothing before = record { begins = begins_self before.seen; mine = sym (append-nil (asked_by before.caller.acting before.seen)); others = λ k owned apart. refl }

  -- what a caller has called stays where the log grows without it
  pub called_grows : (before : PassView O P C R) (calls : List C) (a b : List (Event O P C R)) → IsCaller before.caller → HasEachCall before calls a → Grows before.caller.owned a b → HasEachCall before calls b
  called_grows before calls a b is h g = record {
    begins = begins_then before.seen a b h.begins g.begins;
    mine = ap (map calls_in) (g.own before.caller.acting is.acts) ∙ h.mine;
    others = λ k owned apart. g.own k owned ∙ h.others k owned apart;
  }

  -- what a caller has called stays where it meets another and joins it
  pub called_met : (before f m : PassView O P C R) (calls : List C) (log : List (Event O P C R)) → IsCaller before.caller → HasEachCall before calls f.seen → f.caller ≡ before.caller → m.caller ≡ f.caller
      → Grows f.caller.owned f.seen m.seen → Grows m.caller.owned m.seen log → HasEachCall before calls log
  called_met before f m calls log is h fc mc g k =
      let meets : Grows before.caller.owned f.seen m.seen = subst (λ (x : Caller O P C R). Grows x.owned f.seen m.seen) fc g in
      let joins : Grows before.caller.owned m.seen log = subst (λ (x : Caller O P C R). Grows x.owned m.seen log) (mc ∙ fc) k in
      called_grows before calls m.seen log is (called_grows before calls f.seen m.seen is h meets) joins

module _ {O P C R : Type 0} (meaning : Ghosts O P C R) where
  -- one call more
  pub called_more : (before mid after : PassView O P C R) (calls : List C) (c : C) (r : R) → mid.caller ≡ before.caller → HasEachCall before calls mid.seen → IsAnswered meaning mid (c ∷ []) (one_step c r) after
      → HasEachCall before (calls ++ c ∷ []) after.seen
  called_more before mid after calls c r same h answer =
      let k : ℕ = before.caller.acting in
      let e : Event O P C R = record { cpu = k; steps = one_step c r } in
      let a : IsAnswered meaning (record { caller = before.caller; seen = mid.seen }) (c ∷ []) (one_step c r) after
      = subst (λ (x : Caller O P C R). IsAnswered meaning (record { caller = x; seen = mid.seen }) (c ∷ []) (one_step c r) after) same answer in
      record {
        begins = begins_then before.seen mid.seen after.seen h.begins a.begins;
        mine = ap (map calls_in) a.mine ∙ (map-append calls_in (of k mid.seen) (e ∷ []) ∙ (ap (λ l. l ++ (c ∷ []) ∷ []) h.mine
            ∙ (append_assoc (asked_by k before.seen) (map (λ x. x ∷ []) calls) ((c ∷ []) ∷ []) ∙ ap (λ l. asked_by k before.seen ++ l) (sym (map-append (λ x. x ∷ []) calls (c ∷ []))))));
        others = λ j owned apart. a.others j owned apart ∙ h.others j owned apart;
      }

  -- the call at the index i was done too
  pub called_next : {X : Type 0} (before mid after : PassView O P C R) (calls : List C) (i : ℕ) (c : C) (reply : Result R X) (r : R) → reply ≡ Ok r → IfOk reply (λ x. IsAnswered meaning mid (c ∷ []) (one_step c x) after)
      → mid.caller ≡ before.caller → i < length calls → c ≡ get_or calls i c → HasEachCall before (take i calls) mid.seen → HasEachCall before (take (i + 1) calls) after.seen
  called_next {X} before mid after calls i c reply r is answered same lt at h =
      let answer : IsAnswered meaning mid (c ∷ []) (one_step c r) after = subst (λ (v : Result R X). IfOk v (λ x. IsAnswered meaning mid (c ∷ []) (one_step c x) after)) is answered in
      let taken : take (i + 1) calls ≡ take i calls ++ c ∷ [] = take_more calls i c lt ∙ ap (λ x. take i calls ++ x ∷ []) (sym at) in
      subst (λ l. HasEachCall before l after.seen) (sym taken) (called_more before mid after (take i calls) c r same h answer)

  -- a call without room adds nothing
  pub called_full : {X : Type 0} (before mid after : PassView O P C R) (calls : List C) (reply : Result R X) (x : X) → reply ≡ Err x → OnErr reply (IsRefused meaning mid after)
      → IsCaller before.caller → mid.caller ≡ before.caller → HasEachCall before calls mid.seen → HasEachCall before calls after.seen
  called_full {X} before mid after calls reply x is refused caller same h =
      let full : IsRefused meaning mid after = subst (λ (v : Result R X). OnErr v (IsRefused meaning mid after)) is refused in
      called_grows before calls mid.seen after.seen caller h (subst (λ (z : Caller O P C R). Grows z.owned mid.seen after.seen) same full.grows)

  -- the caller j that ended the cell, and the cell's history
  module _ (j : PassView O P C R) (h : History O P C R) (part : IsPassView meaning j) (closed : h ≡ stored meaning j.caller.cell j.seen) where
    pub ended : (first second : PassView O P C R) (firsts seconds : List C) → j.caller.cell ≡ first.caller.cell → HasEachCall first firsts j.seen → HasEachCall second seconds j.seen → IsEnded meaning first firsts second seconds h
    ended first second firsts seconds cell a b =
        let log : h.log ≡ j.seen = ap (λ x. x.log) closed in
        let valid : Lawful meaning first.caller.cell j.seen = subst (λ c. Lawful meaning c j.seen) cell part.valid in
        let replayed : h ≡ stored meaning first.caller.cell j.seen = closed ∙ ap (λ c. stored meaning c j.seen) cell in
        record {
          valid = subst (λ l. Lawful meaning first.caller.cell l) (sym log) valid;
          replayed = replayed ∙ ap (λ l. stored meaning first.caller.cell l) (sym log);
          first_calls = subst (λ l. HasEachCall first firsts l) (sym log) a;
          second_calls = subst (λ l. HasEachCall second seconds l) (sym log) b;
        }

    -- a caller that saw a full log
    pub ended_full : (seen : List (Event O P C R)) (before m : PassView O P C R) → j.caller.cell ≡ before.caller.cell → Begins seen m.seen → Begins m.seen j.seen → length seen ≡ before.caller.cell.limit → length h.log ≡ h.limit
    ended_full seen before m cell meets joins full =
        let whole : length j.seen ≡ before.caller.cell.limit = full_longer seen j.seen before.caller.cell.limit (begins_then seen m.seen j.seen meets joins) full (subst (λ c. length j.seen ≤ c.limit) cell part.valid.within) in
        ap (λ x. length x.log) closed ∙ (whole ∙ sym (ap (λ x. x.limit) closed ∙ ap (λ c. c.limit) cell))
