-- Who can come after one entry more was placed.
use Rattle.std.proofs.{Common.{◌≡◌, ◌≢◌, ◌↔◌, inl, inr, ℕ, ◌<◌, ◌≤◌, List, length, get_or, slice_get, slice_index, Some, refl, sym, ap, ◌∙◌, subst, arith}, Math.ListN.set, lemmas.Bool.cases_lt, lemmas.List.get_or-set_other, lemmas.Option.slice_get_within}
use mathlib.Core.Logic.{dite}
use native.Mathlib.Decide.{ℕ_discrete}
use Rattle.event_log.specs.{declared.event.Event.Event, declared.event.Steps.Steps, declared.entry.Done.Done, declared.entry.Entry.Entry, declared.entry.Run.Run}
use Rattle.sound_run.specs.Sound.{transcript_of, log_of, steps_by}
use Rattle.sound_run.proofs.Slices.{one_of}
use Rattle.auditor.specs.Faults.{events_before}
use Rattle.auditor.proofs.{OwnEvents.own_steps, Ranked.done_of}
use Rattle.log_merge.specs.{Flags.{capacity, HasFlag}, Prefixes.{IsMatched, Comes, CanCome}, WhoCanCome.{IsRight, SaysWhoCanCome, MayWake}}
use Rattle.log_merge.proofs.Placing.{has_transcript}
use Rattle.event_log.specs.declared.entry.Done.TheVariants as done

-- one after the other
pub through : {A B C : Type 0} → A ↔ B → B ↔ C → A ↔ C
through h k = (λ a. k.0 (h.0 a), λ c. h.1 (k.1 c))

pub back : {A B : Type 0} → A ↔ B → B ↔ A
back h = (h.1, h.0)

module _ {O P C R : Type 0} (run : Run O P C R) where
  -- the CPU of an event has entries
  pub event_within : IsMatched run → (x j : ℕ) (d : Event O P C R) → slice_get (log_of x run) j ≡ Some d → d.cpu < length run.transcripts
  event_within matched x j d next =
      let lt = slice_get_within (steps_by d.cpu (log_of x run)) (events_before d.cpu j (log_of x run)) d.steps (own_steps d.cpu (log_of x run) j d next refl) in
      let n = ap length (matched.taken d.cpu x) in
      let found = done_of x (events_before d.cpu j (log_of x run)) (transcript_of d.cpu run) (omega (arith, lt, n)) in
      has_transcript run.transcripts d.cpu found.index (slice_get_within (transcript_of d.cpu run) found.index found.entry found.there)

  -- a CPU that can come has a transcript
  pub can_within : (at placed : ℕ → ℕ) (cpu : ℕ) → CanCome run at placed cpu → cpu < length run.transcripts
  can_within at placed cpu can = has_transcript run.transcripts cpu (at cpu) (slice_get_within (transcript_of cpu run) (at cpu) can.entry can.there)

  -- what is said of one object stays where its count does
  comes_still : (p q : ℕ → ℕ) (cpu y : ℕ) (d : Done O P C R) → p y ≡ q y → Comes run p cpu y d → Comes run q cpu y d
  comes_still p q cpu y (done.Steps s) same come = (come.0, ap (λ i. slice_get (log_of y run) i) (sym same) ∙ come.1, come.2)
  comes_still p q cpu y done.NoRoom same come = subst (λ (i : ℕ). length (log_of y run) ≤ i) same come

  module _ (at placed : List ℕ) (cpu n : ℕ) where
    at_other : (other : ℕ) → other ≢ cpu → get_or (set at cpu n) other 0 ≡ get_or at other 0
    at_other other apart = get_or-set_other at cpu other n 0 apart

    -- where no event is placed, the others can come as before
    pub others_after_full : (other : ℕ) → other ≢ cpu → CanCome run (slice_index at) (slice_index placed) other ↔ CanCome run (slice_index (set at cpu n)) (slice_index placed) other
    others_after_full other apart = (
      λ can. record { entry = can.entry; there = ap (λ i. slice_get (transcript_of other run) i) (at_other other apart) ∙ can.there; comes = can.comes },
      λ can. record { entry = can.entry; there = ap (λ i. slice_get (transcript_of other run) i) (sym (at_other other apart)) ∙ can.there; comes = can.comes },
    )

    module _ (comes : CanCome run (slice_index at) (slice_index placed) cpu) (e : Entry O P C R) (found : slice_get (transcript_of cpu run) (get_or at cpu 0) ≡ Some e) (s : Steps O P C R) (is : e.done ≡ done.Steps s) (m : ℕ) where
      its : Comes run (slice_index placed) cpu e.object (done.Steps s)
      its =
          let same : comes.entry ≡ e = one_of comes.entry e (slice_get (transcript_of cpu run) (get_or at cpu 0)) comes.there found in
          let own : Comes run (slice_index placed) cpu e.object e.done = subst (λ (f : Entry O P C R). Comes run (slice_index placed) cpu f.object f.done) same comes.comes in
          subst (λ (d : Done O P C R). Comes run (slice_index placed) cpu e.object d) is own

      -- no other CPU could come on the object, since the next event of its log was this CPU's
      none_before : (other : ℕ) → other ≢ cpu → (d : Done O P C R) → Comes run (slice_index placed) other e.object d → ⊥
      none_before other apart (done.Steps t) come =
          let same : come.0 ≡ its.0 = one_of come.0 its.0 (slice_get (log_of e.object run) (get_or placed e.object 0)) come.1 its.1 in
          apart (sym come.2 ∙ (ap (λ (v : Event O P C R). v.cpu) same ∙ its.2))
      none_before other apart done.NoRoom come = let lt = slice_get_within (log_of e.object run) (get_or placed e.object 0) its.0 its.1 in absurd (omega (arith, lt, come))

      -- nor can any since, if the next event isn't its own, and there is one
      none_since : (other : ℕ) → other < length run.transcripts → (MayWake run (slice_index (set placed e.object m)) e.object other → ⊥) → (d : Done O P C R) → Comes run (slice_index (set placed e.object m)) other e.object d → ⊥
      none_since other within asleep (done.Steps t) come = asleep (record {
        there = within;
        next = λ v at_v. ap (λ (u : Event O P C R). u.cpu) (one_of v come.0 (slice_get (log_of e.object run) (get_or (set placed e.object m) e.object 0)) at_v come.1) ∙ come.2;
      })
      none_since other within asleep done.NoRoom come = asleep (record {
        there = within;
        next = λ v at_v. let lt = slice_get_within (log_of e.object run) (get_or (set placed e.object m) e.object 0) v at_v in absurd (omega (arith, lt, come));
      })

      forth : (other : ℕ) → other ≢ cpu → CanCome run (slice_index at) (slice_index placed) other → CanCome run (slice_index (set at cpu n)) (slice_index (set placed e.object m)) other
      forth other apart can = dite (ℕ_discrete can.entry.object e.object)
          (λ here. absurd (none_before other apart can.entry.done (subst (λ (y : ℕ). Comes run (slice_index placed) other y can.entry.done) here can.comes)))
          (λ off. record {
            entry = can.entry;
            there = ap (λ i. slice_get (transcript_of other run) i) (at_other other apart) ∙ can.there;
            comes = comes_still (slice_index placed) (slice_index (set placed e.object m)) other can.entry.object can.entry.done (sym (get_or-set_other placed e.object can.entry.object m 0 off)) can.comes;
          })

      since : (other : ℕ) → other ≢ cpu → (MayWake run (slice_index (set placed e.object m)) e.object other → ⊥) → CanCome run (slice_index (set at cpu n)) (slice_index (set placed e.object m)) other → CanCome run (slice_index at) (slice_index placed) other
      since other apart asleep can = dite (ℕ_discrete can.entry.object e.object)
          (λ here. absurd (none_since other (can_within (slice_index (set at cpu n)) (slice_index (set placed e.object m)) other can) asleep can.entry.done (subst (λ (y : ℕ). Comes run (slice_index (set placed e.object m)) other y can.entry.done) here can.comes)))
          (λ off. record {
            entry = can.entry;
            there = ap (λ i. slice_get (transcript_of other run) i) (sym (at_other other apart)) ∙ can.there;
            comes = comes_still (slice_index (set placed e.object m)) (slice_index placed) other can.entry.object can.entry.done (get_or-set_other placed e.object can.entry.object m 0 off) can.comes;
          })

      -- where one is, all others but those that may wake can come as before
      pub others_after_done : (other : ℕ) → other ≢ cpu → (MayWake run (slice_index (set placed e.object m)) e.object other → ⊥)
          → CanCome run (slice_index at) (slice_index placed) other ↔ CanCome run (slice_index (set at cpu n)) (slice_index (set placed e.object m)) other
      others_after_done other apart asleep = (forth other apart, since other apart asleep)

  -- a flag that is as before is right where the CPU can come as before
  pub right_still : (at placed at_then placed_then flags flags_then : List ℕ) (cpu : ℕ) → IsRight run at placed flags cpu → HasFlag flags_then cpu ↔ HasFlag flags cpu
      → CanCome run (slice_index at) (slice_index placed) cpu ↔ CanCome run (slice_index at_then) (slice_index placed_then) cpu → IsRight run at_then placed_then flags_then cpu
  right_still at placed at_then placed_then flags flags_then cpu right kept same = through kept (through right same)

  -- where no flag was set before every CPU was looked at
  pub says_at_start : (at placed flags flags_then : List ℕ) → length at ≡ length run.transcripts → length at ≤ capacity flags → capacity flags_then ≡ capacity flags → ((number : ℕ) → HasFlag flags number → ⊥)
      → ((cpu : ℕ) → cpu < length at → IsRight run at placed flags_then cpu) → ((other : ℕ) → length at ≤ other → HasFlag flags_then other ↔ HasFlag flags other) → SaysWhoCanCome run at placed flags_then
  says_at_start at placed flags flags_then cpus room kept none right others = record {
    room = omega (arith, room, kept);
    right = λ cpu. elim (cases_lt cpu (length at)) [
      | inl within ↦ right cpu within
      | inr beyond ↦ (
        λ flag. absurd (none cpu ((others cpu beyond).0 flag)),
        λ can. let there = can_within (slice_index at) (slice_index placed) cpu can in absurd (omega (arith, there, cpus, beyond)),
      )
    ];
  }
