-- One more caller joins those that have joined already.
use Rattle.std.proofs.{Common.{◌≡◌, ⊎_elim, ℕ, ◌+◌, ◌<◌, ◌≤◌, true, List, [], ◌∷◌, ◌++◌, length, map, take, get_or, refl, sym, ◌∙◌, ap, subst, arith, length-append, slice_get, Some}, lemmas.Option.slice_get_within}
use Rattle.event_log.specs.{declared.object.SeqObject.Ghosts, declared.event.Event.Event}
use Rattle.event_log.proofs.Lists.{get_push}
use Rattle.word_rule.specs.{declared.view.TraceStep.TraceStep, Cell.{PassView, IsCaller}, LockRuns.Extends}
use Rattle.word_rule.proofs.ManyHolds.{still_held}
use Rattle.sound_run.proofs.Slices.{one_of, map_get, read_get}
use Rattle.guarded_cell.specs.{Calls.HasDoneCalls, Held.{HasHeldFor, holds_of}, Runs.Joins, ManyCallers.{HasJoined, AllHaveJoined}}
use Rattle.guarded_cell.proofs.Called.{called_grows, full_longer}

pub no_items : {E : Type 0} (xs : List E) → length xs ≡ 0 → (let l : List E = [] in l) ≡ xs
no_items [] e = refl
no_items (x ∷ xs) e = absurd (omega (arith, e))

-- the image of the element at an index
pub at_place : {X Y : Type 0} (f : X → Y) (xs : List X) (i : ℕ) (x : X) → i < length xs → x ≡ get_or xs i x
    → slice_get (map f xs) i ≡ Some (f x)
at_place f xs i x lt e = map_get f xs i x (read_get xs i x lt e)

module _ {O P C R : Type 0} (meaning : Ghosts O P C R) where
  -- a caller has joined its own pass after its calls
  pub joins_alone : (first after : PassView O P C R) (run run' : List (TraceStep (Event O P C R))) (calls : List C) (n : ℕ)
      → HasDoneCalls first calls n after → HasHeldFor meaning first.caller run calls n run'
      → HasJoined meaning first run calls n after run'
  joins_alone first after run run' calls n h held = record {
    cell = ap (λ z. z.cell) h.caller;
    owned = λ k own. subst (λ z. z.owned k ≡ true) (sym h.caller) own;
    called = h.called;
    count = h.count;
    full = h.full;
    held = held;
  }

  -- a caller that has joined a pass has joined the pass which that one joins
  pub joins_further : (first a b : PassView O P C R) (run ra rb : List (TraceStep (Event O P C R))) (calls : List C) (n : ℕ)
      → IsCaller first.caller → HasJoined meaning first run calls n a ra → Joins a b → Extends a.caller.owned ra [] rb
      → length b.seen ≤ b.caller.cell.limit → HasJoined meaning first run calls n b rb
  joins_further first a b run ra rb calls n is h j e within =
      let cell = j.cell ∙ h.cell in
      record {
        cell = cell;
        owned = λ k own. j.owned k (h.owned k own);
        called = called_grows first (take n calls) a.seen b.seen is h.called
            (record { begins = j.grows.begins; own = λ k own. j.grows.own k (h.owned k own) });
        count = h.count;
        full = λ less. full_longer a.seen b.seen first.caller.cell.limit j.grows.begins (h.full less)
            (subst (λ z. length b.seen ≤ z.limit) cell within);
        held = still_held meaning first.caller run (holds_of calls n) ra rb h.held
            (record { begins = e.begins; own = λ k own. e.own k (h.owned k own) });
      }

  module _ {S : Type 0} (view : S → PassView O P C R) (run_of : S → List (TraceStep (Event O P C R))) where
    -- no callers
    pub none_joined : (scripts : List (List C)) (last : S) → AllHaveJoined meaning view run_of [] scripts [] last
    none_joined scripts last = record { counts = refl; each = λ x p calls n at _ _. let at' : slice_get [] x ≡ Some p = at in cc }

    -- the callers before, and one more
    pub more_joined : (ps : List S) (p : S) (scripts : List (List C)) (calls : List C) (ds : List ℕ) (d : ℕ) (others mine last : S)
        → ((x : ℕ) (q : S) → slice_get (ps ++ p ∷ []) x ≡ Some q → IsCaller (view q).caller)
        → AllHaveJoined meaning view run_of ps scripts ds others
        → HasJoined meaning (view p) (run_of p) calls d (view mine) (run_of mine) → slice_get scripts (length ps) ≡ Some calls
        → Joins (view others) (view last) → Extends (view others).caller.owned (run_of others) [] (run_of last)
        → Joins (view mine) (view last) → Extends (view mine).caller.owned (run_of mine) [] (run_of last)
        → length (view last).seen ≤ (view last).caller.cell.limit
        → AllHaveJoined meaning view run_of (ps ++ p ∷ []) scripts (ds ++ d ∷ []) last
    more_joined ps p scripts calls ds d others mine last are all h at j e k f within =
        let long = all.counts in
        record {
          counts = length-append ds (d ∷ []) ∙ (ap (λ n. n + 1) long ∙ sym (length-append ps (p ∷ [])));
          each = λ x q cs n at_pass at_calls at_done.
              ⊎_elim
              (λ old.
              let d_is : slice_get ds x ≡ Some n = ⊎_elim (λ e. e)
              (λ same. absurd (let lt = slice_get_within ps x q old in let is = same.0 in omega (arith, lt, is, long)))
              (get_push ds d x n at_done) in
              joins_further (view q) (view others) (view last) (run_of q) (run_of others) (run_of last) cs n (are x q at_pass)
              (all.each x q cs n old at_calls d_is) j e within)
              (λ new.
              let p_is : p ≡ q = new.1 in
              let c_is : calls ≡ cs = one_of calls cs (slice_get scripts x) (ap (slice_get scripts) new.0 ∙ at) at_calls in
              let d_is : d ≡ n = ⊎_elim
              (λ old. absurd (let lt = slice_get_within ds x n old in let is = new.0 in omega (arith, lt, is, long)))
              (λ same. same.1) (get_push ds d x n at_done) in
              subst (λ z. HasJoined meaning (view z) (run_of z) cs n (view last) (run_of last)) p_is
              (subst (λ z. HasJoined meaning (view p) (run_of p) z n (view last) (run_of last)) c_is
              (subst (λ z. HasJoined meaning (view p) (run_of p) calls z (view last) (run_of last)) d_is
              (joins_further (view p) (view mine) (view last) (run_of p) (run_of mine) (run_of last) calls d
              (subst (λ z. IsCaller (view z).caller) (sym p_is) (are x q at_pass)) h k f within))))
              (get_push ps p x q at_pass);
        }
