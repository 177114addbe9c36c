-- Entries that a caller with passes of many cells does one after another.
use Rattle.std.proofs.{Common.{◌≡◌, ◌≢◌, ℕ, ◌+◌, ◌<◌, ◌≤◌, ◌^◌, true, List, [], ◌∷◌, ◌++◌, length, map, drop, refl, sym, ◌∙◌, ap, subst, arith, length-append, append_assoc, slice_get, Option, Some, None}, Math.ListN.set, lemmas.List.{append-nil, map-append, length-set}, lemmas.Option.slice_get_within}
use mathlib.Core.Logic.{dite}
use native.Mathlib.Decide.{ℕ_discrete}
use Rattle.arrayvec.specs.ArrayVec.{ArrayVec}
use Rattle.event_log.specs.{declared.object.SeqObject.Ghosts, declared.event.Steps.Steps, declared.event.Event.Event, declared.entry.Done.Done, declared.entry.Entry.Entry, declared.entry.Todo.Todo, Entries.asked_of, Log.of}
use Rattle.event_log.proofs.{Beginnings.begins_rest, Lists.some_at, Each.{all_map, all_push}}
use Rattle.word_rule.specs.{Cell.{PassView, IsPassView}, Answered.{IsAnswered, events_by}}
use Rattle.sound_run.specs.Sound.{Opened, Answers, done_on, with_steps}
use Rattle.sound_run.proofs.{Entries.{done_append, done_here, done_elsewhere, done_without, full_push}, Slices.{one_of, get_set_same, get_set_other, get_map, map_get, map_none}}
use Rattle.guarded_cell.specs.Workers.{ArePasses, opened_of_cell, Did, DidAt, DidOn, HasDone}
use Rattle.event_log.specs.declared.entry.Done.TheVariants as done

module _ {O P C R : Type 0} where
  off_object : (x : ℕ) (entries : List (Entry O P C R)) (e : Entry O P C R) → e.object ≢ x → done_on x (entries ++ e ∷ []) ≡ done_on x entries
  off_object x entries e ne = done_append x entries (e ∷ []) ∙ (ap (λ l. done_on x entries ++ l) (done_elsewhere x e ne) ∙ append-nil (done_on x entries))

  on_object : (x : ℕ) (entries : List (Entry O P C R)) (e : Entry O P C R) → e.object ≡ x → done_on x (entries ++ e ∷ []) ≡ done_on x entries ++ with_steps e.done []
  on_object x entries e is = done_append x entries (e ∷ []) ∙ ap (λ l. done_on x entries ++ l) (done_here x e is)

module _ {O P C R : Type 0} (meaning : Ghosts O P C R) where
  -- a caller that was answered sees a longer log
  pub longer : (before after : PassView O P C R) (cs : List C) (s : Steps O P C R) → IsAnswered meaning before cs s after → length before.seen < length after.seen
  longer before after cs s a =
      let k : ℕ = before.caller.acting in
      let since = drop (length before.seen) after.seen in
      let is : after.seen ≡ before.seen ++ since = begins_rest before.seen after.seen a.begins in
      let total : length after.seen ≡ length before.seen + length since = ap length is ∙ length-append before.seen since in
      let some : 0 < length since = grew k before.seen after.seen since is (record { cpu = k; steps = s }) a.mine in
      omega arith
    where
      grew : (k : ℕ) (a b c : List (Event O P C R)) → b ≡ a ++ c → (e : Event O P C R) → of k b ≡ of k a ++ e ∷ [] → 0 < length c
      grew k a b (x ∷ c) is e more = omega arith
      grew k a b [] is e more =
          let same : of k b ≡ of k a = ap (λ l. of k l) (is ∙ append-nil a) in
          let lengths : length (of k a) ≡ length (of k a) + 1 = ap length (sym same ∙ more) ∙ length-append (of k a) (e ∷ []) in
          absurd (omega arith)

  -- what one entry more on the object leaves there
  module _ (x : ℕ) (before mid after : PassView O P C R) (entries : List (Entry O P C R)) (e : Entry O P C R) (on : e.object ≡ x) (d : DidOn meaning x before entries mid) (mid_is : IsPassView meaning mid) (end : IsPassView meaning after) (same : after.caller ≡ mid.caller) where
    abbrev k : ℕ
    k = before.caller.acting

    own_more : (what : Done O P C R) → e.done ≡ what → Did meaning mid e.asked what after → of k after.seen ≡ of k before.seen ++ events_by k (done_on x (entries ++ e ∷ []))
    own_more (done.Steps s) is did =
        let mine : of k after.seen ≡ of k mid.seen ++ events_by k (s ∷ []) = subst (λ c. of c.acting after.seen ≡ of c.acting mid.seen ++ events_by c.acting (s ∷ [])) d.caller did.mine in
        let more : done_on x (entries ++ e ∷ []) ≡ done_on x entries ++ s ∷ [] = on_object x entries e on ∙ ap (λ y. done_on x entries ++ with_steps y []) is in
        mine ∙ (ap (λ l. l ++ events_by k (s ∷ [])) d.own ∙ (append_assoc (of k before.seen) (events_by k (done_on x entries)) (events_by k (s ∷ []))
        ∙ ap (λ l. of k before.seen ++ l) (sym (map-append (λ (y : Steps O P C R). record { cpu = k; steps = y }) (done_on x entries) (s ∷ [])) ∙ ap (events_by k) (sym more))))
    own_more done.NoRoom is did =
        let stays : of k after.seen ≡ of k mid.seen = did.grows.own k (subst (λ c. mid.caller.owned c.acting ≡ true) d.caller mid_is.caller.acts) in
        let more : done_on x (entries ++ e ∷ []) ≡ done_on x entries = on_object x entries e on ∙ (ap (λ y. done_on x entries ++ with_steps y []) is ∙ append-nil (done_on x entries)) in
        stays ∙ (d.own ∙ ap (λ l. of k before.seen ++ events_by k l) (sym more))

    abbrev o : Opened P
    o = opened_of_cell before.caller.cell

    limits : mid.caller.cell.limit ≡ o.limit
    limits = ap (λ c. c.cell.limit) d.caller

    -- an answer before stays one
    stays : (what : Done O P C R) → Did meaning mid e.asked what after → (asked : ArrayVec C) (f : Done O P C R) → Answers meaning o mid.seen asked f → Answers meaning o after.seen asked f
    stays new did asked (done.Steps t) h = h
    stays (done.Steps s) did asked done.NoRoom h =
        let grew = longer mid after e.asked.items s did in
        let within : length after.seen ≤ mid.caller.cell.limit = did.valid.within in
        absurd (omega (arith, grew, within, h, limits))
    stays done.NoRoom did asked done.NoRoom h = did.full ∙ limits

    answer_here : (what : Done O P C R) → Did meaning mid e.asked what after → Answers meaning o after.seen e.asked what
    answer_here (done.Steps s) did = did.fulfils
    answer_here done.NoRoom did = did.full ∙ limits

    pub on_more : Did meaning mid e.asked e.done after → DidOn meaning x before (entries ++ e ∷ []) after
    on_more did = record {
      caller = same ∙ d.caller;
      own = own_more e.done refl did;
      answers = all_push (λ f. f.object ≡ x → Answers meaning o after.seen f.asked f.done) entries e (all_map (λ f h at. stays e.done did f.asked f.done (h at)) entries d.answers) (λ at. answer_here e.done did);
    }

    -- no entry before that found the object full is followed by one that was done there
    pub none_before : (what : Done O P C R) → e.done ≡ what → Did meaning mid e.asked what after → (f : Entry O P C R) → (f.object ≡ x → Answers meaning o mid.seen f.asked f.done) → f.done ≡ done.NoRoom → done_on f.object (e ∷ []) ≡ []
    none_before done.NoRoom is did f h none = done_without f.object e is
    none_before (done.Steps s) is did f h none = dite (ℕ_discrete f.object x)
        (λ at.
        let grew = longer mid after e.asked.items s did in
        let within : length after.seen ≤ mid.caller.cell.limit = did.valid.within in
        let full : length mid.seen ≡ o.limit = subst (λ y. Answers meaning o mid.seen f.asked y) none (h at) in
        absurd (omega (arith, grew, within, full, limits)))
        (λ ne. done_elsewhere f.object e (λ at. ne (sym at ∙ on)))

  -- a worker that did nothing yet
  pub nothing : (before : List (PassView O P C R)) → HasDone meaning before [] [] before
  nothing before = record {
    count = refl;
    asked = refl;
    looks = tt;
    full = tt;
    each = λ x p q a b.
        let same : p ≡ q = one_of p q (slice_get before x) a b in
        subst (λ z. DidOn meaning x p [] z) same record { caller = refl; own = sym (append-nil (of p.caller.acting p.seen)); answers = tt };
  }

  -- one entry more
  pub entry_more : (before mid after : List (PassView O P C R)) (todos : List (Todo O P C R)) (entries : List (Entry O P C R)) (todo : Todo O P C R) (e : Entry O P C R)
      → ((x : ℕ) (p : PassView O P C R) → slice_get mid x ≡ Some p → IsPassView meaning p) → ((x : ℕ) (p : PassView O P C R) → slice_get after x ≡ Some p → IsPassView meaning p) → length after ≡ length mid
      → HasDone meaning before todos entries mid → DidAt meaning mid todo e after → HasDone meaning before (todos ++ todo ∷ []) (entries ++ e ∷ []) after
  entry_more before mid after todos entries todo e views ends wide d a =
      let on : e.object ≡ todo.object = ap (λ (t : Todo O P C R). t.object) a.asked in
      let within = slice_get_within mid todo.object a.old a.was in
      let count = d.count in
      let first = some_at before todo.object (omega (arith, within, count)) in
      let here = d.each todo.object first.0 a.old first.1 a.was in
      record {
        count = wide ∙ d.count;
        asked = map-append asked_of entries (e ∷ []) ∙ (λ i. d.asked i ++ a.asked i ∷ []);
        looks = all_push (λ f. f.looks < 2 ^ 64) entries e d.looks a.looks;
        full = full_push entries e d.full (all_map (λ f h. none_before todo.object first.0 a.old a.new entries e on here (views todo.object a.old a.was) (ends todo.object a.new a.now) a.caller e.done refl a.did f h) entries here.answers);
        each = λ x p q b c. dite (ℕ_discrete x todo.object)
            (λ is.
            let first_is : first.0 ≡ p = one_of first.0 p (slice_get before x) (ap (slice_get before) is ∙ first.1) b in
            let last_is : a.new ≡ q = one_of a.new q (slice_get after x) (ap (slice_get after) is ∙ a.now) c in
            let more = on_more todo.object first.0 a.old a.new entries e on here (views todo.object a.old a.was) (ends todo.object a.new a.now) a.caller a.did in
            subst (λ z. DidOn meaning z p (entries ++ e ∷ []) q) (sym is) (subst (λ z. DidOn meaning todo.object z (entries ++ e ∷ []) q) first_is (subst (λ z. DidOn meaning todo.object first.0 (entries ++ e ∷ []) z) last_is more)))
            (λ ne.
            let old = d.each x p q b (sym (a.others x ne) ∙ c) in
            record {
              caller = old.caller;
              own = old.own ∙ ap (λ l. of p.caller.acting p.seen ++ events_by p.caller.acting l) (sym (off_object x entries e (λ at. ne (sym at ∙ on))));
              answers = all_push (λ f. f.object ≡ x → Answers meaning (opened_of_cell p.caller.cell) q.seen f.asked f.done) entries e old.answers (λ at. absurd (ne (sym at ∙ on)));
            });
      }

-- ---- the pass at a place is another afterwards

module _ {T S : Type 0} (is_pass_of : T → S → Type 0) where
  pub kept_places : (cells : List T) (old new : List S) (x : ℕ) (c : T) (p q : S) → ArePasses is_pass_of cells old → new ≡ set old x q → slice_get cells x ≡ Some c → slice_get old x ≡ Some p → is_pass_of c q → ArePasses is_pass_of cells new
  kept_places cells old new x c p q a is cell was fits = record {
    count = ap length is ∙ (length-set old x q ∙ a.count);
    each = λ y d r e f. dite (ℕ_discrete y x)
        (λ at.
        let cell_is : c ≡ d = one_of c d (slice_get cells y) (ap (slice_get cells) at ∙ cell) e in
        let pass_is : q ≡ r = one_of q r (slice_get new y) (ap (slice_get new) at ∙ (ap (λ l. slice_get l x) is ∙ get_set_same old x q p was)) f in
        subst (λ z. is_pass_of z r) cell_is (subst (λ z. is_pass_of c z) pass_is fits))
        (λ ne. a.each y d r e (sym (ap (λ l. slice_get l y) is ∙ get_set_other old x y q (λ at. ne (sym at))) ∙ f));
  }

module _ {S O P C R : Type 0} (meaning : Ghosts O P C R) (view : S → PassView O P C R) where
  pub did_at : (old new : List S) (p q : S) (todo : Todo O P C R) (e : Entry O P C R) → new ≡ set old todo.object q → slice_get old todo.object ≡ Some p → asked_of e ≡ todo → e.looks < 2 ^ 64 → (view q).caller ≡ (view p).caller → Did meaning (view p) e.asked e.done (view q)
      → DidAt meaning (map view old) todo e (map view new)
  did_at old new p q todo e is was asked looks same did =
      let x : ℕ = todo.object in
      record {
        asked = asked;
        looks = looks;
        old = view p;
        new = view q;
        was = map_get view old x p was;
        now = map_get view new x q (ap (λ l. slice_get l x) is ∙ get_set_same old x q p was);
        others = λ y ne. ap (λ l. slice_get (map view l) y) is ∙ mapped_other y ne old x;
        caller = same;
        did = did;
      }
    where
      same_mapped : (xs ys : List S) (y : ℕ) → slice_get xs y ≡ slice_get ys y → slice_get (map view xs) y ≡ slice_get (map view ys) y
      same_mapped xs ys y e = by (slice_get ys y) refl
        where
          by : (o : Option S) → slice_get ys y ≡ o → slice_get (map view xs) y ≡ slice_get (map view ys) y
          by None f = map_none view xs y (e ∙ f) ∙ sym (map_none view ys y f)
          by (Some z) f = map_get view xs y z (e ∙ f) ∙ sym (map_get view ys y z f)

      mapped_other : (y : ℕ) → (y ≡ todo.object → ⊥) → (xs : List S) (x : ℕ) → slice_get (map view (set xs todo.object q)) y ≡ slice_get (map view xs) y
      mapped_other y ne xs x = same_mapped (set xs todo.object q) xs y (get_set_other xs todo.object y q (λ at. ne (sym at)))

-- the views of passes of cells
module _ {T S O P C R : Type 0} (meaning : Ghosts O P C R) (is_pass_of : T → S → Type 0) (view : S → PassView O P C R) where
  pub views_of : ((c : T) (p : S) → is_pass_of c p → IsPassView meaning (view p)) → (cells : List T) (passes : List S) → ArePasses is_pass_of cells passes → (x : ℕ) (p : PassView O P C R) → slice_get (map view passes) x ≡ Some p → IsPassView meaning p
  views_of law cells passes a x p e =
      let there = get_map view passes x p e in
      let within = slice_get_within passes x there.0 there.1 in
      let count = a.count in
      let cell = some_at cells x (omega (arith, within, count)) in
      subst (IsPassView meaning) there.2 (law cell.0 there.0 (a.each x cell.0 there.0 cell.1 there.1))
