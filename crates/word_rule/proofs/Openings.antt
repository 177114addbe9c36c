-- What a machine keeps before its first step shows the opening world, which is sound.
use Rattle.std.proofs.{Common.{◌≡◌, ℕ, zero, suc, ◌+◌, ◌<◌, ◌≤◌, List, [], ◌∷◌, ◌++◌, length, drop, take, get_or, slice_get, Vec, Option, Some, None, refl, sym, ap, ◌∙◌, subst, arith}, lemmas.List.{length-map, take_more as one_more}, lemmas.Slice.Zip.AllZip-long}
use Rattle.std.specs.{List.{AllByRecursion, AllZip}, Prelude.unwrap_or, declared.alloc.Global.Global}
use Rattle.event_log.specs.{declared.object.SeqObject.Ghosts, declared.entry.Todo.Todo}
use Rattle.event_log.proofs.Each.{each_at}
use Rattle.word_rule.specs.{declared.machine.cell_spec.CellSpec.CellSpec, declared.machine.lock_words.LockWords.LockWords, declared.machine.progress.Progress.Progress, Rule.LockStates.RepresentsLock, Machine.Opening.{opening_cell, opening_cpu, opening_world, IsOpening, IsOpeningCell}, Machine.Shown.{MachineParts, RepresentsCell, ShowsCpu, Represents, Runs, IsRoomy, FreshCpu, FreshDone, FreshLock, FreshLocks}, Machine.SoundWorld.{SoundWorld, IsTodo, IsAnswer, entries_of, entries_by}, Machine.World.{World, CellState, CpuState, run_of}}
use Rattle.sound_run.specs.{declared.limits.TheConstants.MOST_CPUS, Orders.{numbers, IsOrder}, Sound.{LogIsSound, log_of, done_on, steps_by, NoneAfterFull}}
use Rattle.word_rule.proofs.{LockLaws.few_fit, SoundRuns.transcript_is}
use Rattle.sound_run.proofs.Slices.{get_map, map_get, map_none, one_of}

pub zip_at : {X Y : Type 0} (R : X → Y → Type 0) (xs : List X) (ys : List Y) (k : ℕ) (x : X) (y : Y) → AllZip R xs ys → slice_get xs k ≡ Some x → slice_get ys k ≡ Some y → R x y
zip_at R [] ys k x y z e f = cc
zip_at R (a ∷ xs) [] k x y z e f = absurd z
zip_at R (a ∷ xs) (b ∷ ys) zero x y z e f = subst (λ (t : _ × _). R t.0 t.1) (λ j. ((let p : a ≡ x = cc in p) j, (let q : b ≡ y = cc in q) j)) z.0
zip_at R (a ∷ xs) (b ∷ ys) (suc k) x y z e f = zip_at R xs ys k x y z.1 e f

module _ {O P C R : Type 0} (meaning : Ghosts O P C R) (w : World O P C R) (o : IsOpening w) where
  no_entries : (i : ℕ) → entries_by i w ≡ []
  no_entries i = by (slice_get w.cpus i) refl
    where
      by : (q : Option (CpuState O P C R)) → slice_get w.cpus i ≡ q → entries_by i w ≡ []
      by None e = ap (λ (q : Option (CpuState O P C R)). entries_of q) e
      by (Some c) e = ap (λ (q : Option (CpuState O P C R)). entries_of q) e ∙ ap (λ (c : CpuState O P C R). c.transcript) (o.cpus i c e)

  -- a world before its first step is sound
  pub opening_sound : SoundWorld meaning w
  opening_sound = record {
    logs = λ x c e. let a = o.cells x c e in subst (λ l. LogIsSound meaning c.opened l) (sym a.empty) record { legal = tt; within = omega arith };
    taken = λ x i c e. let a = o.cells x c e in ap (done_on x) (no_entries i) ∙ ap (steps_by i) (sym a.empty);
    answers = λ i. subst (λ l. AllByRecursion (λ e. IsAnswer meaning w e) l) (sym (no_entries i)) tt;
    full = λ i. subst NoneAfterFull (sym (no_entries i)) tt;
    able = o.able;
  }

  no_log : (x : ℕ) → log_of x (run_of w) ≡ []
  no_log x = by (slice_get w.cells x) refl
    where
      by : (q : Option (CellState O P C R)) → slice_get w.cells x ≡ q → log_of x (run_of w) ≡ []
      by None e = ap (λ o. unwrap_or o []) (map_none (λ (c : CellState O P C R). c.log) w.cells x e)
      by (Some c) e = ap (λ o. unwrap_or o []) (map_get (λ (c : CellState O P C R). c.log) w.cells x c e) ∙ (o.cells x c e).empty

  -- and none of its entries are in order
  pub opening_order : IsOrder (run_of w) []
  opening_order = record {
    entries = λ cpu. ap (λ l. numbers 0 (length l)) (sym (transcript_is meaning w opening_sound cpu ∙ no_entries cpu));
    events = λ x. sym (no_log x);
    full = tt;
  }

module _ {O P C R : Type 0} (cells : List (CellSpec O P C R)) (scripts : List (Vec (Todo O P C R) Global)) where
  abbrev W : World O P C R
  W = opening_world cells scripts

  cpus_are : length W.cpus ≡ length scripts
  cpus_are = length-map scripts (λ (s : Vec (Todo O P C R) Global). opening_cpu s.items)

  cells_are : length W.cells ≡ length cells
  cells_are = length-map cells (λ (c : CellSpec O P C R). opening_cell c.kind c.first c.logged)

  cell_at : (x : ℕ) (c : CellState O P C R) → slice_get W.cells x ≡ Some c → (spec : CellSpec O P C R) × (slice_get cells x ≡ Some spec) × (opening_cell spec.kind spec.first spec.logged ≡ c)
  cell_at x c e = get_map (λ (c : CellSpec O P C R). opening_cell c.kind c.first c.logged) cells x c e

  cpu_at : (i : ℕ) (c : CpuState O P C R) → slice_get W.cpus i ≡ Some c → (s : Vec (Todo O P C R) Global) × (slice_get scripts i ≡ Some s) × (opening_cpu s.items ≡ c)
  cpu_at i c e = get_map (λ (s : Vec (Todo O P C R) Global). opening_cpu s.items) scripts i c e

  pub opening_is : length scripts ≤ MOST_CPUS → AllByRecursion (λ (c : CellSpec O P C R). c.logged.log ≡ []) cells → AllByRecursion (λ (s : Vec (Todo O P C R) Global). AllByRecursion (λ t. IsTodo (length cells) t) s.items) scripts → IsOpening W
  opening_is few empty able = record {
    cells = λ x c e. let a = cell_at x c e in subst (λ k. IsOpeningCell (length W.cpus) k) a.2 record { first = a.0.first; fits = few_fit a.0.kind (length W.cpus) (subst (λ n. n ≤ MOST_CPUS) (sym cpus_are) few); free = refl; empty = each_at (λ (c : CellSpec O P C R). c.logged.log ≡ []) cells x a.0 empty a.1 };
    cpus = λ i c e. let a = cpu_at i c e in subst (λ (k : CpuState O P C R). k ≡ opening_cpu k.todo) a.2 refl;
    able = λ i c e. let a = cpu_at i c e in
        subst (λ (k : CpuState O P C R). AllByRecursion (λ t. IsTodo (length W.cells) t) k.todo) a.2
        (subst (λ n. AllByRecursion (λ t. IsTodo n t) a.0.items) (sym cells_are) (each_at (λ (s : Vec (Todo O P C R) Global). AllByRecursion (λ t. IsTodo (length cells) t) s.items) scripts i a.0 able a.1));
  }

  module _ (meaning : Ghosts O P C R) (locks : List LockWords) (done : List (Progress O P C R)) (fresh : FreshLocks meaning (length scripts) cells locks) (begun : FreshDone scripts done) where
    abbrev M : MachineParts O P C R
    M = record { cells = cells; locks = locks; scripts = scripts; done = done }

    pub opening_shows : Represents meaning M W
    opening_shows = record {
      cells = sym cells_are;
      locks = AllZip-long (FreshLock meaning (length scripts)) cells locks fresh ∙ sym cells_are;
      scripts = sym cpus_are;
      done = AllZip-long FreshCpu scripts done begun ∙ sym cpus_are;
      each_cell = λ x spec words c ea eb ec.
          let a = cell_at x c ec in
          let same = one_of a.0 spec (slice_get cells x) a.1 ea in
          let f = zip_at (FreshLock meaning (length scripts)) cells locks x spec words fresh ea eb in
          let is : opening_cell spec.kind spec.first spec.logged ≡ c = ap (λ (s : CellSpec O P C R). opening_cell s.kind s.first s.logged) (sym same) ∙ a.2 in
          subst (λ k. RepresentsCell meaning (length W.cpus) spec words k) is record {
            lock = subst (λ n. RepresentsLock n words.kind words.words.items words.stages.items (opening_cell spec.kind spec.first spec.logged).lock) (sym cpus_are) f.lock;
            params = refl;
            limit = refl;
            log = refl;
            kept = f.kept;
          };
      each_cpu = λ i script p c ea eb ec.
          let a = cpu_at i c ec in
          let same = one_of a.0 script (slice_get scripts i) a.1 ea in
          let f = zip_at FreshCpu scripts done i script p begun ea eb in
          let is : opening_cpu script.items ≡ c = ap (λ (s : Vec (Todo O P C R) Global). opening_cpu s.items) (sym same) ∙ a.2 in
          subst (λ k. ShowsCpu script p k) is record { todo = ap (λ n. drop n script.items) f.at; transcript = f.transcript; looks = f.looks };
    }

    pub opening_roomy : (logs transcripts : ℕ) → length cells ≤ 16 → length scripts ≤ MOST_CPUS → length cells ≤ logs → length scripts ≤ transcripts → IsRoomy M logs transcripts
    opening_roomy logs transcripts few_cells few logs_fit transcripts_fit = record {
      cells = few_cells;
      cpus = few;
      logs_fit = logs_fit;
      transcripts_fit = transcripts_fit;
      each = λ i script p ea eb. let f = zip_at FreshCpu scripts done i script p begun ea eb in
          let none : length p.transcript.items ≡ 0 = ap length f.transcript in
          let at = f.at in let room = f.room in
          record { within = omega (arith, at); room = omega (arith, none, at, room) };
    }

    pub opening_runs : IsOpening W → Runs meaning M
    opening_runs o = record { world = W; shows = opening_shows; sound = opening_sound meaning W o; ordered = record { places = []; order = opening_order meaning W o } }

-- two lists related place by place grow by one on each side
pub zip_push : {X Y : Type 0} (R : X → Y → Type 0) (xs : List X) (ys : List Y) (x : X) (y : Y) → AllZip R xs ys → R x y → AllZip R (xs ++ x ∷ []) (ys ++ y ∷ [])
zip_push R [] [] x y z r = (r, tt)
zip_push R [] (b ∷ ys) x y z r = absurd z
zip_push R (a ∷ xs) [] x y z r = absurd z
zip_push R (a ∷ xs) (b ∷ ys) x y z r = (z.0, zip_push R xs ys x y z.1 r)

-- one element more of a list
pub take_more : {X : Type 0} (xs : List X) (k : ℕ) (x : X) → k < length xs → x ≡ get_or xs k x → take (k + 1) xs ≡ take k xs ++ x ∷ []
take_more xs k x lt e = one_more xs k x lt ∙ ap (λ z. take k xs ++ z ∷ []) (sym e)
