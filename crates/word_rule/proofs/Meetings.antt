-- Seats are joined and split, and a seat learns what its callers have seen: the same at every lock.
use Rattle.std.proofs.Common.{◌≡◌, ◌≢◌, ℕ, zero, suc, ◌+◌, Bool, true, true≢false, cond, eqb, eq-eqb, ne_eqb, List, [], ◌∷◌, ◌++◌, length, set, min, refl, sym, ap, ◌∙◌, subst, ⊎_elim, arith, None, length-set}
use mathlib.Core.Option.{some, none}
use lib.{ListN.get_elem?, Seq.set-get_or}
use Rattle.atomic_table.specs.Table.{step, keeps, gives, rest, Allows, Splits, Joins}
use Rattle.atomic_table.proofs.Lists.{at_set}
use Rattle.event_log.specs.{declared.object.SeqObject.Ghosts, Distinct.has}
use Rattle.sound_run.specs.declared.lock_kind.LockKind.{LockKind}
use Rattle.word_rule.specs.{declared.lock_kind.Stage.TheVariants.Idle, Cell.Cell, Locks.holding, Rule.LockStates.IsLockOf, Rule.CellInvariant.{GhostState, Caller, SeatView, Table, EachFrom, CallerInvariant, SeatInvariant, CellInvariant}, Rule.Seats.{Seat, settled, taken_in, idle, behind_first, first_or_none, spent, keeping, letting, merged}, Rule.Announced.{meets, joins, returns_slot, second_holder}}
use Rattle.word_rule.proofs.{Lists.{each_map, has_append, at_snoc_at, grows_self}, Stays.{seats_stay, show_each, slot_returned}, Known.{all_idle, learned}, LockLaws.{one_holds, object_out}, RunLists.extends_self}

-- a caller of the seat `other` is the second of the seat id
abbrev into : ℕ → ℕ → ℕ × ℕ → ℕ × ℕ
into id other a = cond (eqb a.0 other) (id, 1) a

into_else : (id other j k : ℕ) → j ≢ other → ◌≡◌ {A = ℕ × ℕ} (into id other (j, k)) (j, k)
into_else id other j k n = let Q : Bool → Type 0 = λ t. ◌≡◌ {A = ℕ × ℕ} (cond t (id, 1) (j, k)) (j, k) in subst Q (sym (ne_eqb j other n)) refl

into_there : (id other k : ℕ) → ◌≡◌ {A = ℕ × ℕ} (into id other (other, k)) (id, 1)
into_there id other k = let Q : Bool → Type 0 = λ t. ◌≡◌ {A = ℕ × ℕ} (cond t (id, 1) (other, k)) (id, 1) in subst Q (sym (eq-eqb other other refl)) refl

-- the callers of the seat id move up, and the second is the first of the seat n
abbrev shift : ℕ → ℕ → ℕ → ℕ × ℕ
shift id n zero = (id, 0)
shift id n (suc zero) = (n, 0)
shift id n (suc (suc k)) = (id, suc k)

abbrev out_of : ℕ → ℕ → ℕ × ℕ → ℕ × ℕ
out_of id n a = cond (eqb a.0 id) (shift id n a.1) a

out_else : (id n j k : ℕ) → j ≢ id → ◌≡◌ {A = ℕ × ℕ} (out_of id n (j, k)) (j, k)
out_else id n j k away = let Q : Bool → Type 0 = λ t. ◌≡◌ {A = ℕ × ℕ} (cond t (shift id n k) (j, k)) (j, k) in subst Q (sym (ne_eqb j id away)) refl

out_there : (id n k : ℕ) → ◌≡◌ {A = ℕ × ℕ} (out_of id n (id, k)) (shift id n k)
out_there id n k = let Q : Bool → Type 0 = λ t. ◌≡◌ {A = ℕ × ℕ} (cond t (shift id n k) (id, k)) (shift id n k) in subst Q (sym (eq-eqb id id refl)) refl

-- all callers of the seat id are its first
abbrev together : ℕ → ℕ × ℕ → ℕ × ℕ
together id a = cond (eqb a.0 id) (id, 0) a

together_else : (id j k : ℕ) → j ≢ id → ◌≡◌ {A = ℕ × ℕ} (together id (j, k)) (j, k)
together_else id j k away = let Q : Bool → Type 0 = λ t. ◌≡◌ {A = ℕ × ℕ} (cond t (id, 0) (j, k)) (j, k) in subst Q (sym (ne_eqb j id away)) refl

together_there : (id k : ℕ) → ◌≡◌ {A = ℕ × ℕ} (together id (id, k)) (id, 0)
together_there id k = let Q : Bool → Type 0 = λ t. ◌≡◌ {A = ℕ × ℕ} (cond t (id, 0) (id, k)) (id, 0) in subst Q (sym (eq-eqb id id refl)) refl

module _ {O P C R : Type 0} where
  -- the callers stand at other places of the seats
  abbrev pub renamed : GhostState O P C R → (ℕ × ℕ → ℕ × ℕ) → GhostState O P C R
  renamed b f = record { committed = b.committed; run = b.run; lock = b.lock; owner = λ x. f (b.owner x) }

module _ {O P C R : Type 0} (meaning : Ghosts O P C R) (kind : LockKind) (h : Cell O P C R) where
  abbrev pub Rule : Table O P C R → Type 0
  Rule = CellInvariant meaning kind h

  abbrev V : Type 0
  V = SeatView O P C R

  abbrev K : GhostState O P C R → ℕ → ℕ → Caller O P C R → Type 0
  K = CallerInvariant h.numbers

  abbrev All : GhostState O P C R → ℕ → V → Type 0
  All b = SeatInvariant h b

  rename : (b : GhostState O P C R) (f : ℕ × ℕ → ℕ × ℕ) (j k j' k' : ℕ) (c : Caller O P C R) → ◌≡◌ {A = ℕ × ℕ} (f (j, k)) (j', k') → K b j k c → K (renamed b f) j' k' c
  rename b f j k j' k' c e s = record {
    owns = λ x hx. let o = s.owns x hx in (ap f o.0 ∙ e, o.1);
    grows = s.grows;
    extends = s.extends;
    stands = s.stands;
    whole = s.whole;
    rests = s.rests;
    finds = s.finds;
  }

  blank_known : (b : GhostState O P C R) (j : ℕ) → K b j 0 (idle 0 [] [] [])
  blank_known b j = record {
    owns = λ x hx. absurd (true≢false (sym hx));
    grows = record { begins = record { start = refl }; own = λ x hx. absurd (true≢false (sym hx)) };
    extends = record { begins = record { start = refl }; own = λ x hx. absurd (true≢false (sym hx)) };
    stands = λ hx. absurd (true≢false (sym hx));
    whole = λ hx _. absurd (true≢false (sym hx));
    rests = λ x hx _. absurd (true≢false (sym hx));
    finds = λ _ e _. cc;
  }

  -- what was known of a seat that isn't the one that changed
  elsewhere : (b : GhostState O P C R) (f : ℕ × ℕ → ℕ × ℕ) (j : ℕ) (u : V) → ((k : ℕ) → ◌≡◌ {A = ℕ × ℕ} (f (j, k)) (j, k)) → All b j u → All (renamed b f) j u
  elsewhere b f j u same a = record {
    reported = a.reported;
    main = rename b f j 0 j 0 u.main (same 0) a.main;
    others = each_map 1 (λ k c le. rename b f j k j k c (same k)) 1 (omega arith) u.others a.others;
  }

  pub joining : (id : ℕ) (v : V) (other : ℕ) (w : V) → v.others ≡ [] → w.others ≡ [] → Joins Rule id v other w (taken_in v w) spent
  joining id v other w alone alone' s r there apart theirs_at =
      let b = r.state in
      let f = into id other in
      let b' = renamed b f in
      let gone : V = spent in
      let mine = r.each id v there in
      let away : other ≢ id = apart in
      let theirs = r.each other w (⊎_elim {0, 0, 0} (λ (t : (other ≡ id) × (taken_in v w ≡ w)). absurd (away t.0)) (λ (t : (other ≢ id) × (get_elem? s.views other ≡ some w)). t.1) (at_set s.views id other (taken_in v w) w theirs_at)) in
      record {
        state = b';
        tied = r.tied;
        ran = r.ran;
        made = r.made;
        valid = r.valid;
        at_home = r.at_home;
        each = λ j u e. ⊎_elim {0, 0, 0}
            (λ (t : (j ≡ other) × (gone ≡ u)). subst (λ (z : ℕ × V). All b' z.0 z.1) (λ i. (sym t.0 i, t.1 i)) record { reported = tt; main = blank_known b' other; others = tt })
            (λ (t : (j ≢ other) × (get_elem? (set s.views id (taken_in v w)) j ≡ some u)). ⊎_elim {0, 0, 0}
            (λ (q : (j ≡ id) × (taken_in v w ≡ u)). subst (λ (z : ℕ × V). All b' z.0 z.1) (λ i. (sym q.0 i, q.1 i)) record {
              reported = mine.reported;
              main = rename b f id 0 id 0 v.main (into_else id other id 0 (λ z. away (sym z))) mine.main;
              others = (rename b f other 0 id 1 w.main (into_there id other 0) theirs.main, tt);
            })
            (λ (q : (j ≢ id) × (get_elem? s.views j ≡ some u)). elsewhere b f j u (λ k. into_else id other j k t.0) (r.each j u q.1))
            (at_set s.views id j (taken_in v w) u t.1))
            (at_set (set s.views id (taken_in v w)) other j gone u e);
      }

  shift_up : (b : GhostState O P C R) (id n k : ℕ) (cs : List (Caller O P C R)) → EachFrom (K b id) (suc (suc k)) cs → EachFrom (K (renamed b (out_of id n)) id) (suc k) cs
  shift_up b id n k [] e = tt
  shift_up b id n k (c ∷ cs) e = let Q : ℕ → Type 0 = λ z. EachFrom (K b id) z cs in let S : ℕ → Type 0 = λ z. EachFrom (K (renamed b (out_of id n)) id) z cs in let two : suc (suc k) + 1 ≡ suc (suc (suc k)) = omega arith in let one : suc k + 1 ≡ suc (suc k) = omega arith in
      (rename b (out_of id n) id (suc (suc k)) id (suc k) c (out_there id n (suc (suc k))) e.0, subst S (sym one) (shift_up b id n (suc k) cs (subst Q two e.1)))

  rest_known : (b : GhostState O P C R) (id n : ℕ) (cs : List (Caller O P C R)) → EachFrom (K b id) 1 cs → EachFrom (K (renamed b (out_of id n)) id) 1 (behind_first cs)
  rest_known b id n [] e = tt
  rest_known b id n (c ∷ cs) e = shift_up b id n 0 cs e.1

  first_known : (b : GhostState O P C R) (id n : ℕ) (cs : List (Caller O P C R)) → EachFrom (K b id) 1 cs → K (renamed b (out_of id n)) n 0 (first_or_none cs)
  first_known b id n [] e = blank_known (renamed b (out_of id n)) n
  first_known b id n (c ∷ cs) e = rename b (out_of id n) id 1 n 0 c (out_there id n 1) e.0

  pub splitting : (id : ℕ) (v : V) → Splits Rule id v (keeping v) (letting v)
  splitting id v s r there =
      let b = r.state in
      let n : ℕ = length s.views in
      let f = out_of id n in
      let b' = renamed b f in
      let keep : V = keeping v in
      let go : V = letting v in
      let mine = r.each id v there in
      let same : length (set s.views id keep) ≡ n = length-set s.views id keep in
      record {
        state = b';
        tied = r.tied;
        ran = r.ran;
        made = r.made;
        valid = r.valid;
        at_home = r.at_home;
        each = λ j u e. ⊎_elim {0, 0, 0}
            (λ (t : get_elem? (set s.views id keep) j ≡ some u). ⊎_elim {0, 0, 0}
            (λ (q : (j ≡ id) × (keep ≡ u)). subst (λ (z : ℕ × V). All b' z.0 z.1) (λ i. (sym q.0 i, q.1 i)) record {
              reported = mine.reported;
              main = rename b f id 0 id 0 v.main (out_there id n 0) mine.main;
              others = rest_known b id n v.others mine.others;
            })
            (λ (q : (j ≢ id) × (get_elem? s.views j ≡ some u)). elsewhere b f j u (λ k. out_else id n j k q.0) (r.each j u q.1))
            (at_set s.views id j keep u t))
            (λ (t : (j ≡ length (set s.views id keep)) × (go ≡ u)). subst (λ (z : ℕ × V). All b' z.0 z.1) (λ i. (sym (t.0 ∙ same) i, t.1 i)) record {
              reported = mine.reported;
              main = first_known b id n v.others mine.others;
              others = tt;
            })
            (at_snoc_at (set s.views id keep) go u j e);
      }

  pub meeting : (slots id : ℕ) (me : Seat O P C R) (i : ℕ) → Allows Rule slots id me i (λ k. k) (meets meaning (step slots i 0 0 none) me)
  meeting slots id me i s r len there small =
      let b = r.state in
      let v : V = me.0 in
      let mine = r.each id v there in (
        settled v v.main.stage b.committed b.run,
        keeps,
        tt,
        record {
          state = b;
          tied = subst (λ (ws : List ℕ). IsLockOf kind h.numbers ws b.lock) (sym (set-get_or s.words i 0)) r.tied;
          ran = r.ran;
          made = r.made;
          valid = r.valid;
          at_home = r.at_home;
          each = seats_stay h b b s.views id (settled v v.main.stage b.committed b.run)
              record {
                reported = mine.reported;
                main = let k = show_each h b id 0 (v.main ∷ []) (mine.main, tt) in k.0;
                others = show_each h b id 1 v.others mine.others;
              }
              (λ j k c _ z. z) r.each;
        },
        record { log = b.committed; run = b.run; seat = refl; learns = learned meaning kind h b id v r.valid r.ran mine },
      )

  merged_known : (b : GhostState O P C R) (id : ℕ) (v : V) (c : Caller O P C R) → v.others ≡ c ∷ [] → v.main.stage ≡ Idle → c.stage ≡ Idle → All b id v → All (renamed b (together id)) id (merged v b.committed b.run)
  merged_known b id v c is rests c_rests mine =
      let Q : List (Caller O P C R) → Type 0 = λ l. All (renamed b (together id)) id record { reported = v.reported; main = idle (min v.main.cpu (first_or_none l).cpu) (v.main.owned ++ (first_or_none l).owned) b.committed b.run; others = [] } in
      let k = (subst (λ (l : List (Caller O P C R)). EachFrom (K b id) 1 l) is mine.others).0 in
      let all : (x : ℕ) → has x (v.main.owned ++ c.owned) ≡ true → b.lock.line.stage x ≡ Idle = λ x hx. ⊎_elim {0, 0, 0} (all_idle h.numbers b id 0 v.main mine.main rests x) (all_idle h.numbers b id 1 c k c_rests x) (has_append x v.main.owned c.owned hx) in
      subst Q (sym is) record {
        reported = mine.reported;
        main = record {
          owns = λ x hx. ⊎_elim {0, 0, 0}
              (λ hv. let o = mine.main.owns x hv in (ap (together id) o.0 ∙ together_there id 0, o.1))
              (λ hc. let o = k.owns x hc in (ap (together id) o.0 ∙ together_there id 1, o.1))
              (has_append x v.main.owned c.owned hx);
          grows = grows_self (λ x. has x (v.main.owned ++ c.owned)) b.committed;
          extends = extends_self (λ x. has x (v.main.owned ++ c.owned)) b.run;
          stands = λ acts. all (min v.main.cpu c.cpu) acts;
          whole = λ _ _. refl;
          rests = λ x hx _. all x hx;
          finds = λ _ e _. cc;
        };
        others = tt;
      }

  others_stay : (b b' : GhostState O P C R) (views : List V) (id : ℕ) (w : V) → All b' id w → ((j : ℕ) (v : V) → j ≢ id → All b j v → All b' j v)
      → ((j : ℕ) (v : V) → get_elem? views j ≡ some v → All b j v) → (j : ℕ) (v : V) → get_elem? (set views id w) j ≡ some v → All b' j v
  others_stay b b' views id w mine carry each j v there = ⊎_elim {0, 0, 0}
      (λ (t : (j ≡ id) × (w ≡ v)). subst (λ (z : ℕ × V). All b' z.0 z.1) (λ i. (sym t.0 i, t.1 i)) mine)
      (λ (t : (j ≢ id) × (get_elem? views j ≡ some v)). carry j v t.0 (each j v t.1))
      (at_set views id j w v there)

  pub merging : (slots id : ℕ) (me : Seat O P C R) (i : ℕ) (c : Caller O P C R) → me.0.main.stage ≡ Idle → me.0.others ≡ c ∷ [] → c.stage ≡ Idle → Allows Rule slots id me i (λ k. k) (joins meaning (step slots i 0 0 none) me)
  merging slots id me i c rests is c_rests s r len there small =
      let b = r.state in
      let v : V = me.0 in
      let mine = r.each id v there in (
        merged v b.committed b.run,
        keeps,
        tt,
        record {
          state = renamed b (together id);
          tied = subst (λ (ws : List ℕ). IsLockOf kind h.numbers ws b.lock) (sym (set-get_or s.words i 0)) r.tied;
          ran = r.ran;
          made = r.made;
          valid = r.valid;
          at_home = r.at_home;
          each = others_stay b (renamed b (together id)) s.views id (merged v b.committed b.run) (merged_known b id v c is rests c_rests mine)
              (λ j u away. elsewhere b (together id) j u (λ k. together_else id j k away)) r.each;
        },
        record { log = b.committed; run = b.run; seat = refl; learns = learned meaning kind h b id v r.valid r.ran mine },
      )

  -- a holder gives its slot back with no end of the hold
  pub returning_slot : (slots id : ℕ) (me : Seat O P C R) (i : ℕ) → has me.0.main.cpu me.0.main.owned ≡ true → holding me.0.main.stage ≡ true → me.1 ≡ (0, None) ∷ [] → Allows Rule slots id me i (λ k. k) (returns_slot (step slots i 0 0 none) me)
  returning_slot slots id me i acts holds carries s r len there small =
      let v : V = me.0 in
      let mine = r.each id v there in
      let below = (mine.main.owns v.main.cpu acts).1 in
      let has_it = ap holding (mine.main.stands acts) ∙ holds in (
        v,
        gives,
        tt,
        slot_returned meaning kind h s r i id v me.1 (object_out h.numbers r.state.lock r.tied.state v.main.cpu below has_it) there,
        λ z. (v, rest (carries z)),
      )

  -- two holders of one cell can't be
  pub meeting_second : (slots id : ℕ) (me : Seat O P C R) (i : ℕ) (c : Caller O P C R) → has me.0.main.cpu me.0.main.owned ≡ true → holding me.0.main.stage ≡ true → me.0.others ≡ c ∷ [] → has c.cpu c.owned ≡ true → holding c.stage ≡ true
      → Allows Rule slots id me i (λ k. k) (second_holder (step slots i 0 0 none) me)
  meeting_second slots id me i c acts holds is c_acts c_holds s r len there small =
      let b = r.state in
      let v : V = me.0 in
      let mine = r.each id v there in
      let k = (subst (λ (l : List (Caller O P C R)). EachFrom (K b id) 1 l) is mine.others).0 in
      let one = mine.main.owns v.main.cpu acts in
      let two = k.owns c.cpu c_acts in
      let same : v.main.cpu ≡ c.cpu = one_holds h.numbers b.lock r.tied.state v.main.cpu c.cpu one.1 two.1 (ap holding (mine.main.stands acts) ∙ holds) (ap holding (k.stands c_acts) ∙ c_holds) in
      let both : ◌≡◌ {A = ℕ} 0 1 = ap (λ (z : ℕ × ℕ). z.1) (sym one.0 ∙ (ap b.owner same ∙ two.0)) in
      absurd (omega arith)
