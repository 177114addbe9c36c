-- `replace_with_lent` keeps the borrow of dest open while f runs, and shuts it at what f gave back. The two other borrows go to f for good, each at its own lifetime and name. Assumes `Logic`.
use mathlib.Core.Path.{◌≡◌, refl, sym, subst, ap, ◌∙◌}
use mathlib.Core.Bool.{Bool, true, false, ◌&&◌}
use Prim.Native.Nat.{ℕ}
use mathlib.Core.List.{List, [], ◌∷◌, ◌++◌}
use lib.Dec.{T}
use seplogic.Ra.Ura.{Ura}
use mir.Syntax.{Ty, Args, Fn, Body, Dict, a_type, dnil, dcons, method, no_args, place, assign, rv_opd, copy, seq, return}
use mir.Val.{Val, vptr, vstruct, of_list, has_ty, WT}
use mir.MapTy.{inst_fn}
use base.Logic.{SProp, ent, emp, via, id⊢, fst∗, snd∗}
use base.Fml.{ftrue, flft}
use prog.Memory.{Memory}
use prog.Routine.{Routine}
use prog.Wp.{Env, WpFn, Tables}
use types.Logic.{Logic, sem}
use contract.BorrowLft.{◌⊑◌}
use contract.Lifetimes.{Lfts}
use contract.Monad.{Fun, fact, fact_i, fact_use}
use contract.Running.{tables, tables_of}
use sound.WpLaws.{fm_of, WpFn-mono}
use types.Kit.{Goal, Seq, Item, ‵, raw, ◌⊛◌, some, later, at_ret, ◌$◌, ◌∵◌, !, qed, move, keep, drop, use0, use1, split, split3, join, pick, rewrite, fsplit, fsplit3, fjoin, fjoin3, fpick, feq_i, feq_l, suffices, await, done}
use types.Part.{whole, sub}
use types.Run.{look_raw, store_raw, stop, fld, load, addr, no_more, and_then, of_opd, assigns, first, blocks, exec, returns, enter}
use types.ByLocal.{alloc_all, pass_all, free_all, look_at, get, get_in, through, sets, sets_last, lands_as, env}
use denote.Exit.{no}
use denote.RattleType.{RattleType, owns}
use denote.Laws.{Typed, Is, Are, Ises, shows, owns_show, showss}
use denote.Param.{layout, bounded, param}
use denote.Param.Laws.{Laws, param_laws}
use denote.Param.Steps.{one_value, opens_one}
use denote.Param.Call as called
use denote.Signature.{plain, types_at}
use denote.Struct.Tuple.{Tuple}
use denote.Steps.{heard, nothing, only, peeks, closes}
use denote.Triple.Call.{calls_at}
use denote.Ref.{at_last, mut_vals}
use denote.Triple.Clauses.{Ended, Clauses, Lasts, lasts, closing}
use denote.Triple.Entry.{Args as Args', on_entry, alive}
use denote.Triple.Spec.{Meets, triple_of}
use denote.Triple.Statement.{Triple, Contract}
use denote.Triple.Table.{entered}
use denote.Triple.Walked.{Stays, stay_ref, gave_ref, stay_dropped, walk_of, ends_at, says, Goes-ref, Goes-gave_ref, Goes-dropped, walk_Meets}
use Rattle.c_handle.specs.contracts.lent.replace_with_lent as F
use Rattle.c_handle.specs.contracts.lent.replace_with_lent.F-FnOnce as Called
use Rattle.c_handle.specs.contracts.lent.replace_with_lent.Key as key
use Rattle.c_handle.proofs.lent.replace_with_lent.Statement as stated
use Rattle.c_handle.proofs.lent.replace_with_lent.Code as code

both : (a b : Bool) → T a → T b → T (a && (b && true))
both true true s t = tt
both true false s t = absurd t
both false b s t = absurd s

alone : (τ : Ty) (vs : List Val) → Typed (τ ∷ []) vs → (v : Val) × ((vs ≡ v ∷ []) × (T (has_ty τ v) × WT v))
alone τ [] t = absurd t
alone τ (v ∷ []) t = (v, (refl, t.0))
alone τ (v ∷ w ∷ vs) t = absurd t.1

module _ {M : Type 1} {𝓤 : Ura M} {𝓛 : Logic 𝓤} {K : Type 0} {Γ : List (Item 𝓤)} {G : Goal 𝓤 𝓛.H} where
  -- what is owned of a parameter's value is one machine value
  tells : K → (i : ℕ) (Z : RattleType) → Laws Z → (a : Z.Denot) (vs : List Val)
      → ((v : Val) → vs ≡ v ∷ [] → T (has_ty (layout Z) v) × WT v → Seq K 𝓛 (‵ (Z.own_val a (v ∷ [])) ∷ Γ) G) → Seq K 𝓛 (‵ (Z.own_val a vs) ∷ Γ) G
  tells t i Z L a vs k =
      peeks t (param i Z) (Is (param i Z)) (shows 𝓛 (param i Z)) a vs (λ is.
      let one = alone (layout Z) vs (((param_laws i Z L).lawful 𝓛).typed a vs is) in
      rewrite t 0 (λ (us : List Val). ‵ (Z.own_val a us)) one.1.0 refl $ k one.0 one.1.0 one.1.1)

abbrev rest : Body
rest = seq (assign (place 0 []) (rv_opd (copy (place 9 [])))) return

-- the types of dest's value, x, a's value, b's value, the result and f
module _ (Y X A B R Z : RattleType) (g : Called.Ghosts Y X A B R Z) (d d' : Dict) where
  abbrev args : Args
  args = bounded (a_type ∷ a_type ∷ a_type ∷ a_type ∷ a_type ∷ a_type ∷ []) (Y, (X, (A, (B, (R, (Z, tt)))))) (dcons d (dcons d' dnil))

  abbrev here : Fn
  here = inst_fn args code.function

  abbrev ended : Ended
  ended = F.ended Y X A B R Z g d d'

  abbrev callee : Ended
  callee = Called.ended Y X A B R Z

  abbrev stayed : Stays ended.signature.params ended.kept
  stayed = (
    stay_ref (0 ∷ []) tt (plain (λ _. param 0 Y)),
    (
      stay_dropped (plain (λ _. param 1 X)) no,
      (gave_ref (1 ∷ []) tt (plain (λ _. param 2 A)), (gave_ref (2 ∷ []) tt (plain (λ _. param 3 B)), (stay_dropped (plain (λ _. param 5 Z)) no, tt))),
    ),
  )

  abbrev Once : {M : Type 1} {𝓤 : Ura M} (𝓛 : Logic 𝓤) → Contract 𝓤
  Once 𝓛 = triple_of 𝓛 callee.signature
      (called.spec callee 6 (λ κs. (κs.1.1.0, (κs.1.1.1.0, (κs.1.1.1.1.0, (κs.1.1.1.1.1.0, (κs.1.1.1.1.1.1.0, (κs.1.1.1.1.1.1.1.0, tt)))))))
      (Z.lives, (Y.lives, (X.lives, (A.lives, (B.lives, (R.lives, tt))))))
      (Called.pair Y X A B R Z g) (λ κs a. a) (λ κs a. a) (λ κs a. a) 𝓛)

  module _ (LY : Laws Y) (LX : Laws X) (LA : Laws A) (LB : Laws B) (LR : Laws R) (LZ : Laws Z) {M : Type 1} {𝓤 : Ura M} (𝓛 : Logic 𝓤) (at_mem : Memory → SProp 𝓤) (run : Routine → Fun 𝓤) (𝓣 : Tables 𝓤 𝓛.H) (met : Triple 𝓤 (𝓣.C (method d 0 no_args)) (Once 𝓛)) where
    open 𝓛 use {H}

    abbrev held : Clauses 𝓤 ended
    held = F.clauses Y X A B R Z g d d' 𝓛 at_mem run

    module _ (z : (walk_of 𝓛 ended stayed held).Ghost) where
      abbrev At : List Val → List Val → List Val → List Val → List Val → (walk_of 𝓛 ended stayed held).Ghost
      At us xs ps ts fs = ((z.0.0, z.0.1, z.0.2, z.0.3, (us, (xs, (ps, (ts, (fs, tt)))))), z.1)

      abbrev Goes : List Val → List Val → List Val → List Val → List Val → Type 1
      Goes us xs ps ts fs = ent 𝓤 ((walk_of 𝓛 ended stayed held).pre (At us xs ps ts fs)) (WpFn 𝓤 H 𝓣.C 𝓣.Λ here (us ++ (xs ++ (ps ++ (ts ++ (fs ++ []))))) ((walk_of 𝓛 ended stayed held).post (At us xs ps ts fs)))

      abbrev to : List Val
      to = mut_vals z.0.3.0

      abbrev to_a : List Val
      to_a = mut_vals z.0.3.1.1.0

      abbrev to_b : List Val
      to_b = mut_vals z.0.3.1.1.1.0

      walk : (u : Val) → T (has_ty (layout X) u) × WT u → (w : Val) → T (has_ty (layout Z) w) × WT w → Goes to (u ∷ []) to_a to_b (w ∷ [])
      walk u gu w gw =
          let κ₀ = z.0.0.0 in let κ₁ = z.0.0.1.0 in let κ₂ = z.0.0.1.1.0 in let κ₃ = z.0.0.1.1.1.0 in let κ₄ = z.0.0.1.1.1.1.0 in let κ₅ = z.0.0.1.1.1.1.1.0 in let κ₆ = z.0.0.1.1.1.1.1.1.0 in let κ₇ = z.0.0.1.1.1.1.1.1.1.0 in let κ₈ = z.0.0.1.1.1.1.1.1.1.1.0 in
          let q₀ = z.0.1.0 in let q₁ = z.0.1.1.0 in let q₂ = z.0.1.1.1.0 in let q₃ = z.0.1.1.1.1.0 in let q₄ = z.0.1.1.1.1.1.0 in let q₅ = z.0.1.1.1.1.1.1.0 in let q₆ = z.0.1.1.1.1.1.1.1.0 in let q₇ = z.0.1.1.1.1.1.1.1.1.0 in let q₈ = z.0.1.1.1.1.1.1.1.1.1.0 in
          let p = z.0.3.0.ref_ptr.0 in let o = z.0.3.0.ref_ptr.1 in let h = z.0.3.0.now in let x = z.0.3.1.0 in let a = z.0.3.1.1.0 in let b = z.0.3.1.1.1.0 in let f = z.0.3.1.1.1.1.0 in
          let y₀ = At to (u ∷ []) to_a to_b (w ∷ []) in
          let Post : Val → SProp 𝓤 = (walk_of 𝓛 ended stayed held).post y₀ in
          let Ok : Type 0 = g.pre f (h, (x, (a, (b, tt)))) in
          let Pair : RattleType = Tuple (param 0 Y ∷ param 4 R ∷ []) in
          let κs : Lfts 8 = (κ₁, (κ₂, (κ₈, (κ₃, (κ₄, (κ₅, (κ₆, (κ₇, tt)))))))) in
          let passed : Args' callee.signature κs = (f, (h, (x, (a, (b, tt))))) in
          qed 𝓛 (((‵ (flft κ₀ q₀) ⊛ ‵ (flft κ₁ q₁) ⊛ ‵ (flft κ₂ q₂) ⊛ ‵ (flft κ₃ q₃) ⊛ ‵ (flft κ₄ q₄) ⊛ ‵ (flft κ₅ q₅) ⊛ ‵ (flft κ₆ q₆) ⊛ ‵ (flft κ₇ q₇) ⊛ ‵ (flft κ₈ q₈) ⊛ ‵ ftrue) ⊛ ‵ (owns (types_at ended.signature.params z.0.0) z.0.3 y₀.0.4))
          ∷ (raw (fact 𝓤 (κ₃ ⊑ Y.lives)) ⊛ raw (fact 𝓤 (κ₄ ⊑ X.lives)) ⊛ raw (fact 𝓤 (κ₅ ⊑ A.lives)) ⊛ raw (fact 𝓤 (κ₆ ⊑ B.lives)) ⊛ raw (fact 𝓤 (κ₇ ⊑ R.lives)) ⊛ raw (fact 𝓤 (κ₈ ⊑ Z.lives)) ⊛ raw (fact 𝓤 Ok)) ∷ []) ∵
          move ! (1 ∷ []) $ split ! $ heard ! (κ₃ ⊑ Y.lives) (λ inY. split ! $ heard ! (κ₄ ⊑ X.lives) (λ inX. split ! $ heard ! (κ₅ ⊑ A.lives) (λ inA. split ! $ heard ! (κ₆ ⊑ B.lives) (λ inB.
          split ! $ heard ! (κ₇ ⊑ R.lives) (λ in_r. split ! $ heard ! (κ₈ ⊑ Z.lives) (λ inZ. heard ! Ok (λ ok.
          split ! $ split ! $ move ! (2 ∷ []) $ fsplit3 ! $ move ! (2 ∷ []) $ fsplit3 ! $ move ! (2 ∷ []) $ fsplit ! $ move ! (4 ∷ []) $ fsplit3 ! $ keep ! (1 ∷ 2 ∷ 8 ∷ 3 ∷ 5 ∷ 6 ∷ 7 ∷ 9 ∷ []) $
          enter ! 𝓣.C 𝓣.Λ here (vptr p o ∷ u ∷ vptr a.ref_ptr.0 a.ref_ptr.1 ∷ vptr b.ref_ptr.0 b.ref_ptr.1 ∷ w ∷ []) _ $ alloc_all ! (λ l. pass_all ! refl ((tt, tt), (gu, ((tt, tt), ((tt, tt), (gw, tt))))) $
          let En : Env 𝓤 H = env here.locals l in
          opens_one ! tt 0 Y ((param_laws 0 Y LY).lawful 𝓛) p o (λ v gv. move ! (1 ∷ []) $
          -- [dest's place; its value; its open borrow, obs, auth; f; a; b; x; the tokens]
          sets ! (addr ! (through ! refl (stop !))) refl (tt, tt) $ first ! $ blocks ! $
          sets ! (of_opd ! (get ! refl)) refl gw $ sets ! (of_opd ! (load ! (through ! refl (stop !)) (look_raw ! 0 refl))) refl gv $ sets ! (of_opd ! (get ! refl)) refl gu $
          sets ! (addr ! (through ! refl (stop !))) refl (tt, tt) $ sets ! (addr ! (through ! refl (stop !))) refl (tt, tt) $
          let y : (Once 𝓛).Ghost = ((κs, (q₁, (q₂, (q₈, (q₃, (q₄, (q₅, (q₆, (q₇, tt)))))))), (z.0.2.1.0, (z.0.2.1.1.0, tt)), passed, (w ∷ [], (v ∷ [], (u ∷ [], (to_a, (to_b, tt)))))), tt) in
          use0 𝓛 (raw (fact 𝓤 Ok)) (fact_i 𝓤 Ok (emp 𝓤) ok) $ use0 𝓛 (raw (fact 𝓤 (κ₇ ⊑ R.lives))) (fact_i 𝓤 (κ₇ ⊑ R.lives) (emp 𝓤) in_r) $ join ! $
          use0 𝓛 (raw (fact 𝓤 (κ₆ ⊑ B.lives))) (fact_i 𝓤 (κ₆ ⊑ B.lives) (emp 𝓤) inB) $ join ! $ use0 𝓛 (raw (fact 𝓤 (κ₅ ⊑ A.lives))) (fact_i 𝓤 (κ₅ ⊑ A.lives) (emp 𝓤) inA) $ join ! $
          use0 𝓛 (raw (fact 𝓤 (κ₄ ⊑ X.lives))) (fact_i 𝓤 (κ₄ ⊑ X.lives) (emp 𝓤) inX) $ join ! $ use0 𝓛 (raw (fact 𝓤 (κ₃ ⊑ Y.lives))) (fact_i 𝓤 (κ₃ ⊑ Y.lives) (emp 𝓤) inY) $ join ! $
          use0 𝓛 (raw (fact 𝓤 (κ₈ ⊑ Z.lives))) (fact_i 𝓤 (κ₈ ⊑ Z.lives) (emp 𝓤) inZ) $ join ! $
          nothing ! $ move ! (9 ∷ 0 ∷ []) $ fjoin ! $ move ! (8 ∷ 0 ∷ []) $ fjoin ! $ move ! (8 ∷ 0 ∷ []) $ fjoin ! $ move ! (3 ∷ 0 ∷ []) $ fjoin ! $ move ! (6 ∷ 0 ∷ []) $ fjoin ! $
          move ! (6 ∷ []) $ split3 ! $ move ! (2 ∷ []) $ split3 ! $ move ! (2 ∷ []) $ split3 ! $ move ! (2 ∷ []) $ split3 ! $
          move ! (0 ∷ 2 ∷ []) $ join ! $ move ! (3 ∷ 0 ∷ []) $ join ! $ move ! (2 ∷ 0 ∷ []) $ join ! $ move ! (3 ∷ 0 ∷ []) $ join ! $ move ! (2 ∷ 0 ∷ []) $ join ! $ move ! (1 ∷ 0 ∷ []) $ join ! $ move ! (2 ∷ 0 ∷ []) $ join ! $ move ! (1 ∷ 0 ∷ []) $ join ! $ join ! $ join ! $
          use1 𝓛 (raw ((Once 𝓛).pre y)) (id⊢ 𝓤 ((Once 𝓛).pre y)) $
          calls_at ! (fm_of 𝓤 H 𝓛.laws 𝓣) (Once 𝓛) met y (and_then ! (get ! refl) (and_then ! (get ! refl) (and_then ! (get ! refl) (and_then ! (get ! refl) (and_then ! (get ! refl) (no_more !)))))) (λ got.
          let Gave : Pair.Denot → Lasts callee κs passed → Type 0 = λ r ws. g.post f (h, (x, (a, (b, tt)))) (r, (at_last a ws.1.1.1.0, (at_last b ws.1.1.1.1.0, tt))) in
          use1 𝓛 (later (some (λ (r : Pair.Denot). ((‵ (flft κ₁ q₁) ⊛ ‵ (flft κ₂ q₂) ⊛ ‵ (flft κ₈ q₈) ⊛ ‵ (flft κ₃ q₃) ⊛ ‵ (flft κ₄ q₄) ⊛ ‵ (flft κ₅ q₅) ⊛ ‵ (flft κ₆ q₆) ⊛ ‵ (flft κ₇ q₇) ⊛ ‵ ftrue) ⊛ ‵ (Pair.own_val r (got ∷ [])))
          ⊛ some (λ (ws : Lasts callee κs passed). ‵ (lasts callee κs passed ws) ⊛ raw (fact 𝓤 (Gave r ws)))))) (id⊢ 𝓤 ((Once 𝓛).post y got)) $
          await ! tt $ pick ! (λ r. split ! $ move ! (1 ∷ []) $ pick ! (λ ws. split ! $ move ! (1 ∷ []) $ heard ! (Gave r ws) (λ gave.
          fsplit3 ! $ drop ! $ drop ! $ fsplit3 ! $ drop ! $ move ! (1 ∷ []) $ fsplit ! $ move ! (1 ∷ []) $ drop ! $ move ! (2 ∷ []) $
          -- [the tokens and the result; b given up; a given up; dest's place; its open borrow, obs, auth]
          split ! $ move ! (1 ∷ []) $ fpick ! (λ vss. fsplit ! $ feq_l ! (λ e. fsplit3 ! $
          tells ! 0 Y LY r.0 vss.0 (λ v₁ e₁ g₁. move ! (1 ∷ []) $ tells ! 4 R LR r.1 vss.1.0 (λ v₂ e₂ g₂.
          -- [the result; the new value; nothing; the tokens; b given up; a given up; the place; the open borrow]
          lands_as ! (ap only e ∙ (λ i. vstruct (of_list (e₁ i ++ (e₂ i ++ []))))) refl (both (has_ty (layout Y) v₁) (has_ty (layout R) v₂) g₁.0 g₂.0, (g₁.1, (g₂.1, tt))) $
          sets ! (of_opd ! (get_in ! (fld ! refl (stop !)) (sub ! 0 refl (whole !)))) refl g₁ $ sets ! (of_opd ! (get_in ! (fld ! refl (stop !)) (sub ! 1 refl (whole !)))) refl g₂ $
          sets ! (of_opd ! (get ! refl)) refl g₁ $ assigns ! (of_opd ! (get ! refl)) (through ! refl (stop !)) (store_raw ! 6 refl g₁) $ sets_last ! (of_opd ! (get ! refl)) refl g₂ $
          exec ! 𝓣.C 𝓣.Λ En rest (at_ret En Post) $ sets ! (of_opd ! (get ! refl)) refl g₂ $
          move ! (6 ∷ 1 ∷ 7 ∷ 8 ∷ 9 ∷ []) $ closes ! tt (param 0 Y) r.0 (v₁ ∷ []) p o $ returns ! (look_at ! 0 refl) $ free_all ! refl $
          suffices ! _ (ends_at 𝓛 ended stayed held y₀ v₂ r.1 (r.0, (tt, (ws.1.1.1.0, (ws.1.1.1.1.0, (tt, tt))))) (tt, (tt, (tt, (tt, (tt, tt)))))) $ says ! gave $
          feq_i ! (List Val) to to refl $ fjoin3 ! $ nothing ! $ nothing ! $ fjoin ! $ move ! (6 ∷ 0 ∷ []) $ fjoin ! $ move ! (6 ∷ 0 ∷ []) $ fjoin ! $ nothing ! $ fjoin ! $ move ! (1 ∷ 0 ∷ []) $ fjoin ! $ move ! (0 ∷ 2 ∷ []) $ join ! $
          move ! (3 ∷ []) $ split3 ! $ move ! (2 ∷ []) $ split3 ! $ move ! (2 ∷ []) $ split3 ! $ move ! (2 ∷ []) $ split3 ! $
          move ! (5 ∷ 2 ∷ []) $ join ! $ move ! (2 ∷ 0 ∷ []) $ join ! $ move ! (1 ∷ 0 ∷ []) $ join ! $ move ! (2 ∷ 0 ∷ []) $ join ! $ move ! (1 ∷ 0 ∷ []) $ join ! $ move ! (1 ∷ 0 ∷ []) $ join ! $ move ! (2 ∷ 0 ∷ []) $ join ! $ move ! (1 ∷ 0 ∷ []) $ join ! $ move ! (2 ∷ 0 ∷ []) $ join ! $
          keep ! (0 ∷ 1 ∷ []) $ done !)))))))))))))))))

    meets : Meets 𝓛 ended.signature (WpFn 𝓤 H 𝓣.C 𝓣.Λ here) (closing 𝓛 ended held)
    meets =
        walk_Meets 𝓛 ended stayed (
          Goes-ref 𝓛 9 0 tt (plain (λ _. param 0 Y)),
          (
            Goes-dropped 𝓛 9 (plain (λ _. param 1 X)) no (λ κs x f. refl),
            (
              Goes-gave_ref 𝓛 9 1 tt (plain (λ _. param 2 A)),
              (Goes-gave_ref 𝓛 9 2 tt (plain (λ _. param 3 B)), (Goes-dropped 𝓛 9 (plain (λ _. param 5 Z)) no (λ κs x f. refl), tt)),
            ),
          ),
        ) held
        (WpFn 𝓤 H 𝓣.C 𝓣.Λ here) (WpFn-mono 𝓤 H 𝓛.laws 𝓣 here)
        (λ z. let a = z.0.3 in let vss = z.0.4 in let Rs : List RattleType = types_at ended.signature.params z.0.0 in
        let entry : SProp 𝓤 = on_entry 𝓛 ended.signature z.0.0 z.0.1 a vss in
        fact_use 𝓤 (Are Rs (Ises Rs) a vss) (via 𝓤 (sem 𝓛 (owns Rs a vss)) (via 𝓤 entry (fst∗ 𝓤 entry ((held z.0.0 a).requires z.1)) (snd∗ 𝓤 (alive 𝓛 ended.signature z.0.0 z.0.1) (sem 𝓛 (owns Rs a vss)))) (owns_show 𝓛 Rs (Ises Rs) (showss 𝓛 Rs) a vss)) (λ are.
        subst (λ (us : List Val). Goes z us vss.1.0 vss.1.1.0 vss.1.1.1.0 vss.1.1.1.1.0) (sym are.0.0)
        (subst (λ (us : List Val). Goes z (to z) vss.1.0 us vss.1.1.1.0 vss.1.1.1.1.0) (sym are.1.1.0.0)
        (subst (λ (us : List Val). Goes z (to z) vss.1.0 (to_a z) us vss.1.1.1.1.0) (sym are.1.1.1.0.0)
        (one_value (layout X) (λ xs. Goes z (to z) xs (to_a z) (to_b z) vss.1.1.1.1.0) vss.1.0 (((param_laws 1 X LX).lawful 𝓛).typed a.1.0 vss.1.0 are.1.0) (λ u gu.
        one_value (layout Z) (λ fs. Goes z (to z) (u ∷ []) (to_a z) (to_b z) fs) vss.1.1.1.1.0 (((param_laws 5 Z LZ).lawful 𝓛).typed a.1.1.1.1.0 vss.1.1.1.1.0 are.1.1.1.1.0) (walk z u gu)))))))

pub replace_with_lent_spec : {M : Type 1} → stated.statement M
unfolding tables_of
replace_with_lent_spec 𝓤 𝓛 𝓜 𝓡 wired Y X A B R Z LY LX LA LB LR LZ g d d' met _ =
    let 𝓣 : Tables 𝓤 𝓛.H = tables_of 𝓤 𝓛.H 𝓜 (tables 𝓤 𝓛.H 𝓜 𝓡 𝓡.env) in
    entered 𝓤 𝓛.H (triple_of 𝓛 (F.signature Y X A B R Z) (F.spec Y X A B R Z g d d' 𝓛 𝓜.mem 𝓡.returns)) 𝓣.C 𝓣.Λ (key.name (args Y X A B R Z g d d')) (here Y X A B R Z g d d')
    (code.unfolded 𝓤 𝓛.H 𝓜 𝓡 wired (Y, (X, (A, (B, (R, (Z, tt)))))) d d')
    (meets Y X A B R Z g d d' LY LX LA LB LR LZ 𝓛 𝓜.mem 𝓡.returns 𝓣 met.1)
