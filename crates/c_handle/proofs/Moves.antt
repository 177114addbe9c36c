-- A function that moves the two fields of one owner into another. Both own what a box owns, so what the fields own goes with them.
use mathlib.Core.Path.{◌≡◌, refl, sym, subst}
use mathlib.Core.List.{List, [], ◌∷◌, ◌++◌}
use seplogic.Ra.Ura.{Ura}
use mir.{Syntax.{Fn, Sym, Tys, ty_ptr, ty_struct, tnil, tcons, place, field, copy, assign, rv_opd, aggregate, seq, return, local, value_local}, Val.{Val}}
use base.{Logic.{ent, emp}, Fml.{Fml, ftrue, fsep}}
use prog.{Routine.Callee, Wp.{WpFn, Tables, Closed}}
use types.{Logic.Logic, Kit.{Item, ‵, raw, ◌⊛◌, ◌$◌, ◌∵◌, !, qed, by, move, drop, rewrite, join, split, fsplit, fjoin, suffices, done}, Part.{whole, sub, agg}, Run.{stop, fld, no_more, and_then, of_opd, returns, enter}, ByLocal.{alloc_all, pass_all, free_all, look_at, get, get_in, sets}}
use contract.Monad.{fact}
use sound.WpLaws.{WpFn-mono}
use denote.{RattleType.RattleType, Exit.{yes, Last, left}, Signature.plain, Steps.nothing, Triple.Clauses.{Ended, Clauses, closing}, Triple.Spec.triple_of, Triple.Statement.Triple, Triple.Table.entered, Triple.Walked.{says, Stays, stay_dropped, walk_of, ends_at, Goes-dropped, walk_Meets}}
use Rattle.core.proofs.alloc.Calls.{α}
use Rattle.std_alloc.proofs.{BoxSteps.Form.{Bx, D, B, word, box_typed}, BoxSteps.Steps.{box_out, box_in}}

module _ (E : Bx) where
  abbrev fields : Tys
  fields = tcons ty_ptr (tcons (α E.al) tnil)

  -- its MIR, by the names of the two structs
  abbrev pub moved : Sym → Sym → Fn
  moved from to = record {
    lifetimes = 0;
    outlives = [];
    ty_params = [];
    givens = 0;
    params = 1;
    locals = local (ty_struct to fields) value_local ∷ local (ty_struct from fields) value_local ∷ local ty_ptr value_local ∷ local (α E.al) value_local ∷ local ty_ptr value_local ∷ [];
    body = seq (assign (place 2 []) (rv_opd (copy (place 1 (field 0 ∷ []))))) (seq (assign (place 3 []) (rv_opd (copy (place 1 (field 1 ∷ []))))) (seq (assign (place 4 []) (rv_opd (copy (place 2 []))))
        (seq (assign (place 0 []) (aggregate (copy (place 4 []) ∷ copy (place 3 []) ∷ []))) return)));
  }

  module _ (From To : RattleType) (parts : From.Denot → D E) (made : From.Denot → To.Denot)
      (opens : (x : From.Denot) (vs : List Val) → From.own_val x vs ≡ (B E).own_val (parts x) vs)
      (shuts : (x : From.Denot) (vs : List Val) → To.own_val (made x) vs ≡ (B E).own_val (parts x) vs)
      (last : (x : From.Denot) → Last (From.exit yes) x)
      (silent : (x : From.Denot) (f : Last (From.exit yes) x) → left (From.exit yes) x f ≡ ftrue)
      (P : From.Denot → To.Denot → Type 0) (holds : (x : From.Denot) → P x (made x)) where
    abbrev ended : Ended
    ended = record { signature = record { lifetimes = 0; outlives = []; params = plain (λ _. From) ∷ []; result = plain (λ _. To) }; kept = (yes, tt) }

    abbrev stayed : Stays ended.signature.params ended.kept
    stayed = (stay_dropped (plain (λ _. From)) yes, tt)

    module _ {M : Type 1} {𝓤 : Ura M} (𝓛 : Logic 𝓤) (𝓣 : Tables 𝓤 𝓛.H) (from to : Sym) where
      open 𝓛 use {H}

      abbrev held : Clauses 𝓤 ended
      held = λ κs a. record { ghost = Unit {0}; requires = λ _. emp 𝓤; ensures = λ _ r _. fact 𝓤 (P a.0 r) }

      walk : (z : (walk_of 𝓛 ended stayed held).Ghost) → ent 𝓤 ((walk_of 𝓛 ended stayed held).pre z) (WpFn 𝓤 H 𝓣.C 𝓣.Λ (moved from to) (z.0.4.0 ++ []) ((walk_of 𝓛 ended stayed held).post z))
      walk z =
          let Post = (walk_of 𝓛 ended stayed held).post z in
          let x = z.0.3.0 in let v = parts x in
          qed 𝓛 ((‵ ftrue ⊛ ‵ (fsep (From.own_val x z.0.4.0) ftrue)) ∷ raw (emp 𝓤) ∷ []) ∵ split ! $ drop ! $ fsplit ! $ rewrite ! 0 (λ (f : Fml). ‵ f) (opens x z.0.4.0) refl $
          box_out E ! v z.0.4.0 (λ b o hv e ws fa. box_in E ! v b o v.value e refl $
          let w = word E hv b o in
          rewrite ! 0 (λ (f : Fml). ‵ f) (sym (shuts x (w ∷ []))) refl $ move ! (1 ∷ 2 ∷ []) $ drop ! $ drop ! $
          let Γ : List (Item 𝓤) = ‵ (To.own_val (made x) (w ∷ [])) ∷ [] in
          by ! (subst (λ (us : List Val). ent 𝓤 (types.Kit.⋆ 𝓛 Γ) (WpFn 𝓤 H 𝓣.C 𝓣.Λ (moved from to) (us ++ []) Post)) (sym ws)
          (qed 𝓛 Γ ∵ enter ! 𝓣.C 𝓣.Λ (moved from to) (w ∷ []) _ $ alloc_all ! (λ ls. pass_all ! refl (box_typed E hv b o fa, tt) $
          sets ! (of_opd ! (get_in ! (fld ! refl (stop !)) (sub ! 0 refl (whole !)))) refl (tt, tt) $ sets ! (of_opd ! (get_in ! (fld ! refl (stop !)) (sub ! 1 refl (whole !)))) refl fa $
          sets ! (of_opd ! (get ! refl)) refl (tt, tt) $
          sets ! (agg ! (and_then ! (get ! refl) (and_then ! (get ! refl) (no_more !)))) refl (box_typed E hv b o fa) $ returns ! (look_at ! 0 refl) $ free_all ! refl $
          suffices ! _ (ends_at 𝓛 ended stayed held z w (made x) (last x, tt) (tt, tt)) $ says ! (holds x) $
          nothing ! $ nothing ! $ fjoin ! $ join ! $ nothing ! $ join ! $ done !))))

      pub moves : (k : Callee) → Closed 𝓤 H 𝓣.C 𝓣.Λ k (moved from to) → Triple 𝓤 (𝓣.C k) (triple_of 𝓛 ended.signature (closing 𝓛 ended held))
      moves k closed =
          entered 𝓤 H (triple_of 𝓛 ended.signature (closing 𝓛 ended held)) 𝓣.C 𝓣.Λ k (moved from to) closed
          (walk_Meets 𝓛 ended stayed (Goes-dropped 𝓛 0 (plain (λ _. From)) yes (λ κs x f. silent x f), tt) held (WpFn 𝓤 H 𝓣.C 𝓣.Λ (moved from to)) (WpFn-mono 𝓤 H 𝓛.laws 𝓣 (moved from to)) walk)
