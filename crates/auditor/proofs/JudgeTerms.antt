-- The terms of objects, and of objects with a judge for each.
use Rattle.std.proofs.{Common.{◌≡◌, ℕ, zero, suc, List, [], ◌∷◌, ◌++◌, length, get_or, refl, sym, ap, ◌∙◌, arith}, lemmas.List.length-map}
use Rattle.event_log.specs.{declared.object.SeqObject.Ghosts, declared.entry.Run.Run}
use Rattle.auditor.specs.{declared.opened_object.OpenedObject.OpenedObject, Passes.{IsRunOf, IsRunOver}, Terms.{terms_at, terms_with, start, starts}, Transcripts.{judged_by, opened_by}}

-- one more
pub terms_more : {T O P C R J : Type 0} (shows : J → T) (opened : List (OpenedObject O P C R)) (judges : List J) (t : OpenedObject O P C R) (j : J) → length judges ≡ length opened → terms_with shows (opened ++ t ∷ []) (judges ++ j ∷ []) ≡ terms_with shows opened judges ++ terms_at t (shows j) ∷ []
terms_more shows [] [] t j same = refl
terms_more shows [] (k ∷ judges) t j same = absurd (omega (arith, same))
terms_more shows (u ∷ opened) [] t j same = absurd (omega (arith, same))
terms_more shows (u ∷ opened) (k ∷ judges) t j same = ap (λ l. terms_at u (shows k) ∷ l) (terms_more shows opened judges t j (omega (arith, same)))

module _ {O P C R : Type 0} (meaning : Ghosts O P C R) where
  -- an object's terms at its place
  start_at : (opened : List (OpenedObject O P C R)) (i : ℕ) (t : OpenedObject O P C R) → get_or (starts meaning (opened_by opened)) i (start meaning (judged_by t)) ≡ start meaning (judged_by (get_or opened i t))
  start_at [] i t = refl
  start_at (u ∷ opened) zero t = refl
  start_at (u ∷ opened) (suc i) t = start_at opened i t

  pub start_read : (opened : List (OpenedObject O P C R)) (i : ℕ) (t : OpenedObject O P C R) → t ≡ get_or opened i t → start meaning (judged_by t) ≡ get_or (starts meaning (opened_by opened)) i (start meaning (judged_by t))
  start_read opened i t is = ap (λ (u : OpenedObject O P C R). start meaning (judged_by u)) is ∙ sym (start_at opened i t)

  -- an object that was opened as its parameters say
  pub started : (t : OpenedObject O P C R) (s : O) → s ≡ meaning.opening t.params → terms_at t s ≡ start meaning (judged_by t)
  started t s is = λ j. record { params = t.params; limit = t.limit; state = is j }

  -- a run over objects is one over their terms
  pub run_over : (opened : List (OpenedObject O P C R)) (run : Run O P C R) → IsRunOf meaning opened run → IsRunOver (starts meaning (opened_by opened)) run
  run_over opened run h = record { counted = h.counted ∙ (sym (length-map opened judged_by) ∙ sym (length-map (opened_by opened) (start meaning))); events = h.events; entries = h.entries }
