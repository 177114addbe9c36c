-- Faults in the order of their places.
use Rattle.std.proofs.{Common.{◌≡◌, inl, inr, ⊎_elim, ℕ, zero, suc, ◌<◌, Bool, true, false, List, [], ◌∷◌, length, slice_get, refl, sym, ap, ◌∙◌, arith}, lemmas.Bool.cases_lt}
use Rattle.std.specs.Prelude.{◌⊎◌}
use Rattle.event_log.specs.{declared.entry.Entry.Entry, declared.entry.Run.Run}
use Rattle.sound_run.specs.Sound.{transcript_of}
use Rattle.sound_run.proofs.Slices.{one_of}
use Rattle.auditor.specs.{declared.fault.Fault.Fault, Faults.{HadRoom, IsNotItsEvent, place, IsBefore, IsFaultBy, IsFirstFaultBy}, StepModels.StepModel, Terms.{Terms, opened_list}}
use Rattle.auditor.specs.declared.fault.Fault.TheVariants as fault

-- nothing comes before itself
pub not_itself : (xs : List ℕ) → IsBefore xs xs → ⊥
not_itself [] h = h
not_itself (x ∷ xs) h = ⊎_elim (λ lt. absurd (omega arith)) (λ e. not_itself xs e.1) h

-- behind an equal head
pub rest_before : (x : ℕ) (xs ys : List ℕ) → IsBefore (x ∷ xs) (x ∷ ys) → IsBefore xs ys
rest_before x xs ys h = ⊎_elim (λ lt. absurd (omega arith)) (λ e. e.1) h

-- behind a greater head nothing less comes
pub not_later : (x y : ℕ) (xs ys : List ℕ) → y < x → IsBefore (x ∷ xs) (y ∷ ys) → ⊥
not_later x y xs ys less h = ⊎_elim (λ lt. absurd (omega arith)) (λ e. let same = e.0 in absurd (omega (arith, same))) h

three : (xs ys : List ℕ) → length xs ≡ length ys → (IsBefore xs ys) ⊎ ((xs ≡ ys) ⊎ IsBefore ys xs)
three [] [] e = inr (inl refl)
three [] (y ∷ ys) e = absurd (omega (arith, e))
three (x ∷ xs) [] e = absurd (omega (arith, e))
three (x ∷ xs) (y ∷ ys) e = ⊎_elim
    (λ less. inl (inl less))
    (λ le. ⊎_elim
    (λ more. inr (inr (inl more)))
    (λ ge.
    let same : x ≡ y = omega arith in
    ⊎_elim (λ b. inl (inr (same, b))) (λ r. ⊎_elim (λ s. inr (inl (λ j. same j ∷ s j))) (λ a. inr (inr (inr (sym same, a)))) r) (three xs ys (omega (arith, e))))
    (cases_lt y x))
    (cases_lt x y)

four : (f : Fault) → length (place f) ≡ 4
four (fault.TooLong x) = refl
four (fault.WrongStep x e i) = refl
four (fault.RoomWasLeft cpu n) = refl
four (fault.NotItsEvent cpu n) = refl
four (fault.NotAsked cpu n) = refl
four (fault.Unclaimed x e) = refl

-- two faults have one place: that there was room, and that it's another event
abbrev is_room : Fault → Bool
is_room (fault.RoomWasLeft cpu n) = true
is_room f = false

-- the fault at a place
abbrev at_place : List ℕ → Bool → Fault
at_place (zero ∷ x ∷ zero ∷ rest) b = fault.TooLong x
at_place (zero ∷ x ∷ suc e ∷ i ∷ rest) b = fault.WrongStep x e i
at_place (suc zero ∷ cpu ∷ n ∷ zero ∷ rest) true = fault.RoomWasLeft cpu n
at_place (suc zero ∷ cpu ∷ n ∷ zero ∷ rest) false = fault.NotItsEvent cpu n
at_place (suc zero ∷ cpu ∷ n ∷ suc z ∷ rest) b = fault.NotAsked cpu n
at_place (suc (suc k) ∷ x ∷ e ∷ rest) b = fault.Unclaimed x e
at_place xs b = fault.TooLong 0

at_its : (f : Fault) → at_place (place f) (is_room f) ≡ f
at_its (fault.TooLong x) = refl
at_its (fault.WrongStep x e i) = refl
at_its (fault.RoomWasLeft cpu n) = refl
at_its (fault.NotItsEvent cpu n) = refl
at_its (fault.NotAsked cpu n) = refl
at_its (fault.Unclaimed x e) = refl

module _ {T O P C R : Type 0} (model : StepModel T O P C R) (terms : List (Terms P T)) (run : Run O P C R) where
  not_both : (c n d m : ℕ) → c ≡ d → n ≡ m → HadRoom model.meaning (opened_list terms) run c n → IsNotItsEvent model.meaning (opened_list terms) run d m → ⊥
  not_both c n d m ec en h k =
      let same : h.entry ≡ k.entry = one_of h.entry k.entry (slice_get (transcript_of d run) m) ((λ j. slice_get (transcript_of (sym ec j) run) (sym en j)) ∙ h.there) k.there in
      let done = sym h.none ∙ (ap (λ (e : Entry O P C R). e.done) same ∙ k.done) in
      cc

  rooms : (f g : Fault) → place f ≡ place g → IsFaultBy model terms run f → IsFaultBy model terms run g → is_room f ≡ is_room g
  rooms (fault.RoomWasLeft c n) (fault.RoomWasLeft d m) e h k = refl
  rooms (fault.RoomWasLeft c n) (fault.NotItsEvent d m) e h k = absurd (not_both c n d m (cc) (cc) h k)
  rooms (fault.NotItsEvent d m) (fault.RoomWasLeft c n) e h k = absurd (not_both c n d m (cc) (cc) k h)
  rooms (fault.RoomWasLeft c n) (fault.TooLong x) e h k = absurd (cc)
  rooms (fault.RoomWasLeft c n) (fault.WrongStep x f i) e h k = absurd (cc)
  rooms (fault.RoomWasLeft c n) (fault.NotAsked d m) e h k = absurd (cc)
  rooms (fault.RoomWasLeft c n) (fault.Unclaimed x f) e h k = absurd (cc)
  rooms (fault.TooLong x) (fault.RoomWasLeft c n) e h k = absurd (cc)
  rooms (fault.WrongStep x f i) (fault.RoomWasLeft c n) e h k = absurd (cc)
  rooms (fault.NotAsked d m) (fault.RoomWasLeft c n) e h k = absurd (cc)
  rooms (fault.Unclaimed x f) (fault.RoomWasLeft c n) e h k = absurd (cc)
  rooms f g e h k = refl

  -- a run has one first fault at most
  pub one_first : (f g : Fault) → IsFirstFaultBy model terms run f → IsFirstFaultBy model terms run g → f ≡ g
  one_first f g h k = ⊎_elim
      (λ b. absurd (k.first f b h.there))
      (λ r. ⊎_elim
      (λ e. sym (at_its f) ∙ ((λ j. at_place (e j) (rooms f g e h.there k.there j)) ∙ at_its g))
      (λ a. absurd (h.first g a k.there))
      r)
      (three (place f) (place g) (four f ∙ sym (four g)))
