-- The first lines of a text.
use Rattle.std.proofs.Common.{◌≡◌, ℕ, suc, ◌+◌, ◌-◌, ◌<◌, false, List, [], ◌∷◌, ◌++◌, Option, Some, None, refl, sym, ap, ◌∙◌, cond, arith, option_map, IfSome, IfNone, subst}
use Rattle.std.specs.{Borrow.Bor, Option.option_map_or}
use Rattle.event_log.specs.Log.{steps_of}
use Rattle.kernel_object.specs.{declared.call.KParams.KParams, Kernel.kernel_opening}
use Rattle.custom_records.specs.Custom.{CustomEvent}
use Rattle.custom_kernel.specs.{Counts.{IsCountOf, answers_of}, KernelModel.{params_of, answers_last}, Lines.{line_of, object_from, event_of, events_of, head_from, params_from_line, IsKernelCount}}
use Rattle.record_lines.specs.{Reading.◌>>=◌, Words.NoEnd}

-- the first line ends at the first line end
pub line_found : (line rest : List ℕ) → NoEnd line → line_of (line ++ 10 ∷ rest) ≡ Some (line, rest)
line_found [] rest p = refl
line_found (b ∷ line) rest p =
    ap (λ t. cond t (Some ([], line ++ 10 ∷ rest)) (line_of (line ++ 10 ∷ rest) >>= λ l. Some (b ∷ l.0, l.1))) p.0
    ∙ ap (λ o. o >>= λ l. Some (b ∷ l.0, l.1)) (line_found line rest p.1)

-- where no line ends there is none
pub line_none : (text : List ℕ) → NoEnd text → line_of text ≡ None
line_none [] p = refl
line_none (b ∷ text) p =
    ap (λ t. cond t (Some ([], text)) (line_of text >>= λ l. Some (b ∷ l.0, l.1))) p.0
    ∙ ap (λ o. o >>= λ l. Some (b ∷ l.0, l.1)) (line_none text p.1)

-- the first line and what stands behind it, or none
pub split_is : (text : List ℕ) (r : Option (Bor (List ℕ) × Bor (List ℕ))) → IfSome r (λ x. NoEnd x.0.now × (text ≡ x.0.now ++ 10 ∷ x.1.now)) → IfNone r (NoEnd text)
    → option_map (λ l. (l.0.now, l.1.now)) r ≡ line_of text
split_is text None found none = sym (line_none text none)
split_is text (Some x) found none = sym (ap line_of found.1 ∙ line_found x.0.now x.1.now found.0)

-- an event more
pub events_next : (most i : ℕ) (left rest : List ℕ) (e : CustomEvent) → i < most → event_of left ≡ Some (e, rest) → steps_of (events_of (most - i) left) ≡ e.steps.list.items ++ steps_of (events_of (most - (i + 1)) rest)
events_next most i left rest e lt there =
    let more : most - i ≡ suc (most - (i + 1)) = omega (arith, lt) in
    ap (λ n. steps_of (events_of n left)) more ∙ ap (λ o. steps_of (option_map_or (λ x. x.0 ∷ events_of (most - (i + 1)) x.1) o [])) there

-- what is found behind something is found behind one
bound : {A B : Type 0} (o : Option A) (f : A → Option B) (y : B) → (o >>= f) ≡ Some y → (x : A) × ((o ≡ Some x) × (f x ≡ Some y))
bound None f y e = absurd cc
bound (Some x) f y e = (x, (refl, e))

-- the count of an object's answers is that of the model
pub kernel_counted : (text : List ℕ) (object log n : ℕ) (p : KParams) (h : ℕ × List ℕ) → params_from_line text object ≡ Some p → head_from text log ≡ Some h
    → IsCountOf (answers_of p) (steps_of (events_of h.0 h.1)) n → IsKernelCount text object log n
kernel_counted text object log n p h opened head count =
    let o = bound (object_from text object) (λ o. params_of o.kind o.numbers) p opened in
    record {
      settings = o.0;
      there = o.1.0;
      params = p;
      opened = o.1.1;
      events = events_of h.0 h.1;
      log_there = ap (λ r. r >>= λ h. Some (events_of h.0 h.1)) head;
      count = subst (λ r. IsCountOf (λ s. option_map_or (λ p. answers_last (kernel_opening p) s) r false) (steps_of (events_of h.0 h.1)) n) (sym o.1.1) count;
    }
