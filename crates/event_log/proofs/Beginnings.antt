-- Lists that begin with another.
use Rattle.std.proofs.{Common.{◌≡◌, List, [], ◌∷◌, ◌++◌, length, drop, sym, ◌∙◌, ap, subst, append_assoc}, Math.Seq.{take-append_seam, take-length}, lemmas.List.take-append-drop}
use Rattle.event_log.specs.Log.{Begins}

module _ {E : Type 0} where
  -- a list and more begins with the list
  pub begins_append : (a c : List E) → Begins a (a ++ c)
  begins_append a c = record { start = take-append_seam a c }

  pub begins_self : (a : List E) → Begins a a
  begins_self a = record { start = take-length a }

  -- what comes behind the beginning
  pub begins_rest : (a b : List E) → Begins a b → b ≡ a ++ drop (length a) b
  begins_rest a b h = sym (take-append-drop (length a) b) ∙ ap (λ l. l ++ drop (length a) b) h.start

  pub begins_more : (a b c : List E) → Begins a b → Begins a (b ++ c)
  begins_more a b c h =
      let is : b ++ c ≡ a ++ (drop (length a) b ++ c) = ap (λ l. l ++ c) (begins_rest a b h) ∙ append_assoc a (drop (length a) b) c in
      subst (λ (l : List E). Begins a l) (sym is) (begins_append a (drop (length a) b ++ c))

  pub begins_then : (a b c : List E) → Begins a b → Begins b c → Begins a c
  begins_then a b c h k = subst (λ (l : List E). Begins a l) (sym (begins_rest b c k)) (begins_more a b (drop (length b) c) h)

  pub begins_cons : (x : E) (a b : List E) → Begins a b → Begins (x ∷ a) (x ∷ b)
  begins_cons x a b h = record { start = ap (λ l. x ∷ l) h.start }

  -- a front before both
  pub begins_behind : (front a b : List E) → Begins a b → Begins (front ++ a) (front ++ b)
  begins_behind [] a b h = h
  begins_behind (x ∷ front) a b h = begins_cons x (front ++ a) (front ++ b) (begins_behind front a b h)
