-- Known contents grow piece by piece.
use Rattle.event_log.specs.{declared.stream.Sink.Ghosts, Log.Begins, Stream.counted}
use Rattle.event_log.proofs.Beginnings.{begins_more, begins_behind}
use Rattle.record_lines.specs.{declared.streams.buffer.Buffered.Buffered, Output.{TakesAll, TakesSome, Puts, AppendsBeginning}}
use Rattle.std.proofs.{Common.{◌≡◌, ℕ, ◌+◌, ◌<◌, get_or, List, [], ◌∷◌, ◌++◌, Option, Some, None, length, take, drop, refl, sym, ◌∙◌, ap, subst, append_assoc, Result, Ok, Err, OnOk, OnErr, Bool, true, false}, lemmas.List.{take-append-drop, append-nil, take_more}}
use Rattle.std.specs.Io.KnownBytes.{Appends}

-- known contents, after known bytes more
pub known_more : (old new : Option (List ℕ)) (bytes xs : List ℕ) → Appends old new bytes → old ≡ Some xs → new ≡ Some (xs ++ bytes)
known_more None new bytes xs h e = absurd (cc)
known_more (Some zs) None bytes xs h e = absurd h
known_more (Some zs) (Some ys) bytes xs h e = let same : zs ≡ xs = cc in ap Some (h ∙ ap (λ l. l ++ bytes) same)

-- where known contents are the old ones and the bytes
pub appends_known : (old new : Option (List ℕ)) (bytes : List ℕ) → ((xs : List ℕ) → old ≡ Some xs → new ≡ Some (xs ++ bytes)) → Appends old new bytes
appends_known None new bytes h = tt
appends_known (Some xs) None bytes h = absurd (let e = h xs refl in cc)
appends_known (Some xs) (Some ys) bytes h = let e = h xs refl in cc

-- what went out and what is left is the whole text, after n bytes more
pub written_more : (first old new : Option (List ℕ)) (text rest : List ℕ) (n : ℕ)
    → ((xs : List ℕ) → first ≡ Some xs → (ys : List ℕ) × (old ≡ Some (xs ++ ys)) × (ys ++ rest ≡ text)) → Appends old new (take n rest)
    → (xs : List ℕ) → first ≡ Some xs → (ys : List ℕ) × (new ≡ Some (xs ++ ys)) × (ys ++ drop n rest ≡ text)
written_more first old new text rest n so_far more xs e =
    let before = so_far xs e in (
      before.0 ++ take n rest,
      known_more old new (take n rest) (xs ++ before.0) more before.1 ∙ ap Some (append_assoc xs before.0 (take n rest)),
      append_assoc before.0 (take n rest) (drop n rest) ∙ ap (λ l. before.0 ++ l) (take-append-drop n rest) ∙ before.2,
    )

module _ {W : Type 0} (sink : Ghosts W) where
  takes_all_then : (a b c : Buffered W) (s t : List ℕ) → TakesAll sink a b s → TakesAll sink b c t → TakesAll sink a c (s ++ t)
  takes_all_then a b c s t p q = record {
    failed = q.failed ∙ p.failed;
    bytes = λ xs e.
        let first = p.bytes xs e in
        let second = q.bytes (xs ++ first.0) first.1 in (
          first.0 ++ second.0,
          second.1 ∙ ap Some (append_assoc xs first.0 second.0),
          append_assoc first.0 second.0 c.waiting.items ∙ (ap (λ l. first.0 ++ l) second.2 ∙ (sym (append_assoc first.0 b.waiting.items t) ∙ (ap (λ l. l ++ t) first.2 ∙ append_assoc a.waiting.items s t))),
        );
  }

  takes_some_then : (a b c : Buffered W) (s t : List ℕ) → TakesAll sink a b s → TakesSome sink b c t → TakesSome sink a c (s ++ t)
  takes_some_then a b c s t p q = record {
    failed = q.failed ∙ ap (λ n. counted true n) p.failed;
    bytes = λ xs e.
        let first = p.bytes xs e in
        let second = q.bytes (xs ++ first.0) first.1 in
        let whole : first.0 ++ (b.waiting.items ++ t) ≡ a.waiting.items ++ (s ++ t) = sym (append_assoc first.0 b.waiting.items t) ∙ (ap (λ l. l ++ t) first.2 ∙ append_assoc a.waiting.items s t) in (
          first.0 ++ second.0,
          second.1 ∙ ap Some (append_assoc xs first.0 second.0),
          subst (λ (l : List ℕ). Begins (first.0 ++ second.0) l) whole (begins_behind first.0 second.0 (b.waiting.items ++ t) second.2),
        );
  }

  -- what the second call left where the first had failed
  some_then_silent : (a b c : Buffered W) (s t : List ℕ) → TakesSome sink a b s → c.sink.now ≡ b.sink.now → TakesSome sink a c (s ++ t)
  some_then_silent a b c s t p same = record {
    failed = ap (λ n. sink.failed n) same ∙ p.failed;
    bytes = λ xs e.
        let first = p.bytes xs e in (
          first.0,
          ap (λ n. sink.contents n) same ∙ first.1,
          subst (λ (l : List ℕ). Begins first.0 l) (append_assoc a.waiting.items s t) (begins_more first.0 (a.waiting.items ++ s) t first.2),
        );
  }

  -- one text after another
  pub puts_then : (a b c : Buffered W) (s t : List ℕ) → Puts sink a b s → Puts sink b c t → Puts sink a c (s ++ t)
  puts_then a b c s t p q =
      let middle : (m : Bool) → b.failed ≡ m → Puts sink a c (s ++ t)
      = λ m. elim m as (λ v. b.failed ≡ v → Puts sink a c (s ++ t)) [
        | false ↦ (λ e. record {
          same_sink = q.same_sink ∙ p.same_sink;
          ok = λ before after. takes_all_then a b c s t (p.ok before e) (q.ok e after);
          err = λ before after. takes_some_then a b c s t (p.ok before e) (q.err e after);
          silent = λ before. absurd (let f : false ≡ true = sym e ∙ (p.silent before).0 in cc);
        })
        | true ↦ (λ e. record {
          same_sink = q.same_sink ∙ p.same_sink;
          ok = λ before after. absurd (let f : true ≡ false = sym (q.silent e).0 ∙ after in cc);
          err = λ before after. some_then_silent a b c s t (p.err before e) (q.silent e).1;
          silent = λ before. ((q.silent e).0, (q.silent e).1 ∙ (p.silent before).1);
        })
      ] in
      middle b.failed refl

  -- nothing put
  pub puts_nothing : (a : Buffered W) → Puts sink a a []
  puts_nothing a = record {
    same_sink = refl;
    ok = λ before after. record { failed = refl; bytes = λ xs e. ([], e ∙ ap Some (sym (append-nil xs)), sym (append-nil a.waiting.items)) };
    err = λ before after. absurd (let f : false ≡ true = sym before ∙ after in cc);
    silent = λ before. (before, refl);
  }

  -- the same text, written otherwise
  pub puts_same : (a b : Buffered W) (s t : List ℕ) → s ≡ t → Puts sink a b s → Puts sink a b t
  puts_same a b s t same p = subst (λ (l : List ℕ). Puts sink a b l) same p

  -- a list's front and its next byte
  pub puts_next : (a b c : Buffered W) (bytes : List ℕ) (i : ℕ) → i < length bytes → Puts sink a b (take i bytes) → Puts sink b c (get_or bytes i 0 ∷ []) → Puts sink a c (take (i + 1) bytes)
  puts_next a b c bytes i less p q = puts_same a c (take i bytes ++ get_or bytes i 0 ∷ []) (take (i + 1) bytes) (sym (take_more bytes i 0 less)) (puts_then a b c (take i bytes) (get_or bytes i 0 ∷ []) p q)

  -- a text that was put into an empty buffer, and written to the end
  finish_ok : (a b c : Buffered W) (text : List ℕ) → a.failed ≡ false → a.waiting.items ≡ [] → Puts sink a b text → Puts sink b c [] → c.failed ≡ false → c.waiting.items ≡ []
      → Appends (sink.contents a.sink.now) (sink.contents c.sink.now) text
  finish_ok a b c text before empty p q after none_waits = appends_known (sink.contents a.sink.now) (sink.contents c.sink.now) text (λ xs e.
      let sent = ((puts_then a b c text [] p q).ok before after).bytes xs e in
      let whole : sent.0 ≡ text = sym (append-nil sent.0) ∙ (ap (λ l. sent.0 ++ l) (sym none_waits) ∙ (sent.2 ∙ (ap (λ l. l ++ (text ++ [])) empty ∙ append-nil text))) in
      sent.1 ∙ ap (λ l. Some (xs ++ l)) whole)

  -- a text that was put into an empty buffer, until a write failed
  finish_err : (a b c : Buffered W) (text : List ℕ) → a.failed ≡ false → a.waiting.items ≡ [] → Puts sink a b text → Puts sink b c [] → c.failed ≡ true
      → AppendsBeginning (sink.contents a.sink.now) (sink.contents c.sink.now) text
  finish_err a b c text before empty p q after =
      let whole : a.waiting.items ++ (text ++ []) ≡ text = ap (λ l. l ++ (text ++ [])) empty ∙ append-nil text in
      subst (λ (l : List ℕ). AppendsBeginning (sink.contents a.sink.now) (sink.contents c.sink.now) l) whole ((puts_then a b c text [] p q).err before after).bytes

  -- both outcomes of a text that was put into an empty buffer, and finished
  module _ {T E : Type 0} (a b c : Buffered W) (text : List ℕ) (before : a.failed ≡ false) (empty : a.waiting.items ≡ []) (p : Puts sink a b text) (q : Puts sink b c []) (none_waits : c.waiting.items ≡ []) where
    pub finished_ok : (r : Result T E) → OnOk r (c.failed ≡ false) → OnOk r (Appends (sink.contents a.sink.now) (sink.contents c.sink.now) text)
    finished_ok (Ok x) after = finish_ok a b c text before empty p q after none_waits
    finished_ok (Err e) after = tt

    pub finished_err : (r : Result T E) → OnErr r (c.failed ≡ true) → OnErr r (AppendsBeginning (sink.contents a.sink.now) (sink.contents c.sink.now) text)
    finished_err (Ok x) after = tt
    finished_err (Err e) after = finish_err a b c text before empty p q after
