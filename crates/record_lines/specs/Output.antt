-- What writing a text does to a sink.
use Rattle.std.specs.Prelude.{◌≡◌, ℕ, true, false, List, ◌++◌, map, Option, Some}
use Rattle.event_log.specs.{declared.stream.Sink.Ghosts, Log.Begins, Stream.counted}
use Rattle.record_lines.specs.{Words.{spaced, sentence, text_of_lines}, declared.streams.buffer.Buffered.Buffered}

-- known contents grew by a beginning of the bytes
abbrev pub AppendsBeginning : Option (List ℕ) → Option (List ℕ) → List ℕ → Type 0
AppendsBeginning old new bytes = (xs : List ℕ) → old ≡ Some xs → (ys : List ℕ) × (new ≡ Some (xs ++ ys)) × Begins ys bytes

module _ {W : Type 0} (sink : Ghosts W) where
  -- what went out and what waits is what waited and the text
  pub record TakesAll (old new : Buffered W) (text : List ℕ) : Type 0 where
    pub failed : sink.failed new.sink.now ≡ sink.failed old.sink.now
    pub bytes : (xs : List ℕ) → sink.contents old.sink.now ≡ Some xs → (ys : List ℕ) × (sink.contents new.sink.now ≡ Some (xs ++ ys)) × (ys ++ new.waiting.items ≡ old.waiting.items ++ text)

  -- one call failed, and what went out is a beginning of what waited and the text
  pub record TakesSome (old new : Buffered W) (text : List ℕ) : Type 0 where
    pub failed : sink.failed new.sink.now ≡ counted true (sink.failed old.sink.now)
    pub bytes : AppendsBeginning (sink.contents old.sink.now) (sink.contents new.sink.now) (old.waiting.items ++ text)

  -- the text was put into the buffer, whole or up to a failed write; after a failed write nothing is written
  pub record Puts (old new : Buffered W) (text : List ℕ) : Type 0 where
    pub same_sink : new.sink.ghost_name ≡ old.sink.ghost_name
    pub ok : old.failed ≡ false → new.failed ≡ false → TakesAll old new text
    pub err : old.failed ≡ false → new.failed ≡ true → TakesSome old new text
    pub silent : old.failed ≡ true → (new.failed ≡ true) × (new.sink.now ≡ old.sink.now)

  -- words were put, each behind a space
  pub record PutsWords (old new : Buffered W) (words : List (List ℕ)) : Type 0 where
    pub puts : Puts old new (spaced words)

  -- lines of words were put, each with its end
  pub record PutsLines (old new : Buffered W) (lines : List (List (List ℕ))) : Type 0 where
    pub puts : Puts old new (text_of_lines (map sentence lines))
