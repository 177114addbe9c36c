-- The line of the next member of a list.
use Rattle.std.proofs.{Common.{ℕ, ◌+◌, ◌<◌, List, [], ◌∷◌, length, map, take, get_or}, lemmas.List.get_or_default}
use Rattle.event_log.specs.declared.stream.Sink.{Ghosts}
use Rattle.record_lines.specs.{declared.streams.buffer.Buffered.Buffered, Output.PutsLines}
use Rattle.record_lines.proofs.Lines.{line_then}

pub line_next : {W X : Type 0} (sink : Ghosts W) {a b c : Buffered W} (f : X → List (List ℕ)) (xs : List X) (i : ℕ) (d : X) → i < length xs
    → PutsLines sink a b (map f (take i xs)) → PutsLines sink b c (f (get_or xs i d) ∷ []) → PutsLines sink a c (map f (take (i + 1) xs))
line_next sink f xs i d less p q = line_then sink f xs i (get_or xs i d) less (get_or_default xs i d (get_or xs i d) less) p q
