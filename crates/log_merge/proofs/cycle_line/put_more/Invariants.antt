use Rattle.std.proofs.Common.{◌≡◌, ◌++◌, take, codes, string_bytes}
use Rattle.std.specs.List.{flat_map}
use Rattle.log_merge.specs.CycleText.{place_text}
use Rattle.log_merge.proofs.cycle_line.put_more.Given as goal

-- the places so far
abbrev pub invariant-loop-place : goal.invariant-loop-place
invariant-loop-place l = string_bytes l.text ≡ string_bytes l.initial.text ++ flat_map (λ q. codes ", " ++ place_text q) (take l.place-index l.places)
