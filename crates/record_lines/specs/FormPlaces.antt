-- The place of a reader of records behind whole parts.
use Rattle.std.specs.Prelude.{ℕ, ◌+◌, nat_lt, if◌then◌else◌}
use Rattle.record_lines.specs.{declared.forms.place.ReaderPlace.ReaderPlace, declared.forms.place.Next.TheVariants.{Log, Cpu, End}}

module _ {H : Type 0} where
  -- behind a log: another of so many, or the first transcript
  abbrev pub place_behind_log : ℕ → ReaderPlace H → ReaderPlace H
  place_behind_log objects at = record at { awaits = if nat_lt (at.log_count + 1) objects then Log else Cpu; count = 0; log_count = at.log_count + 1; event_count = 0 }

  -- behind a transcript: another of so many, or the record's end
  abbrev pub place_behind_transcript : ℕ → ReaderPlace H → ReaderPlace H
  place_behind_transcript cpus at = record at { awaits = if nat_lt (at.transcript_count + 1) cpus then Cpu else End; count = 0; transcript_count = at.transcript_count + 1; entry_count = 0 }
