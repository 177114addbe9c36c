-- The limits of settings, scripts, schedules and records, as numbers.
use Rattle.std.specs.Prelude.{ℕ}

-- the most entries of one CPU's script
abbrev pub most_entries : ℕ
most_entries = 10000

-- the most steps of a schedule
abbrev pub most_steps : ℕ
most_steps = 100000

-- the most bytes of settings that come from a source
abbrev pub most_settings_bytes : ℕ
most_settings_bytes = 65536

-- the most bytes of a line of scripts or of a record, its end aside
abbrev pub most_line_bytes : ℕ
most_line_bytes = 1024

-- the most CPUs of a record 1
abbrev pub most_cpus_of_record_1 : ℕ
most_cpus_of_record_1 = 8
