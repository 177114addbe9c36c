-- A record in one order.
use Rattle.std.specs.Prelude.{List}
use Rattle.records.specs.RecordRanges.{Record}
use Rattle.sound_run.specs.declared.place.Place.{Place}

-- the record, and its entries in that order
pub record Ordered : Type 0 where
  pub of : Record
  pub places : List Place
