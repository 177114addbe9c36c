-- What is said of a record that was merged, by a model.
use Rattle.std.specs.Prelude.{List}
use Rattle.sound_run.specs.{declared.place.Place.Place, Orders.IsOrder}
use Rattle.log_merge.specs.Merging.{IsLeastOrder, IsCycleFound}
use Rattle.custom_records.specs.Ranges.{CustomRecord}
use Rattle.judge.specs.Models.{Model, SoundBy}

module _ (model : Model) (r : CustomRecord) where
  -- the record is sound, and these are its entries in order
  pub record IsMergedBy (places : List Place) : Type 0 where
    pub sound : SoundBy model r
    pub ordered : IsLeastOrder r.run places

  -- the record is sound, but some of its entries wait for one another, so that there is no order
  pub record HasCycleBy (cycle : List Place) : Type 0 where
    pub sound : SoundBy model r
    pub waiting : IsCycleFound r.run cycle
    pub none : (places : List Place) → IsOrder r.run places → ⊥
