-- A pool of pages, as one record.
use Rattle.std.specs.Prelude.{codes}
use Rattle.page_pool.specs.{Answer.pool_answer, declared.call.PoolCall.PoolCall, declared.call.PoolReply.PoolReply, declared.params.PoolParams.PoolParams}
use Rattle.kernel_object.specs.{declared.call.KReply.KReply, declared.call.KReply.TheVariants.{Ok, Count, Page, NoPage, OverQuota, BadOwner, NotYours, NotTaken, BadPage}, Kinds.Definition.KindDefinition}
use Rattle.page_pool.specs.State as state
use Rattle.page_pool.specs.declared.call.PoolReply.TheVariants as Pool

-- a page pool's reply, as the reply with its text
abbrev pub of_pool : PoolReply → KReply
of_pool Pool.Ok = Ok
of_pool (Pool.Page p) = Page p
of_pool Pool.NoPage = NoPage
of_pool Pool.OverQuota = OverQuota
of_pool Pool.BadOwner = BadOwner
of_pool Pool.NotYours = NotYours
of_pool Pool.NotTaken = NotTaken
of_pool Pool.BadPage = BadPage
of_pool (Pool.Count n) = Count n

abbrev pub pool_kind : KindDefinition
pool_kind = record {
  Params = PoolParams;
  State = state.PoolState;
  Call = PoolCall;
  in_range = state.is_in_range;
  opening = state.opening_state;
  answer = λ s c. ((pool_answer s c).0, of_pool (pool_answer s c).1);
  word = codes "pool";
}
