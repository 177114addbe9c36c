-- Kinds, and the ways to and from their types.
use Rattle.std.proofs.Common.{◌≡◌, Some, refl}
use Rattle.kernel_object.specs.{declared.kind.Kind.Kind, declared.call.KParams.KParams, Kinds.All.{definition_of, params_kind, own_params, params_of, by_kind, on_params}, KindWords.{kind_word, kind_of}}
use Rattle.kernel_object.specs.declared.kind.Kind.TheVariants as kinds
use Rattle.kernel_object.specs.declared.call.KParams.TheVariants as Params

-- parameters are those of their kind
pub same_params : (p : KParams) → params_of (params_kind p) (own_params p) ≡ p
same_params (Params.Queue p) = refl
same_params (Params.Pool p) = refl
same_params (Params.Console p) = refl
same_params (Params.Sched p) = refl

-- a match by kinds is the function
pub by_kind_is : {X : Type 0} (f : Kind → X) (k : Kind) → by_kind f k ≡ f k
by_kind_is f kinds.Queue = refl
by_kind_is f kinds.Pool = refl
by_kind_is f kinds.Console = refl
by_kind_is f kinds.Sched = refl

-- so is one of parameters, by their kind
pub on_own : {X : Type 0} (f : (k : Kind) → (definition_of k).Params → X) (p : KParams) → on_params f p ≡ f (params_kind p) (own_params p)
on_own f (Params.Queue p) = refl
on_own f (Params.Pool p) = refl
on_own f (Params.Console p) = refl
on_own f (Params.Sched p) = refl

-- what holds of a kind's parameters holds of them as any object's
pub of_any : (P : (k : Kind) → (definition_of k).Params → Type 0) (k : Kind) (p : (definition_of k).Params) → P k p → P (params_kind (params_of k p)) (own_params (params_of k p))
of_any P kinds.Queue p h = h
of_any P kinds.Pool p h = h
of_any P kinds.Console p h = h
of_any P kinds.Sched p h = h

-- a kind is found by its word
pub kind_again : (k : Kind) → kind_of (kind_word k) ≡ Some k
unfolding kind_of
kind_again kinds.Queue = refl
kind_again kinds.Pool = refl
kind_again kinds.Console = refl
kind_again kinds.Sched = refl
