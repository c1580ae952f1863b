-- Calls along the pairs of a map, and the keys beside their results.
use Rattle.std.proofs.Common.{◌≡◌, List, [], ◌∷◌, ◌++◌, length, refl, ap, sym, subst, ◌∙◌}
use Rattle.std.specs.Prelude.{Ok, Err, Some, slice_get}
use Rattle.std.specs.Borrow.{Bor}
use Rattle.std.specs.Fn.{Mut, Takes}
use Rattle.std.specs.List.{AllZip, zip}
use Rattle.std.specs.Map.{keys_of, values_of}
use Rattle.std.specs.declared.result.Result.{Result}
use Rattle.std.proofs.lemmas.List.Elements.{length_all_zip}
use Rattle.std.proofs.lemmas.Option.{same_Some}
use Rattle.std.proofs.lemmas.Map.Entries.{length-keys_of}
use Rattle.std.proofs.lemmas.Map.Made.{keys_of-zip}
use Rattle.commonware_base.specs.Calls.{CallableAlong, CallsGiveAll}
use Rattle.commonware_base.specs.laws.CallLaws.{CallsSoFar, length_answers, so_far_all, so_far_none, takes_next}
use Rattle.commonware_map.proofs.Columns.{values_of-zip}
use Rattle.commonware_map.specs.ValueMaps.{IsFirstError, TakesRefs}

-- a call that erred after calls that didn't
pub first_error : {F X R E : Type 0} (step : F → X → Result R E → F → Type 0) (f : F) (xs : List X) (rs : List R) (now : F) (rest : List X) (x : X) (left : List X) (e : E) (last : F) → CallsSoFar (λ p y u q. step p y (Ok u) q) f xs rs now rest → rest ≡ x ∷ left
    → step now x (Err e) last → IsFirstError step f xs e
first_error step f xs rs now rest x left e last h is s = record {
  before = h.done;
  at = x;
  after = left;
  split = h.split ∙ ap (λ l. h.done ++ l) is;
  answers = rs;
  now = now;
  calls = h.calls;
  last = last;
  failed = s;
}

module _ {F K V R : Type 0} (calls : Mut F (Bor K × (Bor V × Unit {0})) R) where
  -- f may be called at references to the first pair that is left
  abbrev pub IsReady : F → List (K × V) → Type 0
  IsReady f rest = (key : Bor K) → (value : Bor V) → slice_get rest 0 ≡ Some (key.now, value.now) → Takes calls f (key, (value, tt))

  -- as it may be called along all pairs
  pub ready : {U : Type 0} (step : F → K × V → U → F → Type 0) (f : F) (pairs : List (K × V)) (answers : List U) (now : F) (rest : List (K × V)) → CallableAlong step (TakesRefs calls) f pairs → CallsSoFar step f pairs answers now rest → IsReady now rest
  ready step f pairs answers now [] callable h key value e = cc
  ready step f pairs answers now (pair ∷ rest) callable h key value e =
      subst (TakesRefs calls now) (same_Some pair (key.now, value.now) e) (takes_next step (TakesRefs calls) f pairs answers now (pair ∷ rest) pair rest callable h refl) key value refl refl

-- such results beside as many keys
module _ {F K V R : Type 0} (step : F → K × V → R → F → Type 0) (f : F) (pairs : List (K × V)) (keys : List K) (answers : List R) (calls : CallsGiveAll step f pairs answers) (long : length keys ≡ length pairs) where
  -- there are as many
  pub as_many : length answers ≡ length keys
  as_many = length_answers step f pairs answers calls ∙ sym long

  module _ (m : List (K × R)) (is : m ≡ zip keys answers) where
    -- the keys are those
    pub keys_are : keys_of m ≡ keys
    keys_are = ap keys_of is ∙ keys_of-zip keys answers as_many

    -- the values are the results
    pub values_are : CallsGiveAll step f pairs (values_of m)
    values_are = subst (CallsGiveAll step f pairs) (sym (ap values_of is ∙ values_of-zip keys answers as_many)) calls

-- clones of the keys of pairs are as many as the pairs
pub length_clones : {K V : Type 0} (C : K → K → Type 0) (pairs : List (K × V)) (clones : List K) → AllZip C (keys_of pairs) clones → length clones ≡ length pairs
length_clones C pairs clones h = sym (length_all_zip C (keys_of pairs) clones h) ∙ length-keys_of pairs

-- of nothing no call is made
pub called_none : {F X R : Type 0} (step : F → X → R → F → Type 0) (f : F) (xs : List X) (rs : List R) → xs ≡ [] → rs ≡ [] → CallsGiveAll step f xs rs
called_none step f xs rs e none = so_far_all step f xs rs f xs (so_far_none step f xs rs xs none refl) e
