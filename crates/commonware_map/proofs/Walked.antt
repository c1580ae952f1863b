-- A walk over keys that are borrowed, beside values that are taken.
use Rattle.std.proofs.Common.{◌≡◌, List, [], ◌∷◌, length, sym, subst, ap, ◌∙◌, arith, ⊎_elim}
use Rattle.std.specs.Prelude.{None, Some}
use Rattle.std.specs.Borrow.{Bor}
use Rattle.std.specs.List.{zip}
use Rattle.std.specs.Map.{keys_of, values_of}
use Rattle.std.specs.Iterator.Adapters.{zip_first, zip_second, zip_steps}
use Rattle.std.specs.Slice.Iter.{iter_rest, iter_steps}
use Rattle.std.specs.Vec.Iter.{into_iter_items, into_iter_len, into_iter_steps}
use Rattle.std.specs.declared.iter.Zip.{Zip}
use Rattle.std.specs.declared.slice.Iter.{Iter}
use Rattle.std.specs.declared.vec.IntoIter.{IntoIter}
use Rattle.commonware_base.specs.Calls.{CallsGiveAll}
use Rattle.commonware_base.specs.laws.CallLaws.{CallsSoFar, so_far_all}
use Rattle.commonware_map.proofs.Columns.{zip-parts}
use Rattle.commonware_ordered.proofs.Zipped.{empty_from_len, zip_nothing}

module _ {K V Z : Type 0} where
  -- the pairs that are left
  abbrev pub pairs_left : Zip (Iter K) (IntoIter V Z) → List (K × V)
  pairs_left s = zip (iter_rest (zip_first s)) (into_iter_items (zip_second s))

  -- the number of values that are left is known
  abbrev pub IsCounted : Zip (Iter K) (IntoIter V Z) → Type 0
  IsCounted s = into_iter_len (zip_second s) ≡ length (into_iter_items (zip_second s))

  -- at the start all pairs are left, and the number of values is known
  pub walk_starts : (es : List (K × V)) (s z : Zip (Iter K) (IntoIter V Z)) → s ≡ z → iter_rest (zip_first z) ≡ keys_of es → into_iter_items (zip_second z) ≡ values_of es → IsCounted z → (pairs_left s ≡ es) × IsCounted s
  walk_starts es s z same ks vs counted = (ap pairs_left same ∙ (λ j. zip (ks j) (vs j)) ∙ zip-parts es, subst IsCounted (sym same) counted)

  -- the same of two columns
  pub columns_left : (ks : List K) (vs : List V) (s z : Zip (Iter K) (IntoIter V Z)) → s ≡ z → iter_rest (zip_first z) ≡ ks → into_iter_items (zip_second z) ≡ vs → IsCounted z → (pairs_left s ≡ zip ks vs) × IsCounted s
  columns_left ks vs s z same first second counted = (ap pairs_left same ∙ (λ j. zip (first j) (second j)), subst IsCounted (sym same) counted)

  -- the first pair was given
  pub walked_one : (s t : Zip (Iter K) (IntoIter V Z)) (p : Bor K × V) → zip_steps iter_steps into_iter_steps s (Some p) t → pairs_left s ≡ (p.0.now, p.1) ∷ pairs_left t
  walked_one s t p w = λ j. zip (w.0 j) (w.1.0 j)

  -- the number is known still
  pub counted_still : (s t : Zip (Iter K) (IntoIter V Z)) (p : Bor K × V) → zip_steps iter_steps into_iter_steps s (Some p) t → IsCounted s → IsCounted t
  counted_still s t p w h = let a = ap length w.1.0 in omega (arith, h, w.1.1, a)

  -- none is left
  pub walked_all : (s t : Zip (Iter K) (IntoIter V Z)) → zip_steps iter_steps into_iter_steps s None t → IsCounted s → pairs_left s ≡ []
  walked_all s t w h = ⊎_elim first second w
    where
      first : (u : Iter K) × iter_steps (zip_first s) None u → pairs_left s ≡ []
      first v = ap (λ l. zip l (into_iter_items (zip_second s))) (empty_from_len (iter_rest (zip_first s)) (sym v.1.0))

      second : (u : IntoIter V Z) × into_iter_steps (zip_second s) None u → pairs_left s ≡ []
      second v = ap (λ l. zip (iter_rest (zip_first s)) l) (empty_from_len (into_iter_items (zip_second s)) (sym v.1.0 ∙ h)) ∙ zip_nothing (iter_rest (zip_first s))

  -- a call was made at each pair
  pub all_called : {F R : Type 0} (step : F → K × V → R → F → Type 0) (f : F) (es : List (K × V)) (rs : List R) (now : F) (s t : Zip (Iter K) (IntoIter V Z)) → CallsSoFar step f es rs now (pairs_left s) → zip_steps iter_steps into_iter_steps s None t → IsCounted s → CallsGiveAll step f es rs
  all_called step f es rs now s t h w counted = so_far_all step f es rs now (pairs_left s) h (walked_all s t w counted)
