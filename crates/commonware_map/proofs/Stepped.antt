-- Iterators over two lists side by side: one step, and a run to the end.
use Rattle.std.proofs.Common.{◌≡◌, ◌<◌, List, [], ◌∷◌, ◌++◌, length, refl, ap, ◌∙◌, arith}
use Rattle.std.specs.Prelude.{Option, Some, None}
use Rattle.std.specs.Iterator.{MakesProgress, at_most}
use Rattle.std.specs.List.{zip}
use Rattle.std.specs.Map.Iter.{GivesInOrder, GivesInReverse, ShowsInOrder, ShowsInReverse, TakesFirst, TakesLast, deref_pair_mut}
use Rattle.std.proofs.iter.runs.Sources.{as_is, as_is_back, from_back, from_front}
use Rattle.std.proofs.lemmas.List.{length_push}
use Rattle.std.proofs.lemmas.Slice.Zip.{length-zip}
use Rattle.commonware_map.specs.PairsMut.{BorrowsInOrder, BorrowsInReverse, pairs_mut_left, pairs_mut_steps, pairs_mut_steps_back}

-- two lists of one length have as many pairs
pub length_pairs : {K V : Type 0} (ks : List K) (vs : List V) → length vs ≡ length ks → length (zip ks vs) ≡ length ks
length_pairs ks vs even = omega (arith, length-zip ks vs)

-- one item more at the end of each of two lists of one length is one pair more
pub zip-push : {K V : Type 0} (ks : List K) (vs : List V) (k : K) (v : V) → length vs ≡ length ks → zip (ks ++ k ∷ []) (vs ++ v ∷ []) ≡ zip ks vs ++ (k, v) ∷ []
zip-push [] [] k v even = refl
zip-push [] (w ∷ vs) k v even = absurd (omega arith)
zip-push (x ∷ ks) [] k v even = absurd (omega arith)
zip-push (x ∷ ks) (w ∷ vs) k v even = ap (λ l. (x, w) ∷ l) (zip-push ks vs k v (omega arith))

-- two lists of one length, each of which has lost its last item
module _ {K V : Type 0} (ks before : List K) (vs values_before : List V) (k : K) (v : V) (keys : ks ≡ before ++ k ∷ []) (values : vs ≡ values_before ++ v ∷ []) (even : length vs ≡ length ks) where
  -- they have one length still
  pub even_before : length values_before ≡ length before
  even_before = omega (arith, ap length keys, ap length values, length_push before k, length_push values_before v)

  -- and have lost their last pair
  pub last_pair : zip ks vs ≡ zip before values_before ++ (k, v) ∷ []
  last_pair = (λ j. zip (keys j) (values j)) ∙ zip-push before values_before k v even_before

-- a pair less is left
pub one_less : {K V : Type 0} (before : List (K × V)) (left : List (K × V)) (pair : K × V) → before ≡ left ++ pair ∷ [] → length left < length before
one_less before left pair e = omega (arith, ap length e, length_push left pair)

module _ {K V : Type 0} where
  -- a run from the front borrows what was left
  pub lent_in_order : BorrowsInOrder K V
  lent_in_order = from_front pairs_mut_steps deref_pair_mut pairs_mut_left (λ s t h. ap length h.0.0) (λ s x t h. h.0)

  -- a run from the back borrows it in reverse
  pub lent_in_reverse : BorrowsInReverse K V
  lent_in_reverse = from_back pairs_mut_steps_back deref_pair_mut pairs_mut_left (λ s t h. ap length h.0.0) (λ s x t h. h.0)

-- the steps of an iterator that is seen as what it has left
module _ {A X : Type 0} (shows : A → X) where
  -- of an end that isn't reached less is left
  pub last_progress : (s t : List X) (r : Option A) → TakesLast shows s r t → MakesProgress (λ _. Unit {0}) (λ l. at_most (length l)) s r t
  last_progress s t None h = record { on = λ _. tt; keeps = tt; rests = λ _. tt }
  last_progress s t (Some x) h = record { on = λ _. (tt, tt, omega (arith, ap length h, length_push t (shows x))); keeps = tt; rests = λ _. tt }

  -- a run from the front shows what was left
  pub shown_in_order : ShowsInOrder shows
  shown_in_order = from_front (TakesFirst shows) shows (λ s. s) (λ s t h. ap length h.0) (λ s x t h. h)

  -- a run from the back shows it in reverse
  pub shown_in_reverse : ShowsInReverse shows
  shown_in_reverse = from_back (TakesLast shows) shows (λ s. s) (λ s t h. ap length h.0) (λ s x t h. h)

module _ {X : Type 0} where
  -- a run from the front gives what was left
  pub given_in_order : GivesInOrder X
  given_in_order run seen = as_is run run.from (shown_in_order (λ x. x) run seen)

  -- a run from the back gives it in reverse
  pub given_in_reverse : GivesInReverse X
  given_in_reverse run seen = as_is_back run run.from (shown_in_reverse (λ x. x) run seen)
