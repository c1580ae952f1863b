-- What was drawn of an iterator in order is in the list that it had left. So at such an iterator the builders return
-- what they return for that list, however far they read.
use Rattle.std.specs.Prelude.{◌≡◌, ◌<◌, ◌≤◌, ℕ, Bool, Err, IfErr, IfOk, IfSome, List, Ok, Option, Result, Some, length}
use Rattle.std.specs.Prelude.{slice_get, slice_index_or, true}
use Rattle.std.specs.Iterator.{Drains, DrainsIf}
use Rattle.std.specs.Iterator.Runs.{Run, Trigger, YieldsInOrder, YieldsRun}
use Rattle.std.specs.Option.{option_map}
use Rattle.std.proofs.Common.{◌∙◌, ap, arith, get_or, refl, subst, sym}
use Rattle.std.proofs.lemmas.Option.{slice_get-get_or, slice_get_within}
use Rattle.std.specs.declared.cmp.Ordering.{Ordering}
use Rattle.commonware_base.specs.Taken.{TakesAll, TakesSome}
use Rattle.commonware_ordered.specs.Whole.{HasEqualItems, IsRefusedFor, IsSetOfAll, IsWholeSet}
use Rattle.commonware_ordered.specs.declared.error.Error.{Error}
use Rattle.commonware_ordered.specs.declared.error.Error.TheVariants.{DuplicateKey, DuplicateValue, Memory}

module _ {S A : Type 0} {steps : S → Option A → S → Type 0} (rest : S → List A)
    (in_order : YieldsInOrder steps rest) where
  -- the run of calls that gave xs
  run_of : (s : S) (xs : List A) (ended : Bool) → DrainsIf steps (ended ≡ true) s xs → Run steps
  unfolding YieldsRun Trigger
  run_of s xs ended d = record {
    from = s;
    items = xs;
    whole = ended;
    len = length xs;
    at = slice_get xs;
    seen = tt;
    long = refl;
    reads = λ k x h. ap (option_map (λ y. y)) (slice_get-get_or xs k x h);
    gave = (d, λ k. refl);
  }

  -- the items of an iterator that has ended are those that it had left
  pub whole_list : (s : S) (xs : List A) → Drains steps s xs → xs ≡ rest s
  unfolding Trigger run_of
  whole_list s xs d = (in_order (run_of s xs true (d.1.0, d.1.1, λ _. (d.0, d.1.2))) tt).4 refl

  -- no more items were drawn than are in that list
  pub drawn_within : (s : S) (xs : List A) (ended : Bool) → DrainsIf steps (ended ≡ true) s xs
      → length xs ≤ length (rest s)
  unfolding Trigger run_of
  drawn_within s xs ended d = (in_order (run_of s xs ended d) tt).0

  -- each item that was drawn is at its place in that list
  pub drawn_stays : (s : S) (xs : List A) (ended : Bool) → DrainsIf steps (ended ≡ true) s xs → (k : ℕ) (x : A)
      → slice_get xs k ≡ Some x → slice_get (rest s) k ≡ Some x
  unfolding Trigger run_of
  drawn_stays s xs ended d k x at =
      let said = in_order (run_of s xs ended d) tt in
      let within : k < length xs = slice_get_within xs k x at in
      let same : x ≡ get_or (rest s) k x = subst (λ o. IfSome o (λ y. y ≡ slice_index_or (rest s) k y)) at (said.6 k) in
      slice_get-get_or (rest s) k x (omega (arith, said.0, within)) ∙ ap Some (sym same)

  -- equal items that were drawn are equal items of that list
  pub equal_items_stay : (eq : A → A → Bool) (s : S) (xs : List A) (ended : Bool) → DrainsIf steps (ended ≡ true) s xs
      → HasEqualItems eq xs → HasEqualItems eq (rest s)
  equal_items_stay eq s xs ended d (i, j, x, y, before, at, later, same) =
      (i, j, x, y, before, drawn_stays s xs ended d i x at, drawn_stays s xs ended d j y later, same)

-- where each iterator that is made of given is in order and has l left, what is returned for given is returned for l
pub whole_set_of_list :
    {S A Given : Type 0} {steps : S → Option A → S → Type 0} (rest : S → List A) (becomes : Given → S → Type 0)
    (given : Given) (l : List A) (eq : A → A → Bool) (cmp : A → A → Ordering) (r : Result (List A) Error)
    → IfOk r (λ set. TakesAll becomes steps given (λ xs. IsSetOfAll eq cmp xs set))
    → IfErr r (λ e. TakesSome becomes steps given (λ xs ended. IsRefusedFor eq xs e))
    → ((s : S) → becomes given s → (rest s ≡ l) × YieldsInOrder steps rest) → IsWholeSet eq cmp l r
whole_set_of_list rest becomes given l eq cmp (Ok set) (s, xs, made, drained, whole) refused known =
    let k = known s made in subst (λ ys. IsSetOfAll eq cmp ys set) (whole_list rest k.1 s xs drained ∙ k.0) whole
whole_set_of_list rest becomes given l eq cmp (Err DuplicateKey) ok (s, made, (xs, ended, drawn, twice)) known =
    let k = known s made in subst (HasEqualItems eq) k.0 (equal_items_stay rest k.1 eq s xs ended drawn twice)
whole_set_of_list rest becomes given l eq cmp (Err DuplicateValue) ok (s, made, (xs, ended, drawn, never)) known = never
whole_set_of_list rest becomes given l eq cmp (Err Memory) ok (s, made, (xs, ended, drawn, some)) known =
    let k = known s made in
    subst (λ ys. 1 ≤ length ys) k.0 (omega (arith, some, drawn_within rest k.1 s xs ended drawn))
