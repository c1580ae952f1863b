-- A run of items and a tree of items, one of which is empty.
use Rattle.std.proofs.Common.{◌≡◌, ◌+◌, Bool, true, List, [], ◌∷◌, ◌++◌, length, refl, sym, ◌∙◌, ap, subst, append-nil, arith, ◌⊎◌, ⊎_elim}
use Rattle.std.specs.Prelude.{IfOk, Result, Ok, Err}
use Rattle.std.specs.Cmp.{IsTotalOrder}
use Rattle.std.specs.List.{AllByRecursion}
use Rattle.std.specs.List.Sorted.{IsStrictlySortedBy}
use Rattle.std.specs.Map.{keys_of}
use Rattle.std.specs.declared.cmp.Ordering.{Ordering}
use Rattle.std.specs.declared.cmp.Ordering.TheVariants.{Less}
use Rattle.std.proofs.lemmas.Map.Keys.{Less-from_sorted}
use Rattle.commonware_ordered.specs.Put.{IsPut}
use Rattle.commonware_ordered.specs.Strict.{IsStrict}
use Rattle.commonware_ordered.proofs.IncreasingKeys.{put_last}

-- a list of length nothing
nothing_from_len : {X : Type 0} (xs : List X) → length xs ≡ 0 → xs ≡ []
nothing_from_len [] e = refl
nothing_from_len (x ∷ xs) e = absurd (omega arith)

module _ {X : Type 0} (run tree all : List X) (whole : run ++ tree ≡ all) where
  -- where the tree is empty, the run is all
  pub run_is_all : length tree ≡ 0 → run ≡ all
  run_is_all none = sym (append-nil run) ∙ (ap (λ l. run ++ l) (sym (nothing_from_len tree none)) ∙ whole)

  -- where the tree isn't empty, the run is
  pub run_is_none : (run ≡ []) ⊎ (tree ≡ []) → ¬ (length tree ≡ 0) → run ≡ []
  run_is_none one some = ⊎_elim (λ e. e) (λ e. absurd (some (ap length e))) one

  -- an item that is greater than all of the run is appended
  pub put_in_run : {cmp : X → X → Ordering} → IsTotalOrder cmp → (more : List X) (x : X) → length tree ≡ 0 → AllByRecursion (λ y. cmp y x ≡ Less) run → more ≡ run ++ x ∷ [] → IsPut cmp all x true (more ++ tree)
  put_in_run {cmp} total more x none below is =
      put_last total all (more ++ tree) x (subst (AllByRecursion (λ y. cmp y x ≡ Less)) (run_is_all none) below)
      (ap (λ l. more ++ l) (nothing_from_len tree none) ∙ (append-nil more ∙ (is ∙ ap (λ l. l ++ x ∷ []) (run_is_all none))))

  -- an item that is inserted into the tree, where the run is empty
  pub put_in_tree : {E : Type 0} (cmp : X → X → Ordering) (after : List X) (x : X) (r : Result Bool E) → run ≡ [] → IfOk r (λ new. IsPut cmp tree x new after) → IfOk r (λ new. IsPut cmp all x new (run ++ after))
  put_in_tree {E} cmp after x (Ok new) none h =
      subst (λ l. IsPut cmp all x new (l ++ after)) (sym none) (subst (λ l. IsPut cmp l x new after) (sym (ap (λ l. l ++ tree) none) ∙ whole) h)
  put_in_tree cmp after x (Err e) none h = tt

-- what is strictly sorted is strictly increasing
pub strict_from_sorted : {K : Type 0} (cmp : K → K → Ordering) (ks ls : List K) → ls ≡ ks → IsStrictlySortedBy cmp ks → IsStrict cmp ls
strict_from_sorted cmp ks ls is sorted k d high = Less-from_sorted cmp ls k (k + 1) d (subst (IsStrictlySortedBy cmp) (sym is) sorted) (omega arith) high

-- the keys of all are strictly sorted where those of both are
pub sorted_halves : {K V : Type 0} (cmp : K → K → Ordering) (run tree all : List (K × V)) → run ++ tree ≡ all → (run ≡ []) ⊎ (tree ≡ []) → IsStrictlySortedBy cmp (keys_of run) → IsStrictlySortedBy cmp (keys_of tree) → IsStrictlySortedBy cmp (keys_of all)
sorted_halves cmp run tree all whole one in_run in_tree =
    ⊎_elim
    (λ e. subst (λ l. IsStrictlySortedBy cmp (keys_of l)) (sym (ap (λ l. l ++ tree) e) ∙ whole) in_tree)
    (λ e. subst (λ l. IsStrictlySortedBy cmp (keys_of l)) (run_is_all run tree all whole (ap length e)) in_run)
    one
