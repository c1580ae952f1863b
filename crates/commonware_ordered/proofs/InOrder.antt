-- Items that are inserted in their order one at a time into a run and a tree.
use Rattle.std.proofs.Common.{◌≡◌, ℕ, ◌+◌, Bool, true, List, [], ◌∷◌, ◌++◌, length, get_or, refl, sym, ◌∙◌, ap, subst, append_assoc, append-nil, arith, ◌⊎◌, ⊎_elim}
use Rattle.std.specs.Cmp.{IsTotalOrder}
use Rattle.std.specs.List.{AllByRecursion, list_any}
use Rattle.std.specs.List.Sorted.{IsStrictlySortedBy}
use Rattle.std.specs.Ordering.{MatchOrdering, eq_by_cmp}
use Rattle.std.specs.Prelude.{None, Some}
use Rattle.std.specs.Vec.Iter.{into_iter_items, into_iter_len, into_iter_steps}
use Rattle.std.specs.declared.vec.IntoIter.{IntoIter}
use Rattle.std.specs.declared.cmp.Ordering.{Ordering}
use Rattle.std.specs.declared.cmp.Ordering.TheVariants.{Less, Equal, Greater}
use Rattle.commonware_ordered.specs.Put.{IsPut}
use Rattle.commonware_ordered.specs.Strict.{IsStrict}
use Rattle.commonware_ordered.proofs.Halves.{put_in_run, strict_from_sorted}
use Rattle.commonware_ordered.proofs.IncreasingKeys.{below_all, below_next, one_equals, put_at_end, strict_more}
use Rattle.commonware_ordered.proofs.Zipped.{empty_from_len}

module _ {X Z : Type 0} where
  -- of the items all, those of done were given, and the others are left
  pub record LeftIn (all done : List X) (s : IntoIter X Z) : Type 0 where
    pub split : done ++ into_iter_items s ≡ all
    pub len : into_iter_len s ≡ length (into_iter_items s)

  -- nothing was given
  pub left_start : (all done : List X) (s : IntoIter X Z) → into_iter_items s ≡ all → into_iter_len s ≡ length all → done ≡ [] → LeftIn all done s
  left_start all done s e n none = record { split = ap (λ l. l ++ into_iter_items s) none ∙ e; len = n ∙ sym (ap length e) }

  -- one more was given
  pub left_more : (all done more : List X) (s t : IntoIter X Z) (x : X) → LeftIn all done s → into_iter_steps s (Some x) t → more ≡ done ++ x ∷ [] → LeftIn all more t
  left_more all done more s t x h w e = record {
    split = ap (λ l. l ++ into_iter_items t) e ∙ (append_assoc done (x ∷ []) (into_iter_items t) ∙ (sym (ap (λ l. done ++ l) w.0) ∙ h.split));
    len = let a = ap length w.0 in omega (arith, h.len, w.1, a);
  }

  -- all were given
  pub left_none : (all done : List X) (s t : IntoIter X Z) → LeftIn all done s → into_iter_steps s None t → done ≡ all
  left_none all done s t h w = sym (append-nil done) ∙ (sym (ap (λ l. done ++ l) (empty_from_len (into_iter_items s) (sym w.0 ∙ h.len))) ∙ h.split)

module _ {X : Type 0} {cmp : X → X → Ordering} (o : IsTotalOrder cmp) where
  -- how the last item of a run compares with another
  pub last_stands : (r : List X) (x last : X) (n : ℕ) (c : Ordering) → IsStrictlySortedBy cmp r → n + 1 ≡ length r → ((d : X) → last ≡ get_or r n d) → c ≡ cmp last x
      → MatchOrdering c (AllByRecursion (λ y. cmp y x ≡ Less) r) (list_any (eq_by_cmp cmp x) r ≡ true) (Unit {0})
  last_stands r x last n Less s end at is = below_all o r x last n s end at (sym is)
  last_stands r x last n Equal s end at is = one_equals o r x last n s end at (sym is)
  last_stands r x last n Greater s end at is = tt

  -- items in order of which those of done were inserted and the others are left: one more was inserted
  pub kept_more : {Z : Type 0} (all done more : List X) (s t : IntoIter X Z) (x : X) (new : Bool) → IsStrictlySortedBy cmp all → LeftIn all done s → into_iter_steps s (Some x) t → IsPut cmp done x new more → LeftIn all more t
  kept_more all done more s t x new strict h w put =
      left_more all done more s t x h w (put_at_end o done more x new (below_next o done x (into_iter_items t) (subst (IsStrictlySortedBy cmp) (sym (sym (ap (λ l. done ++ l) w.0) ∙ h.split)) strict)) put)

  -- a greater item is appended
  pub kept_last : (run tree more : List X) (x : X) → length tree ≡ 0 → AllByRecursion (λ y. cmp y x ≡ Less) run → more ≡ run ++ x ∷ [] → IsPut cmp (run ++ tree) x true (more ++ tree)
  kept_last run tree more x none below is = put_in_run run tree (run ++ tree) refl o more x none below is

  -- a run with a greater item last is a run
  pub run_grows : (run more : List X) (x : X) → IsStrictlySortedBy cmp run → AllByRecursion (λ y. cmp y x ≡ Less) run → more ≡ run ++ x ∷ [] → IsStrictlySortedBy cmp more
  run_grows run more x s below is = subst (IsStrictlySortedBy cmp) (sym is) (strict_more o run x s below)

module _ {X : Type 0} (cmp : X → X → Ordering) where
  -- the items of a run and a tree, one of which is empty, are strictly increasing
  pub strict_both : (run tree all : List X) → all ≡ run ++ tree → (run ≡ []) ⊎ (tree ≡ []) → IsStrictlySortedBy cmp run → IsStrictlySortedBy cmp tree → IsStrict cmp all
  strict_both run tree all is one a b =
      strict_from_sorted cmp (run ++ tree) all is
      (⊎_elim
      (λ e. subst (λ l. IsStrictlySortedBy cmp (l ++ tree)) (sym e) b)
      (λ e. subst (IsStrictlySortedBy cmp) (sym (ap (λ l. run ++ l) e ∙ append-nil run)) a)
      one)
