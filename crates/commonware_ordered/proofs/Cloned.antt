-- Lists of clones hold equal items where their sources do.
use Rattle.std.specs.Prelude.{◌≡◌, Bool, Err, List, Ok, Result, true}
use Rattle.std.specs.List.{AllZip}
use Rattle.std.proofs.Common.{arith}
use Rattle.std.proofs.lemmas.List.Elements.{length_all_zip}
use Rattle.std.specs.Cmp.{IsEquivalence}
use Rattle.std.specs.declared.cmp.Ordering.{Ordering}
use Rattle.commonware_base.specs.laws.CloneLaws.{equal_from_all_zip}
use Rattle.commonware_ordered.specs.laws.EqualItemLaws.{equal_items_back, equal_items_same}
use Rattle.commonware_ordered.specs.Whole.{IsWholeSet, IsWholeSetOfClones}
use Rattle.commonware_ordered.specs.declared.error.Error.{Error}
use Rattle.commonware_ordered.specs.declared.error.Error.TheVariants.{DuplicateKey, DuplicateValue, Memory}

module _ {X : Type 0} {eq : X → X → Bool} (laws : IsEquivalence eq) (C : X → X → Type 0) (each : (x y : X) → C x y → eq x y ≡ true) where
  -- what is returned for the clones is returned for their sources
  pub whole_set_of_clones : (cmp : X → X → Ordering) (xs ys : List X) → AllZip C xs ys → (r : Result (List X) Error) → IsWholeSet eq cmp ys r → IsWholeSetOfClones eq cmp C xs r
  whole_set_of_clones cmp xs ys z (Ok s) h = (ys, z, h.0, h.1, λ twice. h.2 (equal_items_same eq laws xs ys (equal_from_all_zip C each xs ys z) twice))
  whole_set_of_clones cmp xs ys z (Err DuplicateKey) h = equal_items_back eq laws xs ys (equal_from_all_zip C each xs ys z) h
  whole_set_of_clones cmp xs ys z (Err DuplicateValue) h = h
  whole_set_of_clones cmp xs ys z (Err Memory) h = omega (arith, h, length_all_zip C xs ys z)
