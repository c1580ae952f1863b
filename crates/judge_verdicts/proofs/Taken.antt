-- What is made of all that the iterator of a list gives is made of the list.
use Rattle.std.proofs.Common.{◌≡◌, ◌<◌, ◌^◌, List, Vec, subst, ◌∙◌}
use Rattle.std.specs.Prelude.{Err, IfOk, Ok, Result}
use Rattle.std.specs.Iterator.Runs.{YieldsInOrder}
use Rattle.std.specs.Vec.{vec_len}
use Rattle.std.specs.Vec.Iter.{into_iter_items, into_iter_len, into_iter_steps}
use Rattle.std.specs.declared.vec.IntoIter.{IntoIter}
use Rattle.commonware_base.specs.Taken.{TakesAll}
use Rattle.commonware_ordered.specs.laws.WholeLaws.{whole_list}

-- what is known of the iterator of a list
abbrev Walks : {X Z : Type 0} → Vec X Z → IntoIter X Z → Type 0
Walks {X} {Z} v it = (into_iter_items it ≡ v.items) × (into_iter_len it ≡ vec_len v) × (into_iter_len it < 2 ^ 64) × YieldsInOrder (into_iter_steps {X = X} {Z = Z}) into_iter_items

-- it is made of the list
pub made_of_list : {X Z Made Error : Type 0} (P : List X → Made → Type 0) (v : Vec X Z) (r : Result Made Error) → IfOk r (λ made. TakesAll Walks into_iter_steps v (λ xs. P xs made)) → IfOk r (P v.items)
made_of_list P v (Ok made) (s, xs, walks, drained, h) = subst (λ ys. P ys made) (whole_list into_iter_items walks.3 s xs drained ∙ walks.0) h
made_of_list P v (Err e) h = tt
