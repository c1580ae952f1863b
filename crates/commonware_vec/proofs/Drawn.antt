-- An allocation failure for what was drawn from an iterator that is handed in.
use Rattle.std.proofs.Common.{◌≡◌, ◌≤◌, ◌++◌, ◌∷◌, [], arith, false, length, List, Option, Some, subst, sym}
use Rattle.std.proofs.lemmas.List.{length-append}
use Rattle.std.specs.Prelude.{Err, IfErr, IsErrAnd, Ok, OnErr, Result}
use Rattle.std.specs.Iterator.{Yields}
use Rattle.core.proofs.iter.Next.{Yields-more}
use Rattle.commonware_base.specs.Taken.{TakesSome}
use Rattle.commonware_vec.specs.Refusals.{IsRefusedForDrawn}
use Rattle.commonware_vec.specs.declared.error.Error.{Error}
use Rattle.commonware_vec.specs.declared.error.Error.TheVariants.{Memory}
use mathlib.Core.Bool.{true≢false}

-- an allocation failure refuses what was drawn, of which the last item is one
pub memory_for_drawn : {Given State Item Made : Type 0} (becomes : Given → State → Type 0) (steps : State → Option Item → State → Type 0) (given : Given) (s t u : State) (xs : List Item) (x : Item) (r : Result Made Error)
    → becomes given s → Yields steps s xs t → steps t (Some x) u → IsErrAnd r (λ e. e ≡ Memory) → IfErr r (λ e. TakesSome becomes steps given (λ ys ended. IsRefusedForDrawn ys ended e))
memory_for_drawn becomes steps given s t u xs x (Ok made) made_of yields last memory = tt
memory_for_drawn {Given} {State} {Item} becomes steps given s t u xs x (Err e) made_of yields last memory =
    let some : 1 ≤ length (xs ++ x ∷ []) = omega (arith, length-append xs (x ∷ [])) in
    (s, made_of, (xs ++ x ∷ [], false, (u, Yields-more steps s xs t x u yields last, λ ended. absurd (true≢false (sym ended))), subst (IsRefusedForDrawn (xs ++ x ∷ []) false) (sym memory) some))

-- an item was drawn, of which the last is one
pub drawn_one : {Given State Item Made E : Type 0} (becomes : Given → State → Type 0) (steps : State → Option Item → State → Type 0) (given : Given) (s t u : State) (xs : List Item) (x : Item) (r : Result Made E)
    → becomes given s → Yields steps s xs t → steps t (Some x) u → OnErr r (TakesSome becomes steps given (λ ys ended. 1 ≤ length ys))
drawn_one becomes steps given s t u xs x (Ok made) made_of yields last = tt
drawn_one becomes steps given s t u xs x (Err e) made_of yields last =
    (s, made_of, (xs ++ x ∷ [], false, (u, Yields-more steps s xs t x u yields last, λ ended. absurd (true≢false (sym ended))), omega (arith, length-append xs (x ∷ []))))
