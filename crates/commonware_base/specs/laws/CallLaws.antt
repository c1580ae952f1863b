-- What is proved of calls of a closure along a list, and the calls of a loop, one at a time.
use Rattle.std.specs.Prelude.{◌≡◌, List, [], ◌∷◌, ◌++◌, length, map, refl, suc}
use Rattle.std.proofs.Common.{append_assoc, append-nil, ap, sym, subst, ◌∙◌}
use Rattle.commonware_base.specs.Calls.{CallsGive, CallsGiveAll, CallableAlong}

-- Where each call returns h of its argument, the results are the map of h.
pub answers_are :
    {F X R : Type 0} (step : F → X → R → F → Type 0) (h : X → R)
    (pure : (f : F) (x : X) (r : R) (f' : F) → step f x r f' → r ≡ h x) (f : F) (xs : List X) (rs : List R) (last : F)
    → CallsGive step f xs rs last → rs ≡ map h xs
answers_are step h pure f [] [] last c = refl
answers_are step h pure f [] (r ∷ rs) last c = absurd c
answers_are step h pure f (x ∷ xs) [] last c = absurd c
answers_are step h pure f (x ∷ xs) (r ∷ rs) last c =
    λ j. pure f x r c.0 c.1 j ∷ answers_are step h pure c.0 xs rs last c.2 j

-- The calls of a loop over a list, one at a time.
module _ {F X R : Type 0} (step : F → X → R → F → Type 0) where
  -- one call more
  calls_more : (f : F) (xs : List X) (rs : List R) (now : F) (x : X) (r : R) (next : F) → CallsGive step f xs rs now
      → step now x r next → CallsGive step f (xs ++ x ∷ []) (rs ++ r ∷ []) next
  calls_more f [] [] now x r next h s = (next, subst (λ q. step q x r next) (sym h) s, refl)
  calls_more f [] (y ∷ rs) now x r next h s = absurd h
  calls_more f (y ∷ xs) [] now x r next h s = absurd h
  calls_more f (y ∷ xs) (z ∷ rs) now x r next h s = (h.0, h.1, calls_more h.0 xs rs now x r next h.2 s)

  -- a call returns one result
  length_calls : (f : F) (xs : List X) (rs : List R) (last : F) → CallsGive step f xs rs last → length rs ≡ length xs
  length_calls f [] [] last h = refl
  length_calls f [] (r ∷ rs) last h = absurd h
  length_calls f (x ∷ xs) [] last h = absurd h
  length_calls f (x ∷ xs) (r ∷ rs) last h = ap suc (length_calls h.0 xs rs last h.2)

  -- the calls at the first of xs gave rs; those at the others are still to come
  pub record CallsSoFar (f : F) (xs : List X) (rs : List R) (now : F) (rest : List X) : Type 0 where
    pub done : List X
    pub split : xs ≡ done ++ rest
    pub calls : CallsGive step f done rs now

  -- none was made
  pub so_far_none : (f : F) (xs : List X) (rs : List R) (rest : List X) → rs ≡ [] → rest ≡ xs
      → CallsSoFar f xs rs f rest
  so_far_none f xs rs rest none e =
      record { done = []; split = sym e; calls = subst (λ l. CallsGive step f [] l f) (sym none) refl }

  -- one more was made
  pub so_far_more :
      (f : F) (xs : List X) (rs : List R) (now : F) (rest : List X) (x : X) (left : List X) (r : R) (next : F)
      (more : List R) → CallsSoFar f xs rs now rest → rest ≡ x ∷ left → more ≡ rs ++ r ∷ [] → step now x r next
      → CallsSoFar f xs more next left
  so_far_more f xs rs now rest x left r next more h e g s = record {
    done = h.done ++ x ∷ [];
    split = h.split ∙ ap (λ l. h.done ++ l) e ∙ sym (append_assoc h.done (x ∷ []) left);
    calls = subst (λ l. CallsGive step f (h.done ++ x ∷ []) l next) (sym g)
        (calls_more f h.done rs now x r next h.calls s);
  }

  -- all were made
  pub so_far_all : (f : F) (xs : List X) (rs : List R) (last : F) (rest : List X) → CallsSoFar f xs rs last rest
      → rest ≡ [] → CallsGiveAll step f xs rs
  so_far_all f xs rs last rest h e = record {
    last = last;
    calls = subst (λ l. CallsGive step f l rs last) (sym (h.split ∙ ap (λ l. h.done ++ l) e ∙ append-nil h.done))
        h.calls;
  }

  -- the next call may be made
  pub takes_next :
      (takes : F → X → Type 0) (f : F) (xs : List X) (rs : List R) (now : F) (rest : List X) (x : X) (left : List X)
      → CallableAlong step takes f xs → CallsSoFar f xs rs now rest → rest ≡ x ∷ left → takes now x
  takes_next takes f xs rs now rest x left callable h e =
      callable.at h.done x left rs now (h.split ∙ ap (λ l. h.done ++ l) e) h.calls

  -- there are as many results as arguments
  pub length_answers : (f : F) (xs : List X) (rs : List R) → CallsGiveAll step f xs rs → length rs ≡ length xs
  length_answers f xs rs h = length_calls f xs rs h.last h.calls
