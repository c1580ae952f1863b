-- A list that is turned by one place, so that its first item comes last.
use Rattle.std.proofs.Common.{◌≡◌, ℕ, ◌+◌, List, [], ◌∷◌, ◌++◌, Some, length, take, drop, slice_set, get_or, ap, ◌∙◌, arith}
use Rattle.std.specs.Prelude.{slice_get}
use Rattle.std.proofs.Math.Seq.{get_or-append_seam, set-append_seam}

module _ {T : Type 0} (ys turned : List T) (e : turned ≡ drop 1 ys ++ take 1 ys) (n : ℕ) where
  -- another item in the place of the last
  pub turned_and_set : (xs : List T) → ys ≡ xs → n + 1 ≡ length xs → (value new : T) → new ≡ value → slice_set turned n new ≡ drop 1 xs ++ value ∷ []
  turned_and_set [] same len value new is = absurd (omega (arith, len))
  turned_and_set (x ∷ xs) same len value new is =
      let at : n ≡ length xs = omega (arith, len) in
      let f : turned ≡ xs ++ x ∷ [] = e ∙ ap (λ l. drop 1 l ++ take 1 l) same in
      (λ i. slice_set (f i) (at i) (is i)) ∙ set-append_seam xs x [] value

  -- the last item was the first
  pub turned_last : (xs : List T) → ys ≡ xs → n + 1 ≡ length xs → (last out : T) → last ≡ get_or turned n last → out ≡ last → Some out ≡ slice_get xs 0
  turned_last [] same len last out is taken = absurd (omega (arith, len))
  turned_last (x ∷ xs) same len last out is taken =
      let at : n ≡ length xs = omega (arith, len) in
      let f : turned ≡ xs ++ x ∷ [] = e ∙ ap (λ l. drop 1 l ++ take 1 l) same in
      ap Some (taken ∙ is ∙ (λ i. get_or (f i) (at i) last) ∙ get_or-append_seam xs x [] last)
