-- What is proved of equal lists of pairs.
use Rattle.std.specs.Prelude.{◌≡◌, Bool, true, false, ◌&&◌, List, [], ◌∷◌, refl}
use Rattle.std.specs.Cmp.Lexicographic.{pointwise}
use Rattle.std.specs.Map.{keys_of, values_of}
use Rattle.std.specs.Hash.{HashWrites, slice, and-Alike, on_Alike, items_Alike}
use Rattle.std.proofs.Common.{ap, subst, ◌∙◌, ◌++◌, IsTrue}
use Rattle.commonware_map.specs.Pairs.{is_equal_pair, are_equal_pairs}

and_regroup : (a b c d : Bool) → ((a && b) && (c && d)) ≡ ((a && c) && (b && d))
and_regroup true true c d = refl
and_regroup true false true d = refl
and_regroup true false false d = refl
and_regroup false b c d = refl

module _ {K V : Type 0} (key_eq : K → K → Bool) (value_eq : V → V → Bool) where
  -- lists of pairs are equal where their first parts are and their second parts are
  pub equal_by_parts : (es fs : List (K × V))
      → are_equal_pairs key_eq value_eq es fs
      ≡ (pointwise key_eq (keys_of es) (keys_of fs) && pointwise value_eq (values_of es) (values_of fs))
  equal_by_parts [] [] = refl
  equal_by_parts [] (f ∷ fs) = refl
  equal_by_parts (e ∷ es) [] = refl
  equal_by_parts (e ∷ es) (f ∷ fs) =
      ap (λ b. is_equal_pair key_eq value_eq e f && b) (equal_by_parts es fs)
      ∙ and_regroup (key_eq e.0 f.0) (value_eq e.1 f.1) (pointwise key_eq (keys_of es) (keys_of fs))
      (pointwise value_eq (values_of es) (values_of fs))

  -- equal lists of pairs feed a hasher alike, keys first
  pub pairs_respect_eq : (F : K → HashWrites) (G : V → HashWrites) → ((x y : K) → IsTrue (key_eq x y) → F x ≡ F y)
      → ((x y : V) → IsTrue (value_eq x y) → G x ≡ G y) → (es fs : List (K × V))
      → IsTrue (are_equal_pairs key_eq value_eq es fs)
      → (slice F (keys_of es) ++ slice G (values_of es)) ≡ (slice F (keys_of fs) ++ slice G (values_of fs))
  pairs_respect_eq F G f g es fs h =
      (and-Alike (on_Alike keys_of (items_Alike (record { fed = f })))
      (on_Alike values_of (items_Alike (record { fed = g })))).fed es fs
      (subst IsTrue (equal_by_parts es fs) h)

  -- pairs of clones are equal
  pub both_equal : (C : K → K → Type 0) (D : V → V → Type 0) → ((x y : K) → C x y → key_eq x y ≡ true)
      → ((x y : V) → D x y → value_eq x y ≡ true) → (p q : K × V) → C p.0 q.0 × D p.1 q.1
      → is_equal_pair key_eq value_eq p q ≡ true
  both_equal C D each_key each_value p q h = λ i. each_key p.0 q.0 h.0 i && each_value p.1 q.1 h.1 i
