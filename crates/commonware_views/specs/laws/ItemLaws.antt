-- Items of one size are determined by their bytes, and so is a list of them that an input begins with.
use Rattle.std.specs.Prelude.{◌≡◌, ◌≢◌, ℕ, ◌*◌, ◌%◌, List, [], ◌∷◌, ◌++◌, length, take, drop, refl}
use Rattle.std.specs.List.{AllByRecursion, flat_map}
use Rattle.std.proofs.Common.{arith, ap, ap₂, sym, ◌∙◌}
use Rattle.std.proofs.Math.Nat.{mul-mod_left, suc-mul}
use Rattle.std.proofs.Math.Seq.{drop-append_seam, take-append_seam}
use Rattle.std.proofs.lemmas.List.{append_assoc, length-append}
use Rattle.commonware_base.specs.Range.{Bounds}
use Rattle.commonware_base.specs.Varint.{varint}
use Rattle.commonware_base.specs.laws.ListLaws.{split_count}
use Rattle.commonware_base.specs.laws.VarintLaws.{varint_split}
use Rattle.commonware_sequence.specs.FixedBytes.{IsOfSize, own_bytes}
use Rattle.commonware_sequence.specs.laws.FixedBytesLaws.{fixed_prefix_free}
use Rattle.commonware_ordered.specs.Costs.{StatesLength}
use Rattle.commonware_views.specs.Lists.{AreItemsOf, IsListOf}

-- each has this length
abbrev pub AreLong : ℕ → List (List ℕ) → Type 0
AreLong size = AllByRecursion (λ item. length item ≡ size)

-- the first of two lists of bytes of one length, which begin the same bytes, are the same, and so is what follows them
same_front : (x y s t : List ℕ) → length x ≡ length y → x ++ s ≡ y ++ t → (x ≡ y) × (s ≡ t)
same_front x y s t long e = (
  sym (take-append_seam x s) ∙ ap (take (length x)) e ∙ ap (λ n. take n (y ++ t)) long ∙ take-append_seam y t,
  sym (drop-append_seam x s) ∙ ap (drop (length x)) e ∙ ap (λ n. drop n (y ++ t)) long ∙ drop-append_seam y t,
)

-- no item is the end
not_end : (size : ℕ) (x s : List ℕ) → size ≢ 0 → length x ≡ size → ([] ≡ x ++ s) → ⊥
not_end size x s some long e = some (omega (arith, long, ap length e, length-append x s))

-- two lists of items of one size, which is not 0, with the same bytes are the same
pub same_items : (size : ℕ) → size ≢ 0 → (xs ys : List (List ℕ)) → AreLong size xs → AreLong size ys
    → flat_map own_bytes xs ≡ flat_map own_bytes ys → xs ≡ ys
same_items size some [] [] hx hy e = refl
same_items size some [] (y ∷ ys) hx hy e = absurd (not_end size y (flat_map own_bytes ys) some hy.0 e)
same_items size some (x ∷ xs) [] hx hy e = absurd (not_end size x (flat_map own_bytes xs) some hx.0 (sym e))
same_items size some (x ∷ xs) (y ∷ ys) hx hy e =
    let both = same_front x y (flat_map own_bytes xs) (flat_map own_bytes ys) (hx.0 ∙ sym hy.0) e in
    ap₂ (λ z zs. z ∷ zs) both.0 (same_items size some xs ys hx.1 hy.1 both.1)

-- so bytes are items of this size in one way
pub one_reading : (size : ℕ) (s : List ℕ) → size ≢ 0 → (xs ys : List (List ℕ)) → AreItemsOf size s xs
    → AreItemsOf size s ys → xs ≡ ys
one_reading size s some xs ys hx hy =
    same_items size some xs ys hx.each hy.each (hx.together ∙ sym hy.together)

-- their bytes are as many as the items, times the size
pub items_length : (size : ℕ) (items : List (List ℕ)) → AreLong size items
    → length (flat_map own_bytes items) ≡ length items * size
items_length size [] each = omega arith
items_length size (x ∷ items) each =
    omega (
      arith,
      length-append x (flat_map own_bytes items),
      each.0,
      items_length size items each.1,
      suc-mul (length items) size,
    )

-- so none are left over
pub none_left_over : (size : ℕ) (s : List ℕ) (items : List (List ℕ)) → AreItemsOf size s items
    → length s % size ≡ 0
none_left_over size s items are =
    ap (λ n. n % size) (ap length (sym are.together) ∙ items_length size items are.each)
    ∙ mul-mod_left (length items) size

-- as many items of one size, with the same bytes and more after them, are the same
same_as_many : (size : ℕ) (xs ys : List (List ℕ)) (s t : List ℕ) → length xs ≡ length ys
    → AllByRecursion (IsOfSize size) xs → AllByRecursion (IsOfSize size) ys
    → flat_map own_bytes xs ++ s ≡ flat_map own_bytes ys ++ t → xs ≡ ys
same_as_many size [] [] s t n hx hy e = refl
same_as_many size [] (y ∷ ys) s t n hx hy e = absurd (omega arith)
same_as_many size (x ∷ xs) [] s t n hx hy e = absurd (omega arith)
same_as_many size (x ∷ xs) (y ∷ ys) s t n hx hy e =
    let both = same_front x y (flat_map own_bytes xs ++ s) (flat_map own_bytes ys ++ t) (hx.0.count ∙ sym hy.0.count)
    (sym (append_assoc x (flat_map own_bytes xs) s) ∙ e ∙ append_assoc y (flat_map own_bytes ys) t) in
    ap₂ (λ z zs. z ∷ zs) both.0 (same_as_many size xs ys s t (omega arith) hx.1 hy.1 both.1)

-- an input begins with one list
pub one_list : (size : ℕ) (range : Bounds ℕ) (s : List ℕ) (xs ys : List (List ℕ)) (x y : List ℕ)
    → IsListOf size range s xs x → IsListOf size range s ys y → xs ≡ ys
one_list size range s xs ys x y p q =
    let split = split_count own_bytes (IsOfSize size) (fixed_prefix_free size) xs ys x y p.writable q.writable
    (sym p.begins ∙ q.begins) in
    same_as_many size xs ys x y split.0 p.writable.each q.writable.each split.1

-- which has as many items as it states
pub stated_length : (size : ℕ) (range : Bounds ℕ) (s : List ℕ) (items : List (List ℕ)) (rest : List ℕ)
    → IsListOf size range s items rest → (n : ℕ) → StatesLength s n → length items ≡ n
stated_length size range s items rest p n stated =
    (varint_split (length items) n (flat_map own_bytes items ++ rest) stated.rest p.writable.short stated.short
    (sym (append_assoc (varint (length items)) (flat_map own_bytes items) rest) ∙ sym p.begins ∙ stated.begins)).0
