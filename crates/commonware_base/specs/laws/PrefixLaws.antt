-- What the prefix of an input determines: the first fault of a list, and whether decoding it allocates.
use Rattle.std.proofs.Common.{◌≡◌, ℕ, suc, ◌+◌, ◌*◌, ◌^◌, ◌<◌, ◌≤◌, List, [], ◌∷◌, ◌++◌, length, refl, ap, sym, ◌∙◌}
use Rattle.std.proofs.Common.{arith, inl, inr, subst}
use Rattle.std.proofs.Common.{append_assoc, append-nil, length-append}
use Rattle.std.proofs.lemmas.Nat.{mul-le}
use Rattle.std.specs.List.{AllByRecursion, flat_map}
use Rattle.std.specs.Prelude.{◌↔◌}
use Rattle.commonware_base.specs.Fault.{Fault, EndOfBuffer, InvalidVarint, InvalidLength, Invalid}
use Rattle.commonware_base.specs.Prefixes.{IsDeterminedBy, IsLongPrefix}
use Rattle.commonware_base.specs.Lists.{BeginsOutOfRange, BeginsWithFaultyItem, ListFault, bad_varint, bad_length}
use Rattle.commonware_base.specs.Lists.{bad_item}
use Rattle.commonware_base.specs.Lists.{IsListMemoryFree, faulty_varint, outside, empty, first}
use Rattle.commonware_base.specs.Range.{Bounds, Within}
use Rattle.commonware_base.specs.Varint.{IsOverlongOrTooGreat, varint, varint_fault}
use Rattle.commonware_base.specs.laws.VarintLaws.{varint-length}

-- what is determined holds of the whole exactly where it holds of the prefix
pub determined_prefix : (bound : ℕ) (P : List ℕ → Type 0) (s prefix : List ℕ)
    → IsDeterminedBy bound P → IsLongPrefix bound s prefix
    → P prefix ↔ P s
determined_prefix bound P s prefix settled f = elim f.enough [
  | inl none ↦
      (let same : s ≡ prefix = f.whole ∙ ap (λ r. prefix ++ r) none ∙ append-nil prefix in
      (subst P (sym same), subst P same))
  | inr long ↦
      (let both = settled prefix f.rest long in
      ((λ p. subst P (sym f.whole) (both.0 p)), (λ p. both.1 (subst P f.whole p))))
]

-- where an input begins with x, and its prefix is as long as x or longer, the prefix begins with x
pub cut : (x s more r : List ℕ) → s ++ more ≡ x ++ r → length x ≤ length s
    → (c : List ℕ) × (s ≡ x ++ c) × (r ≡ c ++ more)
cut [] s more r e h = (s, refl, sym e)
cut (b ∷ x) [] more r e h = absurd (omega arith)
cut (b ∷ x) (a ∷ s) more r e h =
    let tail : s ++ more ≡ x ++ r = cc in
    let fits : length x ≤ length s = omega arith in
    let w = cut x s more r tail fits in
    let c = w.0 in
    let same : s ≡ x ++ c = w.1 in
    (c, cc, w.2)

-- an input that begins with x still does with more after it
pub grow : (x s more r : List ℕ) → s ≡ x ++ r → s ++ more ≡ x ++ (r ++ more)
grow x s more r e = ap (λ t. t ++ more) e ∙ append_assoc x r more

-- five bytes determine the fault of a varint
pub varint_fault_determined : (f : Fault) → IsDeterminedBy 5 (λ s. varint_fault s f)
varint_fault_determined EndOfBuffer s more h = (
  (λ w. absurd (omega (arith, w.short))),
  (λ w. absurd (omega (arith, w.short, length-append s more))),
)
varint_fault_determined InvalidVarint s more h = (on, back)
  where
    on : IsOverlongOrTooGreat s → IsOverlongOrTooGreat (s ++ more)
    on w = record {
      prefix = w.prefix;
      last = w.last;
      rest = w.rest ++ more;
      begins = grow w.prefix s more (w.last ∷ w.rest) w.begins;
      high = w.high;
      wrong = w.wrong;
    }

    back : IsOverlongOrTooGreat (s ++ more) → IsOverlongOrTooGreat s
    back w =
        let encoded = w.prefix ++ w.last ∷ [] in
        let short : length w.prefix ≤ 4 = elim w.wrong [ inl z ↦ z.2 | inr z ↦ omega (arith, z.0) ] in
        let e : s ++ more ≡ encoded ++ w.rest = w.begins ∙ sym (append_assoc w.prefix (w.last ∷ []) w.rest) in
        let c = cut encoded s more w.rest e (omega (arith, length-append w.prefix (w.last ∷ []))) in
        record {
          prefix = w.prefix;
          last = w.last;
          rest = c.0;
          begins = c.1 ∙ append_assoc w.prefix (w.last ∷ []) c.0;
          high = w.high;
          wrong = w.wrong;
        }
varint_fault_determined (InvalidLength n) s more h = ((λ w. w), (λ w. w))
varint_fault_determined (Invalid what why) s more h = ((λ w. w), (λ w. w))

-- Items take at most `size` bytes each, and the range allows at most `most` of them: then the first 5 + most * size
-- bytes determine the rest, where 5 bytes are for the length.
module _ {T : Type 0} (enc : T → List ℕ) (Writable Allowed : T → Type 0) (item_fault : List ℕ → Fault → Type 0)
    (ItemMemoryFree : List ℕ → Type 0) (range : Bounds ℕ) (size most : ℕ)
    (item_short : (v : T) → Writable v → length (enc v) ≤ size)
    (few : (n : ℕ) → Within range n → n ≤ most) where
  -- all items together
  pub items_short : (xs : List T) → AllByRecursion Writable xs → length (flat_map enc xs) ≤ length xs * size
  items_short [] p = omega arith
  items_short (x ∷ xs) p = omega (arith, item_short x p.0, items_short xs p.1, length-append (enc x) (flat_map enc xs))

  -- where fewer items than the length says come before it, what follows has room for one more
  room_left : (s x y r : List ℕ) (n : ℕ) → 5 + most * size ≤ length s → s ≡ x ++ (y ++ r) → length x ≤ 5
      → length y ≤ n * size → n < most → size ≤ length r
  room_left s x y r n h e p q l =
      let one : suc n * size ≤ most * size = mul-le (suc n) size most size (omega arith) (omega arith) in
      omega (arith, ap length e, length-append x (y ++ r), length-append y r)

  module _ (s more : List ℕ) (h : 5 + most * size ≤ length s) where
    -- an input that begins with a number
    after_number : (n : ℕ) (r : List ℕ) → n < 2 ^ 32 → s ++ more ≡ varint n ++ r
        → (c : List ℕ) × (s ≡ varint n ++ c) × (r ≡ c ++ more)
    after_number n r small e = cut (varint n) s more r e (omega (arith, varint-length n small))

    -- a length out of the range
    out_on : (n : ℕ) → BeginsOutOfRange range s n → BeginsOutOfRange range (s ++ more) n
    out_on n w =
        record {
          rest = w.rest ++ more;
          short = w.short;
          begins = grow (varint n) s more w.rest w.begins;
          outside = w.outside;
        }

    out_back : (n : ℕ) → BeginsOutOfRange range (s ++ more) n → BeginsOutOfRange range s n
    out_back n w = let c = after_number n w.rest w.short w.begins in
        record { rest = c.0; short = w.short; begins = c.1; outside = w.outside }

    -- the fault of an item
    module _ (item_determined : (f : Fault) → IsDeterminedBy size (λ s. item_fault s f)) where
      item_on : (f : Fault) → BeginsWithFaultyItem enc Writable Allowed item_fault range s f
          → BeginsWithFaultyItem enc Writable Allowed item_fault range (s ++ more) f
      item_on f w =
          let items = flat_map enc w.items in
          let less : length w.items < most = omega (arith, w.fewer, few w.count w.in_range) in
          let number = varint-length w.count w.short in
          let room =
          room_left s (varint w.count) items w.rest (length w.items) h w.begins number
          (items_short w.items w.writable) less in
          let longer = grow (varint w.count) s more (items ++ w.rest) w.begins in
          record {
            count = w.count;
            items = w.items;
            rest = w.rest ++ more;
            short = w.short;
            in_range = w.in_range;
            begins = longer ∙ ap (λ t. varint w.count ++ t) (append_assoc items w.rest more);
            fewer = w.fewer;
            writable = w.writable;
            allowed = w.allowed;
            faulty = (item_determined f w.rest more room).0 w.faulty;
          }

      item_back : (f : Fault) → BeginsWithFaultyItem enc Writable Allowed item_fault range (s ++ more) f
          → BeginsWithFaultyItem enc Writable Allowed item_fault range s f
      item_back f w =
          let items = flat_map enc w.items in
          let less : length w.items < most = omega (arith, w.fewer, few w.count w.in_range) in
          let c = after_number w.count (items ++ w.rest) w.short w.begins in
          let known = items_short w.items w.writable in
          let upto : length w.items * size ≤ most * size =
          mul-le (length w.items) size most size (omega arith) (omega arith) in
          let number = varint-length w.count w.short in
          let long : length items ≤ length c.0 = omega (arith, ap length c.1, length-append (varint w.count) c.0) in
          let d = cut items c.0 more w.rest (sym c.2) long in
          let begins : s ≡ varint w.count ++ (items ++ d.0) = c.1 ∙ ap (λ t. varint w.count ++ t) d.1 in
          let room = room_left s (varint w.count) items d.0 (length w.items) h begins number known less in
          record {
            count = w.count;
            items = w.items;
            rest = d.0;
            short = w.short;
            in_range = w.in_range;
            begins = begins;
            fewer = w.fewer;
            writable = w.writable;
            allowed = w.allowed;
            faulty = (item_determined f d.0 more room).1 (subst (λ t. item_fault t f) d.2 w.faulty);
          }

      list_on : (f : Fault) → ListFault enc Writable Allowed item_fault range s f
          → ListFault enc Writable Allowed item_fault range (s ++ more) f
      list_on f (bad_varint w) = bad_varint ((varint_fault_determined f s more (omega arith)).0 w)
      list_on f (bad_length n same w) = bad_length n same (out_on n w)
      list_on f (bad_item w) = bad_item (item_on f w)

      list_back : (f : Fault) → ListFault enc Writable Allowed item_fault range (s ++ more) f
          → ListFault enc Writable Allowed item_fault range s f
      list_back f (bad_varint w) = bad_varint ((varint_fault_determined f s more (omega arith)).1 w)
      list_back f (bad_length n same w) = bad_length n same (out_back n w)
      list_back f (bad_item w) = bad_item (item_back f w)

      -- whether it is read without an allocation
      module _ (some : 1 ≤ most) (free_determined : IsDeterminedBy size ItemMemoryFree) where
        first_room : (c : List ℕ) (n : ℕ) → n < 2 ^ 32 → s ≡ varint n ++ c → size ≤ length c
        first_room c n small e =
            let one : 1 * size ≤ most * size = mul-le 1 size most size some (omega arith) in
            omega (arith, ap length e, length-append (varint n) c, varint-length n small)

        free_on : IsListMemoryFree item_fault ItemMemoryFree range s
            → IsListMemoryFree item_fault ItemMemoryFree range (s ++ more)
        free_on (faulty_varint f w) = faulty_varint f ((varint_fault_determined f s more (omega arith)).0 w)
        free_on (outside n w) = outside n (out_on n w)
        free_on (empty r w) = empty (r ++ more) (grow (varint 0) s more r w)
        free_on (first n r f small w free fault) =
            let room = first_room r n small w in
            let faulty = (item_determined f r more room).0 fault in
            first n (r ++ more) f small (grow (varint n) s more r w) ((free_determined r more room).0 free) faulty

        free_back : IsListMemoryFree item_fault ItemMemoryFree range (s ++ more)
            → IsListMemoryFree item_fault ItemMemoryFree range s
        free_back (faulty_varint f w) = faulty_varint f ((varint_fault_determined f s more (omega arith)).1 w)
        free_back (outside n w) = outside n (out_back n w)
        free_back (empty r w) = let c = after_number 0 r (omega arith) w in empty c.0 c.1
        free_back (first n r f small w free fault) =
            let c = after_number n r small w in
            let room = first_room c.0 n small c.1 in
            let faulty = (item_determined f c.0 more room).1 (subst (λ t. item_fault t f) c.2 fault) in
            first n c.0 f small c.1 ((free_determined c.0 more room).1 (subst ItemMemoryFree c.2 free)) faulty

  module _ (item_determined : (f : Fault) → IsDeterminedBy size (λ s. item_fault s f)) where
    -- the fault of a list
    pub list_fault_determined :
        (f : Fault) → IsDeterminedBy (5 + most * size) (λ s. ListFault enc Writable Allowed item_fault range s f)
    list_fault_determined f s more h = (list_on s more h item_determined f, list_back s more h item_determined f)

    -- whether a list is decoded or refused without an allocation
    pub list_memory_free_determined : 1 ≤ most → IsDeterminedBy size ItemMemoryFree
        → IsDeterminedBy (5 + most * size) (IsListMemoryFree item_fault ItemMemoryFree range)
    list_memory_free_determined some free s more h =
        (free_on s more h item_determined some free, free_back s more h item_determined some free)
