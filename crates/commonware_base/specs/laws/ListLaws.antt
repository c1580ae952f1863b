-- Laws of lists of items that keep the laws.
use Rattle.std.proofs.Common.{◌≡◌, ℕ, zero, suc, ◌<◌, ◌^◌, List, [], ◌∷◌, ◌++◌, length, refl, ap, sym, ◌∙◌, arith, inl}
use Rattle.std.proofs.Common.{inr, subst}
use Rattle.std.specs.Prelude.{◌⊎◌}
use Rattle.std.specs.List.{AllByRecursion, flat_map}
use Rattle.std.specs.Prelude.{Bool, true, ◌↔◌}
use Rattle.std.specs.Cmp.Lexicographic.{pointwise}
use Rattle.std.proofs.lemmas.Bool.{and_parts, and_from}
use Rattle.std.proofs.lemmas.List.{append_assoc, append_cancel_left}
use Rattle.commonware_base.specs.Fault.{Fault, InvalidLength}
use Rattle.commonware_base.specs.Text.{AreBytes, Accepts, AcceptedOrFaulty, IsPrefixFree, ReadLaws, CanonicalLaws}
use Rattle.commonware_base.specs.Range.{Bounds, Within}
use Rattle.commonware_base.specs.laws.RangeLaws.{within_or_not}
use Rattle.commonware_base.specs.laws.TextLaws.{bytes_append, bytes_right}
use Rattle.commonware_base.specs.Varint.{varint}
use Rattle.commonware_base.specs.Lists.{list_enc, IsWritableList, IsAllowedList, ListFault, bad_varint, bad_length}
use Rattle.commonware_base.specs.Lists.{bad_item, list_case, at_varint, at_length, at_item}
use Rattle.commonware_base.specs.Lists.{IsListMemoryFree, faulty_varint}
use Rattle.commonware_base.specs.Lists.{outside, empty, first}
use Rattle.commonware_base.specs.laws.VarintLaws.{varint_split, varint_no_fault, varint_one_fault, varint_or_fault}
use Rattle.commonware_base.specs.laws.VarintLaws.{varint_bytes}

module _ {T : Type 0} (enc : T → List ℕ) (Writable : T → Type 0)
    (prefix_free : IsPrefixFree enc Writable) where
  -- the first items have one encoding, and what follows them is the same
  split_first : (a b : T) (xs ys : List T) (s t : List ℕ) → Writable a → Writable b
      → flat_map enc (a ∷ xs) ++ s ≡ flat_map enc (b ∷ ys) ++ t
      → (enc a ≡ enc b) × (flat_map enc xs ++ s ≡ flat_map enc ys ++ t)
  split_first a b xs ys s t p q e =
      let f : enc a ++ (flat_map enc xs ++ s) ≡ enc b ++ (flat_map enc ys ++ t) =
      sym (append_assoc (enc a) (flat_map enc xs) s) ∙ e ∙ append_assoc (enc b) (flat_map enc ys) t in
      let g : enc a ≡ enc b = prefix_free a b _ _ p q f in
      (g, append_cancel_left (enc b) _ _ (ap (λ u. u ++ (flat_map enc xs ++ s)) (sym g) ∙ f))

  -- as many items of one encoding
  pub same_items : (xs ys : List T) (s t : List ℕ) → length xs ≡ length ys → AllByRecursion Writable xs
      → AllByRecursion Writable ys → flat_map enc xs ++ s ≡ flat_map enc ys ++ t
      → (flat_map enc xs ≡ flat_map enc ys) × (s ≡ t)
  same_items [] [] s t n p q e = (refl, e)
  same_items [] (b ∷ ys) s t n p q e = absurd (omega arith)
  same_items (a ∷ xs) [] s t n p q e = absurd (omega arith)
  same_items (a ∷ xs) (b ∷ ys) s t n p q e =
      let f = split_first a b xs ys s t p.0 q.0 e in
      let rest = same_items xs ys s t (omega arith) p.1 q.1 f.1 in
      let head : enc a ≡ enc b = f.0 in
      let tail : flat_map enc xs ≡ flat_map enc ys = rest.0 in
      (cc, rest.1)

  -- the same length, and then the same
  pub split_count : (xs ys : List T) (s t : List ℕ) → IsWritableList Writable xs → IsWritableList Writable ys
      → list_enc enc xs ++ s ≡ list_enc enc ys ++ t
      → (length xs ≡ length ys) × (flat_map enc xs ++ s ≡ flat_map enc ys ++ t)
  split_count xs ys s t p q e =
      varint_split (length xs) (length ys) _ _ p.short q.short
      (sym (append_assoc (varint (length xs)) (flat_map enc xs) s) ∙ e
      ∙ append_assoc (varint (length ys)) (flat_map enc ys) t)

  -- no encoding of a list is a proper prefix of another's
  pub list_prefix_free : IsPrefixFree (list_enc enc) (IsWritableList Writable)
  list_prefix_free xs ys s t p q e =
      let f = split_count xs ys s t p q e in
      let n : length xs ≡ length ys = f.0 in
      let u : flat_map enc xs ≡ flat_map enc ys = (same_items xs ys s t f.0 p.each q.each f.1).0 in
      cc

  module _ (Allowed : T → Type 0)
      (allowed_by_bytes : (a b : T) → Writable a → Writable b → enc a ≡ enc b → Allowed a → Allowed b) where
    -- as many items of one encoding are allowed together
    allowed_items : (xs ys : List T) → length xs ≡ length ys → AllByRecursion Writable xs → AllByRecursion Writable ys
        → flat_map enc xs ++ [] ≡ flat_map enc ys ++ [] → AllByRecursion Allowed xs → AllByRecursion Allowed ys
    allowed_items [] [] n p q e h = tt
    allowed_items [] (b ∷ ys) n p q e h = absurd (omega arith)
    allowed_items (a ∷ xs) [] n p q e h = absurd (omega arith)
    allowed_items (a ∷ xs) (b ∷ ys) n p q e h =
        let f = split_first a b xs ys [] [] p.0 q.0 e in
        (allowed_by_bytes a b p.0 q.0 f.0 h.0, allowed_items xs ys (omega arith) p.1 q.1 f.1 h.1)

    -- lists of one encoding are allowed together
    pub list_allowed_by_bytes : (range : Bounds ℕ) (xs ys : List T) → IsWritableList Writable xs
        → IsWritableList Writable ys → list_enc enc xs ≡ list_enc enc ys → IsAllowedList range Allowed xs
        → IsAllowedList range Allowed ys
    list_allowed_by_bytes range xs ys p q e h =
        let f = split_count xs ys [] [] p q (ap (λ u. u ++ []) e) in
        record {
          in_range = subst (Within range) f.0 h.in_range;
          each = allowed_items xs ys f.0 p.each q.each f.1 h.each;
        }

    module _ (item_fault : List ℕ → Fault → Type 0)
        (one_fault : (s : List ℕ) (f g : Fault) → item_fault s f → item_fault s g → f ≡ g)
        (accepted_no_fault : (s : List ℕ) (v : T) (r : List ℕ) (f : Fault) → Accepts enc Writable Allowed s v r
        → item_fault s f → ⊥) where
      -- an input that begins with an item has no fault of an item
      no_fault_before : (a : T) (xs : List T) (s t : List ℕ) (f : Fault) → Writable a → Allowed a
          → t ≡ flat_map enc (a ∷ xs) ++ s → item_fault t f → ⊥
      no_fault_before a xs s t f p h e w =
          accepted_no_fault t a (flat_map enc xs ++ s) f
          (record { writable = p; allowed = h; begins = e ∙ append_assoc (enc a) (flat_map enc xs) s }) w

      -- the first fault is one
      first_fault : (xs ys : List T) (s t : List ℕ) (f g : Fault) → AllByRecursion Writable xs
          → AllByRecursion Writable ys → AllByRecursion Allowed xs → AllByRecursion Allowed ys
          → flat_map enc xs ++ s ≡ flat_map enc ys ++ t → item_fault s f → item_fault t g → f ≡ g
      first_fault [] [] s t f g p q h k e v w = one_fault s f g v (subst (λ u. item_fault u g) (sym e) w)
      first_fault [] (b ∷ ys) s t f g p q h k e v w = absurd (no_fault_before b ys t s f q.0 k.0 e v)
      first_fault (a ∷ xs) [] s t f g p q h k e v w = absurd (no_fault_before a xs s t g p.0 h.0 (sym e) w)
      first_fault (a ∷ xs) (b ∷ ys) s t f g p q h k e v w =
          first_fault xs ys s t f g p.1 q.1 h.1 k.1 (split_first a b xs ys s t p.0 q.0 e).1 v w

      -- no fault among items that are read
      no_fault_among : (xs ys : List T) (s t : List ℕ) (g : Fault) → length ys < length xs → AllByRecursion Writable xs
          → AllByRecursion Writable ys → AllByRecursion Allowed xs → flat_map enc xs ++ s ≡ flat_map enc ys ++ t
          → item_fault t g → ⊥
      no_fault_among [] ys s t g n p q h e w = omega arith
      no_fault_among (a ∷ xs) [] s t g n p q h e w = no_fault_before a xs s t g p.0 h.0 (sym e) w
      no_fault_among (a ∷ xs) (b ∷ ys) s t g n p q h e w =
          no_fault_among xs ys s t g (omega arith) p.1 q.1 h.1 (split_first a b xs ys s t p.0 q.0 e).1 w

      module _ (range : Bounds ℕ) where
        -- an input that begins with a list has no fault
        pub list_accepted_no_fault : (s : List ℕ) (xs : List T) (r : List ℕ) (f : Fault) → IsWritableList Writable xs
            → IsAllowedList range Allowed xs → s ≡ list_enc enc xs ++ r
            → ListFault enc Writable Allowed item_fault range s f → ⊥
        list_accepted_no_fault s xs r f p h e (bad_varint w) =
            varint_no_fault s (length xs) (flat_map enc xs ++ r) f p.short
            (e ∙ append_assoc (varint (length xs)) (flat_map enc xs) r) w
        list_accepted_no_fault s xs r f p h e (bad_length n q w) =
            let c = varint_split n (length xs) _ _ w.short p.short
            (sym w.begins ∙ e ∙ append_assoc (varint (length xs)) (flat_map enc xs) r) in
            w.outside (subst (Within range) (sym c.0) h.in_range)
        list_accepted_no_fault s xs r f p h e (bad_item w) =
            let c = varint_split w.count (length xs) _ _ w.short p.short
            (sym w.begins ∙ e ∙ append_assoc (varint (length xs)) (flat_map enc xs) r) in
            no_fault_among xs w.items r w.rest f (subst (λ n. length w.items < n) c.0 w.fewer) p.each w.writable h.each
            (sym c.1) w.faulty

        -- two faults of an input are in one error case
        pub list_one_case :
            (s : List ℕ) (f g : Fault) (v : ListFault enc Writable Allowed item_fault range s f)
            (w : ListFault enc Writable Allowed item_fault range s g) → list_case v ≡ list_case w
        list_one_case s f g (bad_varint v) (bad_varint w) = refl
        list_one_case s f g (bad_varint v) (bad_length m q w) =
            absurd (varint_no_fault s m w.rest f w.short w.begins v)
        list_one_case s f g (bad_varint v) (bad_item w) = absurd (varint_no_fault s w.count _ f w.short w.begins v)
        list_one_case s f g (bad_length n p v) (bad_varint w) =
            absurd (varint_no_fault s n v.rest g v.short v.begins w)
        list_one_case s f g (bad_length n p v) (bad_length m q w) = refl
        list_one_case s f g (bad_length n p v) (bad_item w) =
            absurd (v.outside
            (subst (Within range) (varint_split w.count n _ _ w.short v.short (sym w.begins ∙ v.begins)).0 w.in_range))
        list_one_case s f g (bad_item v) (bad_varint w) = absurd (varint_no_fault s v.count _ g v.short v.begins w)
        list_one_case s f g (bad_item v) (bad_length m q w) =
            absurd (w.outside
            (subst (Within range) (varint_split v.count m _ _ v.short w.short (sym v.begins ∙ w.begins)).0 v.in_range))
        list_one_case s f g (bad_item v) (bad_item w) = refl

        -- an input has at most one fault
        pub list_one_fault : (s : List ℕ) (f g : Fault) → ListFault enc Writable Allowed item_fault range s f
            → ListFault enc Writable Allowed item_fault range s g → f ≡ g
        list_one_fault s f g (bad_varint v) (bad_varint w) = varint_one_fault s f g v w
        list_one_fault s f g (bad_length n p v) (bad_length m q w) =
            p ∙ ap InvalidLength (varint_split n m _ _ v.short w.short (sym v.begins ∙ w.begins)).0 ∙ sym q
        list_one_fault s f g (bad_item v) (bad_item w) =
            first_fault v.items w.items v.rest w.rest f g v.writable w.writable v.allowed w.allowed
            (varint_split v.count w.count _ _ v.short w.short (sym v.begins ∙ w.begins)).1 v.faulty w.faulty
        list_one_fault s f g (bad_varint v) (bad_length m q w) = let cut : at_varint ≡ at_length =
            list_one_case s f g (bad_varint v) (bad_length m q w) in absurd (cc)
        list_one_fault s f g (bad_varint v) (bad_item w) = let cut : at_varint ≡ at_item =
            list_one_case s f g (bad_varint v) (bad_item w) in absurd (cc)
        list_one_fault s f g (bad_length n p v) (bad_varint w) = let cut : at_length ≡ at_varint =
            list_one_case s f g (bad_length n p v) (bad_varint w) in absurd (cc)
        list_one_fault s f g (bad_length n p v) (bad_item w) = let cut : at_length ≡ at_item =
            list_one_case s f g (bad_length n p v) (bad_item w) in absurd (cc)
        list_one_fault s f g (bad_item v) (bad_varint w) = let cut : at_item ≡ at_varint =
            list_one_case s f g (bad_item v) (bad_varint w) in absurd (cc)
        list_one_fault s f g (bad_item v) (bad_length m q w) = let cut : at_item ≡ at_length =
            list_one_case s f g (bad_item v) (bad_length m q w) in absurd (cc)

        -- Some items, and then a fault, or all of them.
        record Items (n : ℕ) (s : List ℕ) : Type 0 where
          items : List T
          rest : List ℕ
          count : length items ≡ n
          begins : s ≡ flat_map enc items ++ rest
          writable : AllByRecursion Writable items
          allowed : AllByRecursion Allowed items

        record FaultyItems (n : ℕ) (s : List ℕ) : Type 0 where
          items : List T
          rest : List ℕ
          fault : Fault
          fewer : length items < n
          begins : s ≡ flat_map enc items ++ rest
          writable : AllByRecursion Writable items
          allowed : AllByRecursion Allowed items
          faulty : item_fault rest fault

        module _ (accepted_or_faulty : (s : List ℕ) → AreBytes s
            → AcceptedOrFaulty enc Writable Allowed (item_fault s) s) where
          -- an input begins with n items, or with fewer and then a fault
          items_or_fault : (n : ℕ) (s : List ℕ) → AreBytes s → Items n s ⊎ FaultyItems n s
          items_or_fault zero s h =
              inl (record { items = []; rest = s; count = refl; begins = refl; writable = tt; allowed = tt })
          items_or_fault (suc n) s h = elim (accepted_or_faulty s h) [
            | inr w ↦ inr
                (record {
                  items = [];
                  rest = s;
                  fault = w.0;
                  fewer = omega arith;
                  begins = refl;
                  writable = tt;
                  allowed = tt;
                  faulty = w.1;
                })
            | inl w ↦ elim (items_or_fault n w.1 (bytes_right (enc w.0) w.1 (subst AreBytes w.2.begins h))) [
              | inl v ↦ inl (record {
                items = w.0 ∷ v.items;
                rest = v.rest;
                count = ap suc v.count;
                begins = w.2.begins ∙ ap (λ u. enc w.0 ++ u) v.begins
                    ∙ sym (append_assoc (enc w.0) (flat_map enc v.items) v.rest);
                writable = (w.2.writable, v.writable);
                allowed = (w.2.allowed, v.allowed);
              })
              | inr v ↦ inr (record {
                items = w.0 ∷ v.items;
                rest = v.rest;
                fault = v.fault;
                fewer = omega (arith, v.fewer);
                begins = w.2.begins ∙ ap (λ u. enc w.0 ++ u) v.begins
                    ∙ sym (append_assoc (enc w.0) (flat_map enc v.items) v.rest);
                writable = (w.2.writable, v.writable);
                allowed = (w.2.allowed, v.allowed);
                faulty = v.faulty;
              })
            ]
          ]

          -- an input begins with a list or has a fault
          pub list_accepted_or_faulty : (s : List ℕ) → AreBytes s
              → AcceptedOrFaulty (list_enc enc) (IsWritableList Writable) (IsAllowedList range Allowed)
              (ListFault enc Writable Allowed item_fault range s) s
          list_accepted_or_faulty s h = elim (varint_or_fault s h) [
            | inr w ↦ inr (w.0, bad_varint w.1)
            | inl w ↦ elim (within_or_not range w.0) [
              | inr o ↦ inr (
                InvalidLength w.0,
                bad_length w.0 refl
                    (record { rest = w.1; short = w.2; begins = w.3; outside = o }),
              )
              | inl o ↦ elim (items_or_fault w.0 w.1 (bytes_right (varint w.0) w.1 (subst AreBytes w.3 h))) [
                | inl v ↦ inl (
                  v.items,
                  v.rest,
                  record {
                    writable = record { short = subst (λ n. n < 2 ^ 32) (sym v.count) w.2; each = v.writable };
                    allowed = record { in_range = subst (Within range) (sym v.count) o; each = v.allowed };
                    begins = w.3 ∙ ap (λ u. varint w.0 ++ u) v.begins
                        ∙ sym (append_assoc (varint w.0) (flat_map enc v.items) v.rest)
                        ∙ ap (λ n. (varint n ++ flat_map enc v.items) ++ v.rest) (sym v.count);
                  },
                )
                | inr v ↦ inr (
                  v.fault,
                  bad_item (record {
                    count = w.0;
                    items = v.items;
                    rest = v.rest;
                    short = w.2;
                    in_range = o;
                    begins = w.3 ∙ ap (λ u. varint w.0 ++ u) v.begins;
                    fewer = v.fewer;
                    writable = v.writable;
                    allowed = v.allowed;
                    faulty = v.faulty;
                  }),
                )
              ]
            ]
          ]

-- A list whose first item is read, or needs an allocation, isn't memory-free.
pub list_needs_memory :
    (item_fault : List ℕ → Fault → Type 0) (ItemMemoryFree : List ℕ → Type 0) (range : Bounds ℕ) (s : List ℕ) (n : ℕ)
    (r : List ℕ) → n < 2 ^ 32 → 0 < n → Within range n → s ≡ varint n ++ r
    → (ItemMemoryFree r → (f : Fault) → item_fault r f → ⊥) → ¬ IsListMemoryFree item_fault ItemMemoryFree range s
list_needs_memory item_fault ItemMemoryFree range s n r h p i e none m = go m
  where
    go : IsListMemoryFree item_fault ItemMemoryFree range s → ⊥
    go (faulty_varint f w) = varint_no_fault s n r f h e w
    go (outside k w) = w.outside (subst (Within range) (varint_split n k _ _ h w.short (sym e ∙ w.begins)).0 i)
    go (empty t w) = let z : n ≡ 0 = (varint_split n 0 _ _ h (omega arith) (sym e ∙ w)).0 in omega arith
    go (first k t f q w free fault) =
        let same : r ≡ t = (varint_split n k _ _ h q (sym e ∙ w)).1 in
        none (subst ItemMemoryFree (sym same) free) f (subst (λ u. item_fault u f) (sym same) fault)

-- Equal lists have one encoding, and lists of one encoding are equal.
module _ {T : Type 0} (enc : T → List ℕ) (Writable : T → Type 0)
    (prefix_free : IsPrefixFree enc Writable)
    (eq : T → T → Bool) where
  -- equal lists have one length
  pub pointwise_length : (xs ys : List T) → pointwise eq xs ys ≡ true → length xs ≡ length ys
  pointwise_length [] [] e = refl
  pointwise_length [] (y ∷ ys) e = absurd (cc)
  pointwise_length (x ∷ xs) [] e = absurd (cc)
  pointwise_length (x ∷ xs) (y ∷ ys) e = ap suc (pointwise_length xs ys (and_parts (eq x y) (pointwise eq xs ys) e).1)

  module _ (equal_by_bytes : (a b : T) → Writable a → Writable b → (eq a b ≡ true) ↔ (enc a ≡ enc b)) where
    -- equal items have one encoding
    equal_items : (xs ys : List T) → AllByRecursion Writable xs → AllByRecursion Writable ys → pointwise eq xs ys ≡ true
        → flat_map enc xs ≡ flat_map enc ys
    equal_items [] [] p q e = refl
    equal_items [] (y ∷ ys) p q e = absurd (cc)
    equal_items (x ∷ xs) [] p q e = absurd (cc)
    equal_items (x ∷ xs) (y ∷ ys) p q e =
        let b = and_parts (eq x y) (pointwise eq xs ys) e in
        let head : enc x ≡ enc y = (equal_by_bytes x y p.0 q.0).0 b.0 in
        let tail = equal_items xs ys p.1 q.1 b.1 in
        cc

    -- items of one encoding are equal
    items_equal : (xs ys : List T) → length xs ≡ length ys → AllByRecursion Writable xs → AllByRecursion Writable ys
        → flat_map enc xs ++ [] ≡ flat_map enc ys ++ [] → pointwise eq xs ys ≡ true
    items_equal [] [] n p q e = refl
    items_equal [] (y ∷ ys) n p q e = absurd (omega arith)
    items_equal (x ∷ xs) [] n p q e = absurd (omega arith)
    items_equal (x ∷ xs) (y ∷ ys) n p q e =
        let f = split_first enc Writable prefix_free x y xs ys [] [] p.0 q.0 e in
        and_from (eq x y) (pointwise eq xs ys) ((equal_by_bytes x y p.0 q.0).1 f.0)
        (items_equal xs ys (omega arith) p.1 q.1 f.1)

    -- lists are equal exactly where their bytes are
    pub list_equal_by_bytes : (xs ys : List T) → IsWritableList Writable xs → IsWritableList Writable ys
        → (pointwise eq xs ys ≡ true) ↔ (list_enc enc xs ≡ list_enc enc ys)
    list_equal_by_bytes xs ys p q = (
      (λ e. let n : length xs ≡ length ys = pointwise_length xs ys e in
          let t : flat_map enc xs ≡ flat_map enc ys = equal_items xs ys p.each q.each e in
          cc),
      (λ e. let f = split_count enc Writable prefix_free xs ys [] [] p q (ap (λ u. u ++ []) e) in
          items_equal xs ys f.0 p.each q.each f.1),
    )

  -- equal lists are writable together
  pub list_writable_together : ((a b : T) → eq a b ≡ true → Writable a → Writable b) → (xs ys : List T)
      → pointwise eq xs ys ≡ true → IsWritableList Writable xs → IsWritableList Writable ys
  list_writable_together together xs ys e p =
      record { short = subst (λ n. n < 2 ^ 32) (pointwise_length xs ys e) p.short; each = go xs ys e p.each }
    where
      go : (us vs : List T) → pointwise eq us vs ≡ true → AllByRecursion Writable us → AllByRecursion Writable vs
      go [] [] e p = tt
      go [] (y ∷ vs) e p = absurd (cc)
      go (x ∷ us) [] e p = absurd (cc)
      go (x ∷ us) (y ∷ vs) e p = let b = and_parts (eq x y) (pointwise eq us vs) e in
          (together x y b.0 p.0, go us vs b.1 p.1)

-- A list keeps the laws that its items keep.
module _ {T : Type 0} (enc : T → List ℕ) (Writable : T → Type 0) (prefix_free : IsPrefixFree enc Writable) where
  -- the laws of the encodings of lists
  pub list_laws : (Allowed : T → Type 0) (item_fault : List ℕ → Fault → Type 0) (range : Bounds ℕ)
      → ReadLaws enc Writable Allowed item_fault → ReadLaws (list_enc enc) (IsWritableList Writable)
      (IsAllowedList range Allowed) (ListFault enc Writable Allowed item_fault range)
  list_laws Allowed item_fault range h = record {
    allowed_by_bytes = list_allowed_by_bytes enc Writable prefix_free Allowed h.allowed_by_bytes range;
    one_fault =
        list_one_fault enc Writable prefix_free Allowed h.allowed_by_bytes item_fault h.one_fault h.accepted_no_fault
        range;
    accepted_no_fault =
        λ s v r f a. list_accepted_no_fault enc Writable prefix_free Allowed h.allowed_by_bytes item_fault h.one_fault
        h.accepted_no_fault range s v r f a.writable a.allowed a.begins;
    accepted_or_faulty =
        list_accepted_or_faulty enc Writable prefix_free Allowed h.allowed_by_bytes item_fault h.one_fault
        h.accepted_no_fault range h.accepted_or_faulty;
  }

  -- the error cases of a list exclude one another
  pub list_cases_exclude : (Allowed : T → Type 0) (item_fault : List ℕ → Fault → Type 0) (range : Bounds ℕ)
      → ReadLaws enc Writable Allowed item_fault → (s : List ℕ) (f g : Fault)
      (v : ListFault enc Writable Allowed item_fault range s f)
      (w : ListFault enc Writable Allowed item_fault range s g) → list_case v ≡ list_case w
  list_cases_exclude Allowed item_fault range h =
      list_one_case enc Writable prefix_free Allowed h.allowed_by_bytes item_fault h.one_fault h.accepted_no_fault range

  -- lists are canonical where their items are
  pub list_canonical : (eq : T → T → Bool) → CanonicalLaws enc Writable eq
      → CanonicalLaws (list_enc enc) (IsWritableList Writable) (pointwise eq)
  list_canonical eq h = record {
    equal_by_bytes = list_equal_by_bytes enc Writable prefix_free eq h.equal_by_bytes;
    writable_together = list_writable_together enc Writable prefix_free eq h.writable_together;
  }

-- The bytes of the items of a list are bytes.
items_bytes : {T : Type 0} (enc : T → List ℕ) (Writable : T → Type 0) → ((v : T) → Writable v → AreBytes (enc v))
    → (xs : List T) → AllByRecursion Writable xs → AreBytes (flat_map enc xs)
items_bytes enc Writable each [] p = tt
items_bytes enc Writable each (x ∷ xs) p =
    bytes_append (enc x) (flat_map enc xs) (each x p.0) (items_bytes enc Writable each xs p.1)

-- The bytes of a list are bytes.
pub list_bytes : {T : Type 0} (enc : T → List ℕ) (Writable : T → Type 0) → ((v : T) → Writable v → AreBytes (enc v))
    → (xs : List T) → IsWritableList Writable xs → AreBytes (list_enc enc xs)
list_bytes enc Writable each xs p =
    bytes_append (varint (length xs)) (flat_map enc xs) (varint_bytes (length xs) p.short)
    (items_bytes enc Writable each xs p.each)
