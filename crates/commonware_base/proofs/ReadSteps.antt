-- Steps of the reader of lists.
use Rattle.std.proofs.Common.{◌≡◌, ℕ, zero, suc, ◌+◌, ◌<◌, ◌^◌, List, [], ◌∷◌, ◌++◌, length, refl, ap, sym, ◌∙◌, arith, subst, length-append, inl, inr}
use Rattle.std.specs.List.{AllByRecursion, flat_map}
use Rattle.std.proofs.lemmas.List.{append_assoc, append-nil}
use Rattle.std.proofs.lemmas.List.Concat.{flat_map-append}
use Rattle.commonware_base.specs.Range.{Bounds}
use Rattle.commonware_base.specs.declared.codec.source.Source.{Source}
use Rattle.commonware_base.specs.Fault.{Fault, InvalidLength}
use Rattle.commonware_base.specs.Text.{Accepts}
use Rattle.commonware_base.specs.Range.{Within}
use Rattle.commonware_base.specs.Source.{Consumes, rest_of}
use Rattle.commonware_base.specs.Varint.{varint}
use Rattle.commonware_base.specs.Lists.{list_enc, IsWritableList, IsAllowedList, ListFault, bad_length, bad_item, IsListMemoryFree, ItemsFault, IsItemsMemoryFree}
use Rattle.commonware_base.specs.laws.ListLaws.{list_needs_memory}
use Rattle.commonware_base.proofs.SourceLemmas.{consumes_both}

-- what holds of all items, and of one more, holds of all with it
all_push : {T : Type 0} (P : T → Type 0) (xs : List T) (x : T) → AllByRecursion P xs → P x → AllByRecursion P (xs ++ x ∷ [])
all_push P [] x h p = (p, tt)
all_push P (y ∷ xs) x h p = (h.0, all_push P xs x h.1 p)

-- The length and these items were read.
pub record ReadSoFar {T : Type 0} (enc : T → List ℕ) (Writable Allowed : T → Type 0) (range : Bounds ℕ) (count done : ℕ) (start now : Source) (items : List T) : Type 0 where
  pub short : count < 2 ^ 32
  pub in_range : Within range count
  pub taken : Consumes start now (varint count ++ flat_map enc items)
  pub writable : AllByRecursion Writable items
  pub allowed : AllByRecursion Allowed items
  pub done_is : length items ≡ done

module _ {T : Type 0} (enc : T → List ℕ) (Writable Allowed : T → Type 0) (range : Bounds ℕ) (count : ℕ) (start : Source) where
  -- no item was read yet
  pub read_none : (now : Source) → count < 2 ^ 32 → Within range count → Consumes start now (varint count) → ReadSoFar enc Writable Allowed range count 0 start now []
  read_none now h w t = record { short = h; in_range = w; taken = subst (Consumes start now) (sym (append-nil (varint count))) t; writable = tt; allowed = tt; done_is = refl }

  -- one more item was read
  pub read_more : (done : ℕ) (now next : Source) (items : List T) (v : T) → ReadSoFar enc Writable Allowed range count done start now items → Accepts enc Writable Allowed (rest_of now) v (rest_of next) → Consumes now next (enc v) → ReadSoFar enc Writable Allowed range count (done + 1) start next (items ++ v ∷ [])
  read_more done now next items v s a t =
      let both = consumes_both start now next (varint count ++ flat_map enc items) (enc v) s.taken t in
      let one : flat_map enc (v ∷ []) ≡ enc v = append-nil (enc v) in
      let e : (varint count ++ flat_map enc items) ++ enc v ≡ varint count ++ flat_map enc (items ++ v ∷ []) =
      append_assoc (varint count) (flat_map enc items) (enc v) ∙ ap (λ u. varint count ++ u) (ap (λ u. flat_map enc items ++ u) (sym one) ∙ sym (flat_map-append enc items (v ∷ []))) in
      record {
        short = s.short;
        in_range = s.in_range;
        taken = subst (Consumes start next) e both;
        writable = all_push Writable items v s.writable a.writable;
        allowed = all_push Allowed items v s.allowed a.allowed;
        done_is = let n = length-append items (v ∷ []) in omega (arith, n, s.done_is);
      }

  module _ (now : Source) (items : List T) (s : ReadSoFar enc Writable Allowed range count count start now items) where
    -- all items were read
    pub read_all : Consumes start now (list_enc enc items)
    read_all = subst (λ n. Consumes start now (varint n ++ flat_map enc items)) (sym s.done_is) s.taken

    -- so the list is writable
    pub read_all_writable : IsWritableList Writable items
    read_all_writable = record { short = subst (λ n. n < 2 ^ 32) (sym s.done_is) s.short; each = s.writable }

    -- and allowed
    pub read_all_allowed : IsAllowedList range Allowed items
    read_all_allowed = record { in_range = subst (Within range) (sym s.done_is) s.in_range; each = s.allowed }

  module _ (item_fault : List ℕ → Fault → Type 0) (ItemMemoryFree : List ℕ → Type 0) where
    -- a length out of the range is the fault
    pub read_outside : (now : Source) → count < 2 ^ 32 → ¬ Within range count → Consumes start now (varint count) → ListFault enc Writable Allowed item_fault range (rest_of start) (InvalidLength count)
    read_outside now h w t = bad_length count refl (record { rest = rest_of now; short = h; begins = t.rest; outside = w })

    -- an item's fault is the list's
    pub read_faulty : (done : ℕ) (now : Source) (items : List T) (f : Fault) → ReadSoFar enc Writable Allowed range count done start now items → done < count → item_fault (rest_of now) f → ListFault enc Writable Allowed item_fault range (rest_of start) f
    read_faulty done now items f s h w = bad_item (record {
      count = count;
      items = items;
      rest = rest_of now;
      short = s.short;
      in_range = s.in_range;
      begins = s.taken.rest ∙ append_assoc (varint count) (flat_map enc items) (rest_of now);
      fewer = omega (arith, s.done_is, h);
      writable = s.writable;
      allowed = s.allowed;
      faulty = w;
    })

    -- Where some item is read, or reading the first allocates, reading the list allocates.
    pub read_wants : (done : ℕ) (now : Source) (items : List T) → ReadSoFar enc Writable Allowed range count done start now items → 0 < count →
        ((s : List ℕ) (v : T) (r : List ℕ) (f : Fault) → Accepts enc Writable Allowed s v r → item_fault s f → ⊥) →
        (done ≡ 0 → ¬ ItemMemoryFree (rest_of now)) → ¬ IsListMemoryFree item_fault ItemMemoryFree range (rest_of start)
    read_wants done now items s p accepted_no_fault first_wants = list_needs_memory item_fault ItemMemoryFree range (rest_of start) count (flat_map enc items ++ rest_of now) s.short p s.in_range
        (s.taken.rest ∙ append_assoc (varint count) (flat_map enc items) (rest_of now)) (go items s.done_is s.writable s.allowed)
      where
        go : (xs : List T) → length xs ≡ done → AllByRecursion Writable xs → AllByRecursion Allowed xs → ItemMemoryFree (flat_map enc xs ++ rest_of now) → (f : Fault) → item_fault (flat_map enc xs ++ rest_of now) f → ⊥
        go [] n w a free f fault = first_wants (sym n) free
        go (x ∷ xs) n w a free f fault = accepted_no_fault _ x (flat_map enc xs ++ rest_of now) f (record { writable = w.0; allowed = a.0; begins = append_assoc (enc x) (flat_map enc xs) (rest_of now) }) fault

-- The length was read, and it is in the range.
module _ {T : Type 0} (enc : T → List ℕ) (Writable Allowed : T → Type 0) (range : Bounds ℕ) (count : ℕ) (start now : Source) (short : count < 2 ^ 32) (taken : Consumes start now (varint count)) (item_fault : List ℕ → Fault → Type 0) (ItemMemoryFree : List ℕ → Type 0) (in_range : Within range count) where
  -- the fault of the items is the list's
  pub list_faulty : (f : Fault) → ItemsFault enc Writable Allowed item_fault count (rest_of now) f → ListFault enc Writable Allowed item_fault range (rest_of start) f
  list_faulty f w = bad_item (record {
    count = count;
    items = w.items;
    rest = w.rest;
    short = short;
    in_range = in_range;
    begins = taken.rest ∙ ap (λ u. varint count ++ u) w.begins;
    fewer = w.fewer;
    writable = w.writable;
    allowed = w.allowed;
    faulty = w.faulty;
  })

  -- where reading the items allocates, reading the list does
  pub list_wants : ((s : List ℕ) (v : T) (r : List ℕ) (f : Fault) → Accepts enc Writable Allowed s v r → item_fault s f → ⊥) → ¬ IsItemsMemoryFree enc Writable Allowed ItemMemoryFree count (rest_of now) → ¬ IsListMemoryFree item_fault ItemMemoryFree range (rest_of start)
  list_wants accepted_no_fault wants = list_needs_memory item_fault ItemMemoryFree range (rest_of start) count (rest_of now) short (positive count (λ z. wants (inl z))) in_range taken.rest
      (λ free f fault. wants (inr (free, (λ a. accepted_no_fault (rest_of now) a.0 a.1 f a.2 fault))))
    where
      positive : (n : ℕ) → ¬ (n ≡ 0) → 0 < n
      positive zero h = absurd (h refl)
      positive (suc n) h = omega arith
