-- The prefix of an input determines its first fault as a set.
use Rattle.std.proofs.Common.{ℕ, ◌+◌, ◌*◌, ◌≤◌, List, ◌++◌, length, arith, length-append}
use Rattle.std.proofs.lemmas.Nat.{mul-le}
use Rattle.std.specs.List.{flat_map}
use Rattle.std.specs.Prelude.{◌↔◌}
use Rattle.std.specs.declared.cmp.Ordering.{Ordering}
use Rattle.commonware_base.specs.Fault.{Fault}
use Rattle.commonware_base.specs.laws.PrefixLaws.{cut, grow, items_short, list_fault_determined}
use Rattle.commonware_base.specs.Prefixes.{IsDeterminedBy}
use Rattle.commonware_base.specs.Lists.{ListFault, list_enc}
use Rattle.commonware_base.specs.Range.{Bounds, Within}
use Rattle.commonware_base.specs.Varint.{varint}
use Rattle.commonware_base.specs.laws.VarintLaws.{varint-length}
use Rattle.commonware_ordered.specs.Sets.{BeginsUnsorted, SetFault, bad_list, bad_order}

module _ {T : Type 0} (enc : T → List ℕ) (Writable Allowed : T → Type 0) (cmp : T → T → Ordering)
    (item_fault : List ℕ → Fault → Type 0) (ItemMemoryFree : List ℕ → Type 0) (range : Bounds ℕ) (size most : ℕ)
    (item_short : (v : T) → Writable v → length (enc v) ≤ size)
    (few : (n : ℕ) → Within range n → n ≤ most)
    (item_determined : (f : Fault) → IsDeterminedBy size (λ s. item_fault s f)) where
  module _ (s more : List ℕ) (h : 5 + most * size ≤ length s) where
    -- a list that isn't strictly increasing
    order_on : BeginsUnsorted enc Writable cmp Allowed range s
        → BeginsUnsorted enc Writable cmp Allowed range (s ++ more)
    order_on w = record {
      items = w.items;
      rest = w.rest ++ more;
      begins = grow (list_enc enc w.items) s more w.rest w.begins;
      writable = w.writable;
      allowed = w.allowed;
      unsorted = w.unsorted;
    }

    order_back : BeginsUnsorted enc Writable cmp Allowed range (s ++ more)
        → BeginsUnsorted enc Writable cmp Allowed range s
    order_back w =
        let n = length w.items in
        let items =
        items_short enc Writable Allowed item_fault ItemMemoryFree range size most item_short few w.items
        w.writable.each in
        let upto : n * size ≤ most * size = mul-le n size most size (few n w.allowed.in_range) (omega arith) in
        let number = varint-length n w.writable.short in
        let fits : length (list_enc enc w.items) ≤ length s =
        omega (arith, length-append (varint n) (flat_map enc w.items)) in
        let c = cut (list_enc enc w.items) s more w.rest w.begins fits in
        record {
          items = w.items;
          rest = c.0;
          begins = c.1;
          writable = w.writable;
          allowed = w.allowed;
          unsorted = w.unsorted;
        }

    module _ (same_list : (f : Fault) → ListFault enc Writable Allowed item_fault range s f
        ↔ ListFault enc Writable Allowed item_fault range (s ++ more) f) where
      set_on : (f : Fault) → SetFault enc Writable cmp Allowed item_fault range s f
          → SetFault enc Writable cmp Allowed item_fault range (s ++ more) f
      set_on f (bad_list w) = bad_list ((same_list f).0 w)
      set_on f (bad_order same w) = bad_order same (order_on w)

      set_back : (f : Fault) → SetFault enc Writable cmp Allowed item_fault range (s ++ more) f
          → SetFault enc Writable cmp Allowed item_fault range s f
      set_back f (bad_list w) = bad_list ((same_list f).1 w)
      set_back f (bad_order same w) = bad_order same (order_back w)

  -- the fault of a set
  pub set_fault_determined :
      (f : Fault) → IsDeterminedBy (5 + most * size) (λ s. SetFault enc Writable cmp Allowed item_fault range s f)
  set_fault_determined f s more h =
      (set_on s more h same_list f, set_back s more h same_list f)
    where
      same_list :
          (g : Fault) → ListFault enc Writable Allowed item_fault range s g
          ↔ ListFault enc Writable Allowed item_fault range (s ++ more) g
      same_list g =
          list_fault_determined enc Writable Allowed item_fault ItemMemoryFree range size most item_short few
          item_determined
          g s more h
