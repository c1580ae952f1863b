-- A reading whose values are seen as those of another reading: what is right of the one is right of the other.
use Rattle.std.proofs.Common.{◌≡◌, ℕ, ◌<◌, ◌^◌, List, [], ◌∷◌, ◌++◌, length, map, refl, sym, ap, arith, subst, ◌∙◌}
use Rattle.std.specs.List.{AllByRecursion, flat_map}
use Rattle.std.specs.Prelude.{Vec, vec_len}
use Rattle.std.proofs.lemmas.List.{length-map}
use Rattle.std.specs.Prelude.{Result, Ok, Err}
use Rattle.commonware_utils.specs.Codec.{BeginsWithFaultyItem, Bounds, Fault, IsAllowedList, IsListMemoryFree, IsWritableList, ListFault, Within, list_enc, varint, vec_of}
use Rattle.commonware_utils.specs.Codec.{bad_item, bad_length, bad_varint, empty, first, outside, faulty_varint, refuses_from}
use Rattle.judge_verdicts.specs.Readings.{IsJudged, Reading, list_of}
use Rattle.judge_verdicts.specs.declared.verdict.Verdict.{Verdict}
use Rattle.judge_verdicts.specs.declared.verdict.Verdict.TheVariants.{Accepted, Refused}

-- each value of r is seen as one of s with the same bytes, and each writable value of s is seen so
pub record Sees (r s : Reading) : Type 0 where
  pub view : r.Value → s.Value
  pub made : (x : s.Value) → s.Writable x → (v : r.Value) × (view v ≡ x)
  pub same_bytes : (v : r.Value) → r.enc v ≡ s.enc (view v)
  pub same_items : (v : r.Value) → r.items v ≡ s.items (view v)
  pub writable : (v : r.Value) → r.Writable v → s.Writable (view v)
  pub writable_back : (v : r.Value) → s.Writable (view v) → r.Writable v
  pub allowed : (v : r.Value) → r.Allowed v → s.Allowed (view v)
  pub allowed_back : (v : r.Value) → s.Allowed (view v) → r.Allowed v
  pub fault : (text : List ℕ) (f : Fault) → r.HasFault text f → s.HasFault text f
  pub fault_back : (text : List ℕ) (f : Fault) → s.HasFault text f → r.HasFault text f
  pub free_back : (text : List ℕ) → s.MemoryFree text → r.MemoryFree text

-- a reading by a view of its values: each is read as what it is seen as
abbrev pub on : {V : Type 0} → (s : Reading) → (V → s.Value) → Reading
on {V} s view = record {
  Value = V;
  enc = λ v. s.enc (view v);
  Writable = λ v. s.Writable (view v);
  Allowed = λ v. s.Allowed (view v);
  HasFault = s.HasFault;
  MemoryFree = s.MemoryFree;
  items = λ v. s.items (view v);
}

-- which is seen so, where each writable value is what some value is seen as
pub sees_on : {V : Type 0} (s : Reading) (view : V → s.Value) → ((x : s.Value) → s.Writable x → (v : V) × (view v ≡ x)) → Sees (on s view) s
sees_on s view made = record {
  view = view;
  made = made;
  same_bytes = λ v. refl;
  same_items = λ v. refl;
  writable = λ v h. h;
  writable_back = λ v h. h;
  allowed = λ v h. h;
  allowed_back = λ v h. h;
  fault = λ text f h. h;
  fault_back = λ text f h. h;
  free_back = λ text h. h;
}

-- each reading is seen as itself
pub sees_itself : (r : Reading) → Sees r r
sees_itself r = sees_on r (λ v. v) (λ x w. (x, refl))

-- what is right of r is right of s
pub judged_seen : {E : Type 0} (r s : Reading) → Sees r s → (text : List ℕ) (result : Result Verdict E) → IsJudged r text result → IsJudged s text result
judged_seen r s h text (Ok (Accepted items left)) j =
    let (value, rest, accepts, count, after) = j in (
      h.view value,
      rest,
      record { writable = h.writable value accepts.writable; allowed = h.allowed value accepts.allowed; begins = accepts.begins ∙ ap (λ t. t ++ rest) (h.same_bytes value) },
      count ∙ h.same_items value,
      after,
    )
judged_seen r s h text (Ok (Refused error)) j = refuses_from (r.HasFault text) (s.HasFault text) (Unit {0}) (Unit {0}) (h.fault text) (λ n. n) error j
judged_seen r s h text (Err e) j = λ free. j (h.free_back text free)

-- the lists of r's values, each in a vector
abbrev pub vec_of_items : (A : Type 0) → Bounds ℕ → Reading → Reading
vec_of_items A range item = record {
  Value = Vec item.Value A;
  enc = λ v. list_enc item.enc v.items;
  Writable = λ v. IsWritableList item.Writable v.items;
  Allowed = λ v. IsAllowedList range item.Allowed v.items;
  HasFault = ListFault item.enc item.Writable item.Allowed item.HasFault range;
  MemoryFree = IsListMemoryFree item.HasFault item.MemoryFree range;
  items = vec_len;
}

module _ (r s : Reading) (h : Sees r s) where
  -- the items of both have the same bytes
  same_flat : (items : List r.Value) → flat_map r.enc items ≡ flat_map s.enc (map h.view items)
  same_flat [] = refl
  same_flat (v ∷ items) = ap (λ t. t ++ flat_map r.enc items) (h.same_bytes v) ∙ ap (λ t. s.enc (h.view v) ++ t) (same_flat items)

  -- what holds of each item holds of what each is seen as
  each : (P : r.Value → Type 0) (Q : s.Value → Type 0) → ((v : r.Value) → P v → Q (h.view v)) → (items : List r.Value) → AllByRecursion P items → AllByRecursion Q (map h.view items)
  each P Q step [] all = tt
  each P Q step (v ∷ items) all = (step v all.0, each P Q step items all.1)

  -- and the other way
  each_back : (P : r.Value → Type 0) (Q : s.Value → Type 0) → ((v : r.Value) → Q (h.view v) → P v) → (items : List r.Value) → AllByRecursion Q (map h.view items) → AllByRecursion P items
  each_back P Q step [] all = tt
  each_back P Q step (v ∷ items) all = (step v all.0, each_back P Q step items all.1)

  -- writable items of s are what some items of r are seen as
  made_items : (items : List s.Value) → AllByRecursion s.Writable items → (vs : List r.Value) × (map h.view vs ≡ items)
  made_items [] all = ([], refl)
  made_items (x ∷ items) all =
      let (v, is) = h.made x all.0 in
      let (vs, are) = made_items items all.1 in
      (v ∷ vs, λ j. is j ∷ are j)

  -- the bytes of lists
  same_list : (items : List r.Value) → list_enc r.enc items ≡ list_enc s.enc (map h.view items)
  same_list items = ap (λ n. varint n ++ flat_map r.enc items) (sym (length-map items h.view)) ∙ ap (λ t. varint (length (map h.view items)) ++ t) (same_flat items)

  -- an item's fault
  item_fault : (range : Bounds ℕ) (text : List ℕ) (f : Fault) → BeginsWithFaultyItem r.enc r.Writable r.Allowed r.HasFault range text f → BeginsWithFaultyItem s.enc s.Writable s.Allowed s.HasFault range text f
  item_fault range text f w = record {
    count = w.count;
    items = map h.view w.items;
    rest = w.rest;
    short = w.short;
    in_range = w.in_range;
    begins = w.begins ∙ ap (λ t. varint w.count ++ (t ++ w.rest)) (same_flat w.items);
    fewer = subst (λ n. n < w.count) (sym (length-map w.items h.view)) w.fewer;
    writable = each r.Writable s.Writable h.writable w.items w.writable;
    allowed = each r.Allowed s.Allowed h.allowed w.items w.allowed;
    faulty = h.fault w.rest f w.faulty;
  }

  item_fault_back : (range : Bounds ℕ) (text : List ℕ) (f : Fault) → BeginsWithFaultyItem s.enc s.Writable s.Allowed s.HasFault range text f → BeginsWithFaultyItem r.enc r.Writable r.Allowed r.HasFault range text f
  item_fault_back range text f w =
      let (vs, are) = made_items w.items w.writable in
      record {
        count = w.count;
        items = vs;
        rest = w.rest;
        short = w.short;
        in_range = w.in_range;
        begins = w.begins ∙ ap (λ l. varint w.count ++ (flat_map s.enc l ++ w.rest)) (sym are) ∙ ap (λ t. varint w.count ++ (t ++ w.rest)) (sym (same_flat vs));
        fewer = subst (λ n. n < w.count) (ap length (sym are) ∙ length-map vs h.view) w.fewer;
        writable = each_back r.Writable s.Writable h.writable_back vs (subst (AllByRecursion s.Writable) (sym are) w.writable);
        allowed = each_back r.Allowed s.Allowed h.allowed_back vs (subst (AllByRecursion s.Allowed) (sym are) w.allowed);
        faulty = h.fault_back w.rest f w.faulty;
      }

  list_fault : (range : Bounds ℕ) (text : List ℕ) (f : Fault) → ListFault r.enc r.Writable r.Allowed r.HasFault range text f → ListFault s.enc s.Writable s.Allowed s.HasFault range text f
  list_fault range text f (bad_varint w) = bad_varint w
  list_fault range text f (bad_length count is w) = bad_length count is w
  list_fault range text f (bad_item w) = bad_item (item_fault range text f w)

  list_fault_back : (range : Bounds ℕ) (text : List ℕ) (f : Fault) → ListFault s.enc s.Writable s.Allowed s.HasFault range text f → ListFault r.enc r.Writable r.Allowed r.HasFault range text f
  list_fault_back range text f (bad_varint w) = bad_varint w
  list_fault_back range text f (bad_length count is w) = bad_length count is w
  list_fault_back range text f (bad_item w) = bad_item (item_fault_back range text f w)

  list_free_back : (range : Bounds ℕ) (text : List ℕ) → IsListMemoryFree s.HasFault s.MemoryFree range text → IsListMemoryFree r.HasFault r.MemoryFree range text
  list_free_back range text (faulty_varint fault w) = faulty_varint fault w
  list_free_back range text (outside count w) = outside count w
  list_free_back range text (empty rest w) = empty rest w
  list_free_back range text (first count rest fault short begins free faulty) = first count rest fault short begins (h.free_back rest free) (h.fault_back rest fault faulty)

  -- lists in vectors are seen as lists of what their items are seen as
  pub sees_list : {A : Type 0} (alloc : A) (range : Bounds ℕ) → Sees (vec_of_items A range r) (list_of range s)
  sees_list alloc range = record {
    view = λ v. map h.view v.items;
    made = λ items w.
        let (vs, are) = made_items items w.each in
        let (v, is) = vec_of alloc vs (subst (λ n. n < 2 ^ 32) (ap length (sym are) ∙ length-map vs h.view) w.short) in
        (v, ap (map h.view) (sym is) ∙ are);
    same_bytes = λ v. same_list v.items;
    same_items = λ v. omega (arith, v.ok.0, length-map v.items h.view);
    writable = λ v w. record { short = subst (λ n. n < 2 ^ 32) (sym (length-map v.items h.view)) w.short; each = each r.Writable s.Writable h.writable v.items w.each };
    writable_back = λ v w. record { short = subst (λ n. n < 2 ^ 32) (length-map v.items h.view) w.short; each = each_back r.Writable s.Writable h.writable_back v.items w.each };
    allowed = λ v w. record { in_range = subst (Within range) (sym (length-map v.items h.view)) w.in_range; each = each r.Allowed s.Allowed h.allowed v.items w.each };
    allowed_back = λ v w. record { in_range = subst (Within range) (length-map v.items h.view) w.in_range; each = each_back r.Allowed s.Allowed h.allowed_back v.items w.each };
    fault = list_fault range;
    fault_back = list_fault_back range;
    free_back = list_free_back range;
  }
