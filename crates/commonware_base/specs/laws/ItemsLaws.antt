-- What is proved of items of one size that are read many at once.
use Rattle.std.specs.Prelude.{◌≡◌, ℕ, zero, suc, ◌+◌, ◌*◌, ◌<◌, ◌≤◌, List, [], ◌∷◌, ◌++◌, length, refl}
use Rattle.std.specs.List.{AllByRecursion, flat_map}
use Rattle.std.proofs.Common.{ap, sym, ◌∙◌, arith, subst, inl, inr, length-append}
use Rattle.std.proofs.Math.Nat.{suc-mul}
use Rattle.std.proofs.lemmas.List.{append_assoc}
use Rattle.commonware_base.specs.Fault.{Fault, EndOfBuffer}
use Rattle.commonware_base.specs.Lists.{ItemsFault, IsItemsMemoryFree}
use Rattle.commonware_base.specs.Text.{AreBytes, AcceptedOrFaulty}
use Rattle.commonware_base.specs.laws.TextLaws.{bytes_right}

-- of items of which each is allowed, all are
pub each_allowed : {T : Type 0} (xs : List T) → AllByRecursion (λ (_ : T). Unit {0}) xs
each_allowed [] = tt
each_allowed (x ∷ xs) = (tt, each_allowed xs)

-- items of one size have as many bytes as that size times their number
pub items_bytes : {T : Type 0} (enc : T → List ℕ) (Writable : T → Type 0) (size : ℕ)
    (sized : (v : T) → Writable v → length (enc v) ≡ size) (xs : List T) → AllByRecursion Writable xs
    → length (flat_map enc xs) ≡ length xs * size
items_bytes enc Writable size sized [] h = omega arith
items_bytes enc Writable size sized (x ∷ xs) h =
    let more = items_bytes enc Writable size sized xs h.1 in
    omega (arith, length-append (enc x) (flat_map enc xs), sized x h.0, more, suc-mul (length xs) size)

-- Each item has `size` bytes, and its one fault is that fewer are left.
module _ {T : Type 0} (enc : T → List ℕ) (Writable : T → Type 0) (item_fault : List ℕ → Fault → Type 0) (size : ℕ)
    (sized : (v : T) → Writable v → length (enc v) ≡ size)
    (short : (s : List ℕ) (f : Fault) → item_fault s f → (length s < size) × (f ≡ EndOfBuffer))
    (accepted_or_faulty : (s : List ℕ) → AreBytes s
    → AcceptedOrFaulty enc Writable (λ _. Unit {0}) (item_fault s) s) where
  -- the bytes of an item are gone with it
  taken : (v : T) (s t : List ℕ) → Writable v → s ≡ enc v ++ t → length s ≡ size + length t
  taken v s t w e = ap length e ∙ length-append (enc v) t ∙ ap (λ n. n + length t) (sized v w)

  -- where fewer bytes are left, the input ends before an item is complete
  pub items_lack : (count : ℕ) (text : List ℕ) → AreBytes text → length text < count * size
      → ItemsFault enc Writable (λ _. Unit {0}) item_fault count text EndOfBuffer
  items_lack zero text h l = absurd (omega (arith, l))
  items_lack (suc count) text h l = elim (accepted_or_faulty text h) [
    | inr w ↦ record {
      items = [];
      rest = text;
      begins = refl;
      fewer = omega arith;
      writable = tt;
      allowed = tt;
      faulty = subst (item_fault text) (short text w.0 w.1).1 w.1;
    }
    | inl w ↦ let n : length text ≡ size + length w.1 = taken w.0 text w.1 w.2.writable w.2.begins in
        let m : suc count * size ≡ count * size + size = suc-mul count size in
        let fewer : length w.1 < count * size = omega (arith, n, m, l) in
        let v = items_lack count w.1 (bytes_right (enc w.0) w.1 (subst AreBytes w.2.begins h)) fewer in
        record {
          items = w.0 ∷ v.items;
          rest = v.rest;
          begins = w.2.begins ∙ ap (λ u. enc w.0 ++ u) v.begins
              ∙ sym (append_assoc (enc w.0) (flat_map enc v.items) v.rest);
          fewer = omega (arith, v.fewer);
          writable = (w.2.writable, v.writable);
          allowed = (tt, v.allowed);
          faulty = v.faulty;
        }
  ]

  -- where as many are left, and that is not 0, reading them allocates
  pub items_want : (count : ℕ) (text : List ℕ) → AreBytes text → ¬ (count ≡ 0) → count * size ≤ length text
      → ¬ IsItemsMemoryFree enc Writable (λ _. Unit {0}) (λ _. Unit {0}) count text
  items_want count text h p n (inl z) = p z
  items_want zero text h p n (inr w) = p refl
  items_want (suc count) text h p n (inr w) = elim (accepted_or_faulty text h) [
    | inr f ↦ let m : suc count * size ≡ count * size + size = suc-mul count size in
        let less : length text < size = (short text f.0 f.1).0 in omega (arith, m, n, less)
    | inl a ↦ w.1 a
  ]
