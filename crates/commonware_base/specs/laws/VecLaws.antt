-- A `Vec` of a list. A law that says that each input is accepted or faulty has to name a value, and no call makes one
-- there.
use Rattle.std.specs.Prelude.{◌≡◌, ◌<◌, ◌^◌, List, length, refl, Vec}
use Rattle.std.specs.Ptr.{null_ptr}
use Rattle.std.proofs.Common.{arith}

-- a `Vec` of these items
pub vec_of : {T A : Type 0} → A → (items : List T) → length items < 2 ^ 32 → (v : Vec T A) × (items ≡ v.items)
vec_of alloc items h = (
  record {
    ptr = null_ptr;
    len = length items;
    cap = length items;
    alloc = alloc;
    items = items;
    ok = (refl, omega arith);
    small = omega arith;
  },
  refl,
)
