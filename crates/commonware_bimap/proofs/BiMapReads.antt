-- What the reader of a bimap read.
use Rattle.std.proofs.Common.{◌≡◌, ℕ, List, [], ◌∷◌, ◌++◌, length, refl, ◌∙◌, arith, append_assoc}
use Rattle.std.specs.List.{flat_map}
use Rattle.std.specs.Map.{keys_of, values_of}
use Rattle.std.specs.declared.cmp.Ordering.{Ordering}
use Rattle.commonware_base.specs.Fault.{Fault}
use Rattle.commonware_base.specs.Lists.{list_enc, IsListMemoryFree}
use Rattle.commonware_base.specs.laws.ListLaws.{list_needs_memory}
use Rattle.commonware_base.specs.Range.{Bounds}
use Rattle.commonware_base.specs.Text.{Accepts, ReadLaws}
use Rattle.commonware_base.specs.Varint.{varint}
use Rattle.commonware_map.specs.Maps.{map_enc, IsWritableMap, IsAllowedMap}

-- reading a map with pairs allocates
pub pairs_want_memory : {K V : Type 0} (ek : K → List ℕ) (WK AK : K → Type 0) (cmp : K → K → Ordering) (fk : List ℕ → Fault → Type 0) (mk : List ℕ → Type 0) (key_laws : ReadLaws ek WK AK fk)
    (ev : V → List ℕ) (WV AV : V → Type 0) (range : Bounds ℕ) (s r : List ℕ) (m : List (K × V)) → Accepts (map_enc ek ev) (IsWritableMap WK cmp WV) (IsAllowedMap range AK AV) s m r → ¬ (m ≡ []) → ¬ IsListMemoryFree fk mk range s
pairs_want_memory ek WK AK cmp fk mk key_laws ev WV AV range s r [] a some = absurd (some refl)
pairs_want_memory ek WK AK cmp fk mk key_laws ev WV AV range s r (e ∷ es) a some =
    let ks = keys_of es in
    let t = list_enc ev (values_of (e ∷ es)) ++ r in
    let n = length (e.0 ∷ ks) in
    let w = a.writable.0.list in
    list_needs_memory fk mk range s n (flat_map ek (e.0 ∷ ks) ++ t) w.short (omega arith) a.allowed.0.in_range
    (a.begins ∙ append_assoc (list_enc ek (e.0 ∷ ks)) (list_enc ev (values_of (e ∷ es))) r ∙ append_assoc (varint n) (flat_map ek (e.0 ∷ ks)) t)
    (λ free f faulty. key_laws.accepted_no_fault (flat_map ek (e.0 ∷ ks) ++ t) e.0 (flat_map ek ks ++ t) f
    (record { writable = w.each.0; allowed = a.allowed.0.each.0; begins = append_assoc (ek e.0) (flat_map ek ks) t }) faulty)
