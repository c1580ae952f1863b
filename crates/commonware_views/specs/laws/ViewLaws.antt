-- Laws of the encodings of lists, sets and maps of byte sequences, each of one size.
use Rattle.std.specs.Prelude.{ℕ, nat_eq}
use Rattle.std.specs.Cmp.Lexicographic.{pointwise, texts_ties}
use Rattle.std.proofs.lemmas.Cmp.{nat_list_cmp_total}
use Rattle.commonware_base.specs.Lists.{list_enc, IsAllowedList, IsWritableList}
use Rattle.commonware_base.specs.Range.{Bounds}
use Rattle.commonware_base.specs.Text.{ReadLaws}
use Rattle.commonware_base.specs.laws.ListLaws.{list_laws}
use Rattle.commonware_map.specs.Maps.{map_enc, IsWritableMap, IsAllowedMap}
use Rattle.commonware_map.specs.laws.MapLaws.{map_laws}
use Rattle.commonware_ordered.specs.Sets.{IsWritableSet}
use Rattle.commonware_ordered.specs.laws.SetLaws.{set_laws}
use Rattle.commonware_sequence.specs.FixedBytes.{IsOfSize, own_bytes, bytes_cmp, size_fault}
use Rattle.commonware_sequence.specs.laws.FixedBytesLaws.{fixed_canonical, fixed_laws, fixed_prefix_free}
use Rattle.commonware_views.specs.Lists.{Any, list_fault}
use Rattle.commonware_views.specs.Maps.{sized_map_fault}
use Rattle.commonware_views.specs.Sets.{key_set_fault}

-- the laws of lists of items of one size
pub sized_list_laws : (size : ℕ) (range : Bounds ℕ)
    → ReadLaws (list_enc own_bytes) (IsWritableList (IsOfSize size)) (IsAllowedList range Any) (list_fault size range)
sized_list_laws size range =
    list_laws own_bytes (IsOfSize size) (fixed_prefix_free size) Any (size_fault size) range (fixed_laws size)

-- the laws of sets of keys of one size
pub key_set_laws : (size : ℕ) (range : Bounds ℕ)
    → ReadLaws (list_enc own_bytes) (IsWritableSet (IsOfSize size) bytes_cmp) (IsAllowedList range Any)
    (key_set_fault size range)
key_set_laws size range =
    set_laws own_bytes (IsOfSize size) bytes_cmp (fixed_prefix_free size) (pointwise nat_eq) nat_list_cmp_total
    texts_ties (fixed_canonical size) Any (size_fault size) range (fixed_laws size)

-- the laws of maps of keys and values, each of one size
pub sized_map_laws : (key_size value_size : ℕ) (range : Bounds ℕ)
    → ReadLaws (map_enc own_bytes own_bytes)
    (IsWritableMap (IsOfSize key_size) bytes_cmp (IsOfSize value_size)) (IsAllowedMap range Any Any)
    (sized_map_fault key_size value_size range)
sized_map_laws ks vs range =
    map_laws own_bytes (IsOfSize ks) bytes_cmp (fixed_prefix_free ks) own_bytes (IsOfSize vs) (fixed_prefix_free vs)
    (pointwise nat_eq) nat_list_cmp_total texts_ties (fixed_canonical ks) range Any (size_fault ks) Any
    (size_fault vs) (fixed_laws ks) (fixed_laws vs)
