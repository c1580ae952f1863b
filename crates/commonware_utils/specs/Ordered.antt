-- The definitions of `ordered`: strictly increasing lists, places, voters as subsets, what the builders return, faults
-- and their error cases, mutable borrows and value maps.
pub use Rattle.commonware_bimap.specs.BiMaps.{BeginsRepeated, IsWritableBiMap, repeated_fault}
pub use Rattle.commonware_bimap.specs.BiMaps.{BiMapFault, bad_map, bad_values}
pub use Rattle.commonware_bimap.specs.BiMaps.{BiMapCase, at_map, at_values, bimap_case}
pub use Rattle.commonware_bimap.specs.Swapped.{swapped}
pub use Rattle.commonware_bimap.specs.WholeBiMaps.{HasEqualKeys, HasEqualValues, IsBiMapOfAll}
pub use Rattle.commonware_bimap.specs.WholeBiMaps.{IsBiMapOfClones, IsRefusedBiMap, IsWholeBiMap}
pub use Rattle.commonware_bimap.specs.WholeBiMaps.{IsWholeBiMapOfClones}
pub use Rattle.commonware_ordered.specs.Costs.{ComparesList, IsLookUpCost, IsOrderCost, IsReadCost}
pub use Rattle.commonware_ordered.specs.Costs.{StatesLength, StopsAtFault}
pub use Rattle.commonware_ordered.specs.Dedup.{EqualsSameItems, HaveSameItems, IsDedup, IsKept}
pub use Rattle.commonware_map.specs.Borrows.{BorrowsValueAt, BorrowsValueOf, BorrowsValues, BorrowsValuesTo}
pub use Rattle.commonware_map.specs.Borrows.{map_row, set_value_at, set_values}
pub use Rattle.commonware_map.specs.Maps.{AreAllowedValues, IsAllowedMap, IsWritableMap, MapFault}
pub use Rattle.commonware_map.specs.Maps.{columns, map_enc, map_size_bound}
pub use Rattle.commonware_map.specs.Pairs.{GivesPairsOf, ShowsPairsOf, are_equal_pairs, is_equal_pair}
pub use Rattle.commonware_map.specs.Pairs.{on_both, on_keys, pair_text}
pub use Rattle.commonware_map.specs.laws.PairLaws.{both_equal}
pub use Rattle.commonware_map.specs.laws.PairLaws.{pairs_respect_eq}
pub use Rattle.commonware_map.specs.PairsMut.{CanStep, BorrowsInOrder, BorrowsInReverse}
pub use Rattle.commonware_map.specs.PairsMut.{pairs_mut_left, pairs_mut_name, pairs_mut_steps}
pub use Rattle.commonware_map.specs.PairsMut.{pairs_mut_steps_back}
pub use Rattle.commonware_ordered.specs.laws.SetPrefixLaws.{set_fault_determined}
pub use Rattle.commonware_ordered.specs.Sets.{BeginsUnsorted, IsWritableSet, unsorted_fault}
pub use Rattle.commonware_ordered.specs.Sets.{SetFault, bad_list, bad_order}
pub use Rattle.commonware_ordered.specs.Sets.{SetCase, at_list, at_order, set_case}
pub use Rattle.commonware_ordered.specs.Strict.{HasEqualAt, IsLessThanNext, IsPlaceOf, IsStrict}
pub use Rattle.commonware_ordered.specs.Voters.{is_among, members_among}
pub use Rattle.commonware_ordered.specs.laws.PlaceLaws.{among_iff, found-place, place_iff}
pub use Rattle.commonware_ordered.specs.laws.PositionLaws.{size-members_among, size-members_among-all}
pub use Rattle.commonware_ordered.specs.laws.PositionLaws.{size-members_among-le}
pub use Rattle.commonware_map.specs.ValueMaps.{CalledAtPair, CalledAtRefs, IfClosure, IsFirstError}
pub use Rattle.commonware_map.specs.ValueMaps.{Succeeds, TakesPair, TakesRefs}
pub use Rattle.commonware_ordered.specs.Whole.{HasEqualItems, IsRefusedFor, IsSetOfAll}
pub use Rattle.commonware_ordered.specs.Whole.{IsSetOfClones, IsWholeSet, IsWholeSetOfClones}
pub use Rattle.commonware_ordered.specs.Whole.{MatchError}
pub use Rattle.commonware_map.specs.declared.iterators.pairs_mut.PairsMut.{PairsMut}
