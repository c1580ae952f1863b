-- The definitions of `codec`: inputs, faults (decoding errors), errors, prefixes, sources, ranges and lists; and the
-- encodings of bytes, words, numbers and sequences with their laws, which an item of a user's own cites.
pub use Rattle.commonware_base.specs.Bytes.{byte, byte_fault}
pub use Rattle.commonware_base.specs.laws.ByteLaws.{byte_canonical, byte_laws}
pub use Rattle.commonware_base.specs.laws.ByteLaws.{byte_length, byte_prefix_free}
pub use Rattle.commonware_base.specs.laws.ConditionLaws.{Condition, broken_no_fault, condition_laws}
pub use Rattle.commonware_base.specs.Fault.{EndOfBuffer, Fault, Invalid, InvalidLength}
pub use Rattle.commonware_base.specs.Fault.{InvalidVarint}
pub use Rattle.commonware_base.specs.laws.PrefixLaws.{list_fault_determined, list_memory_free_determined}
pub use Rattle.commonware_base.specs.laws.PrefixLaws.{determined_prefix, varint_fault_determined}
pub use Rattle.commonware_base.specs.Prefixes.{IsLongPrefix, IsDeterminedBy}
pub use Rattle.commonware_base.specs.laws.ItemsLaws.{each_allowed, items_lack, items_want}
pub use Rattle.commonware_base.specs.laws.ListLaws.{list_bytes, list_canonical, list_laws}
pub use Rattle.commonware_base.specs.laws.ListLaws.{list_prefix_free}
pub use Rattle.commonware_base.specs.Lists.{BeginsOutOfRange, BeginsWithFaultyItem, IsAllowedList}
pub use Rattle.commonware_base.specs.Lists.{IsWritableList, list_enc}
pub use Rattle.commonware_base.specs.Lists.{IsItemsMemoryFree, ItemsFault}
pub use Rattle.commonware_base.specs.Lists.{ListFault, bad_item, bad_length, bad_varint}
pub use Rattle.commonware_base.specs.Lists.{ListCase, at_item, at_length, at_varint, list_case}
pub use Rattle.commonware_base.specs.Lists.{IsListMemoryFree, empty, first, outside, faulty_varint}
pub use Rattle.commonware_base.specs.laws.VecLaws.{vec_of}
pub use Rattle.commonware_base.specs.Numbers.{NumberFault, invalid_varint, out_of_range}
pub use Rattle.commonware_base.specs.laws.NumberLaws.{number_canonical, number_laws, number_prefix_free}
pub use Rattle.commonware_base.specs.laws.NumberLaws.{varint_laws}
pub use Rattle.commonware_base.specs.Range.{Bounds, IsAbove, IsBelow, Within, as_numbers}
pub use Rattle.commonware_base.specs.Range.{bound_as_number, exactly, numbers_of}
pub use Rattle.commonware_base.specs.Refusal.{Refuses}
pub use Rattle.commonware_base.specs.laws.RefusalLaws.{refuses_from}
pub use Rattle.commonware_base.specs.Sequence.{IsAllowedSequence, IsWritableSequence, sequence_enc}
pub use Rattle.commonware_base.specs.Sequence.{SequenceFault, bad_first, bad_second}
pub use Rattle.commonware_base.specs.Sequence.{SequenceCase, at_first, at_second, sequence_case}
pub use Rattle.commonware_base.specs.laws.SequenceLaws.{sequence_bytes, sequence_canonical, sequence_laws}
pub use Rattle.commonware_base.specs.laws.SequenceLaws.{sequence_prefix_free}
pub use Rattle.commonware_base.specs.Source.{Consumes, bytes_of, position_of, rest_of}
pub use Rattle.commonware_base.specs.laws.SourceLaws.{rest_bytes}
pub use Rattle.commonware_base.specs.Text.{AcceptedOrFaulty, Accepts, AreBytes, CanonicalLaws}
pub use Rattle.commonware_base.specs.Text.{IsByte, IsPrefixFree, ReadLaws}
pub use Rattle.commonware_base.specs.laws.TextLaws.{bytes_append, bytes_right, canonical_on, laws_on}
pub use Rattle.commonware_base.specs.laws.TextLaws.{prefix_free_on}
pub use Rattle.commonware_base.specs.Varint.{AreContinued, IsContinued, IsOverlongOrTooGreat, IsTruncated}
pub use Rattle.commonware_base.specs.Varint.{IsVarint, groups, groups_sum, varint, varint_fault}
pub use Rattle.commonware_base.specs.Varint.{varint_size}
pub use Rattle.commonware_base.specs.laws.VarintLaws.{varint-length, varint_bytes}
pub use Rattle.commonware_base.specs.Words.{IsWord, word_bytes, word_fault}
pub use Rattle.commonware_base.specs.laws.WordLaws.{word_canonical}
pub use Rattle.commonware_base.specs.laws.WordLaws.{word_laws, word_length, word_prefix_free, word_text}
pub use Rattle.commonware_base.specs.declared.codec.source.Source.{Source}
