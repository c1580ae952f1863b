use Rattle.std.proofs.Common.{◌∙◌, arith, length, sym}
use Rattle.commonware_base.specs.laws.VarintLaws.{varint-length}
use Rattle.commonware_c.proofs.EncodingLemmas.{encoded_length}
use Rattle.commonware_c.proofs.encoded.certificate_size.Goals as goal

pub encode_size-requires-clause-fits : goal.encode_size-requires-clause-fits
encode_size-requires-clause-fits c = omega (arith, varint-length (length c.args.value.now) c.requires.value_short)

pub overflow_add-value_size : goal.overflow_add-value_size
overflow_add-value_size c =
    omega (arith, varint-length (length c.args.value.now) c.requires.value_short, c.encode_size.ensures, c.requires.value_short)

pub encode_size-count_size-requires-clause-fits : goal.encode_size-count_size-requires-clause-fits
encode_size-count_size-requires-clause-fits c = omega (arith, varint-length (length c.args.signers.now) c.requires.signers_short)

pub overflow_add-result : goal.overflow_add-result
overflow_add-result c =
    omega (
      arith,
      varint-length (length c.args.value.now) c.requires.value_short,
      varint-length (length c.args.signers.now) c.requires.signers_short,
      c.encode_size.ensures,
      c.encode_size-count_size.ensures,
      c.requires.value_short,
    )

pub overflow_add-result-2 : goal.overflow_add-result-2
overflow_add-result-2 c =
    omega (
      arith,
      varint-length (length c.args.value.now) c.requires.value_short,
      varint-length (length c.args.signers.now) c.requires.signers_short,
      c.encode_size.ensures,
      c.encode_size-count_size.ensures,
      c.requires.value_short,
      c.requires.signers_short,
      c.signers_size.ensures.at_most,
    )

pub returns-clause-at_most : goal.returns-clause-at_most
returns-clause-at_most c =
    omega (
      arith,
      varint-length (length c.args.value.now) c.requires.value_short,
      varint-length (length c.args.signers.now) c.requires.signers_short,
      c.encode_size.ensures,
      c.encode_size-count_size.ensures,
      c.signers_size.ensures.at_most,
    )

pub returns-clause-size : goal.returns-clause-size
returns-clause-size c =
    omega (arith, c.encode_size.ensures, c.encode_size-count_size.ensures, c.signers_size.ensures.size) ∙ sym (encoded_length c.args.value.now c.args.signers.now)
