use Rattle.std.proofs.Common.{rules, ◌∙◌, ◌<◌, ◌^◌, length, take, get_or, arith, ap, length-append}
use Rattle.std.specs.List.{flat_map}
use Rattle.commonware_base.specs.Varint.{varint}
use Rattle.commonware_base.specs.laws.VarintLaws.{varint-length}
use Rattle.commonware_c.proofs.EncodingLemmas.{indices_more}
use Rattle.commonware_c.proofs.encoded.signers_size.Goals as goal

pub encode_size-size-requires-clause-fits : goal.encode_size-size-requires-clause-fits
encode_size-size-requires-clause-fits c =
    let word : get_or c.args.signers.now c.loop-i.i 0 < 2 ^ 32 = search rules in
    omega (arith, varint-length (get_or c.args.signers.now c.loop-i.i 0) word)

pub overflow_add-size : goal.overflow_add-size
overflow_add-size c =
    let word : get_or c.args.signers.now c.loop-i.i 0 < 2 ^ 32 = search rules in
    omega (arith, varint-length (get_or c.args.signers.now c.loop-i.i 0) word, c.encode_size-size.ensures, c.loop-i.invariant.2, c.loop-i-test.true, c.requires)

pub loop-i-preserved : goal.loop-i-preserved
loop-i-preserved c =
    let xs = c.args.signers.now in
    let i = c.loop-i.i in
    let word : get_or xs i 0 < 2 ^ 32 = search rules in
    let more = length-append (flat_map varint (take i xs)) (varint (get_or xs i 0)) in (
      omega (arith, c.loop-i-test.true),
      omega (arith, more, c.loop-i.invariant.1, c.encode_size-size.ensures) ∙ ap length (indices_more xs i c.loop-i-test.true),
      omega (arith, varint-length (get_or xs i 0) word, c.encode_size-size.ensures, c.loop-i.invariant.2),
    )
