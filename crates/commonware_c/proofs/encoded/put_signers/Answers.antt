use Rattle.std.proofs.Common.{◌∙◌, ◌+◌, ◌≤◌, length, take, get_or, arith, ap, length-append}
use Rattle.std.specs.List.{flat_map}
use Rattle.std.proofs.lemmas.List.Folds.{length-flat_map-take}
use Rattle.commonware_base.specs.Varint.{varint}
use Rattle.commonware_c.specs.Splices.{spliced}
use Rattle.commonware_c.proofs.EncodingLemmas.{indices_more}
use Rattle.commonware_c.proofs.Spliced.{length_on, spliced_on}
use Rattle.commonware_c.proofs.encoded.put_signers.Goals as goal

pub put_varint-next-requires : goal.put_varint-next-requires
put_varint-next-requires c =
    let xs = c.args.signers.now in
    let i = c.loop-i.i in
    let first = flat_map varint (take i xs) in
    let whole = length-flat_map-take varint xs i 0 c.loop-i-test.true in
    let fits : c.args.at + length first ≤ length c.args.out.now = omega (arith, whole, c.requires) in
    omega (arith, whole, c.requires, c.loop-i.invariant.1, length_on c.args.at first c.loop-i.out c.args.out.now fits c.loop-i.invariant.2)

pub loop-i-preserved : goal.loop-i-preserved
loop-i-preserved c =
    let xs = c.args.signers.now in
    let i = c.loop-i.i in
    let first = flat_map varint (take i xs) in
    let index = varint (get_or xs i 0) in
    let whole = length-flat_map-take varint xs i 0 c.loop-i-test.true in
    let fits : c.args.at + length first ≤ length c.args.out.now = omega (arith, whole, c.requires) in
    let more = indices_more xs i c.loop-i-test.true in
    let long = length-append first index in (
      omega (arith, c.loop-i-test.true),
      omega (arith, c.put_varint-next.ensures.place, c.loop-i.invariant.1, long) ∙ ap (λ t. c.args.at + length t) more,
      c.put_varint-next.ensures.bytes ∙ spliced_on c.args.at c.loop-i.next first index c.loop-i.out c.args.out.now fits c.loop-i.invariant.1 c.loop-i.invariant.2
          ∙ ap (λ t. spliced c.args.at t c.args.out.now) more,
    )
