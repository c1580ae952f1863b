use Rattle.std.proofs.Common.{rules, arith, ◌*◌, ◌+◌, ◌≡◌, ◌∙◌, ◌<◌, ◌^◌, length, length-append, subst, sym}
use Rattle.std.specs.List.{flat_map}
use Rattle.commonware_base.specs.Varint.{varint, varint_size}
use Rattle.commonware_base.specs.laws.VarintLaws.{varint-length, varint_size_is}
use Rattle.commonware_base.specs.Lists.{list_enc}
use Rattle.commonware_ordered.proofs.Sizes.{varint_grow, items_length, mul_grow}
use Rattle.commonware_ordered.proofs.set.Set.max_encode_size.Given.{Over}
use Rattle.commonware_ordered.proofs.set.Set.max_encode_size.Goals as goal

pub encode_size-requires-clause-fits : goal.encode_size-requires-clause-fits
encode_size-requires-clause-fits g c = let l = varint-length c.args.len c.requires.short in omega (arith, l)

-- what is added is the size of the varint and that of the items
sum : (g : Over) (c : goal.After-MAX_ENCODE_SIZE g) → c.encode_size.result + c.args.len * c.MAX_ENCODE_SIZE.result ≡ varint_size c.args.len + c.args.len * g.T.MaxEncodeSize.MAX_ENCODE_SIZE
sum g c = λ i. (c.encode_size.ensures ∙ varint_size_is c.args.len) i + c.args.len * c.MAX_ENCODE_SIZE.ensures i

pub overflow_add-result : goal.overflow_add-result
overflow_add-result g c = let within : c.encode_size.result + c.args.len * c.MAX_ENCODE_SIZE.result < 2 ^ 64 = subst (λ n. n < 2 ^ 64) (sym (sum g c)) c.requires.fits in search rules

pub returns-clause-size : goal.returns-clause-size
returns-clause-size = sum

pub returns-clause-enough : goal.returns-clause-enough
returns-clause-enough g c = λ items w n.
    let a = varint_grow (length items) c.args.len n in
    let b = items_length g.T.EncodeSize.enc g.T.EncodeSize.writable g.T.MaxEncodeSize.MAX_ENCODE_SIZE g.met.T.MaxEncodeSize.bounded items w.list.each in
    let d = mul_grow (length items) c.args.len g.T.MaxEncodeSize.MAX_ENCODE_SIZE n in
    let e : length (list_enc g.T.EncodeSize.enc items) ≡ length (varint (length items)) + length (flat_map g.T.EncodeSize.enc items) = length-append (varint (length items)) (flat_map g.T.EncodeSize.enc items) in
    rw c.encode_size.ensures (rw c.MAX_ENCODE_SIZE.ensures (omega (arith, a, b, d, e)))
