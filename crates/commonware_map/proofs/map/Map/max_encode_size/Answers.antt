use Rattle.std.proofs.Common.{rules, arith, ◌≤◌, ◌*◌, ◌+◌, ◌≡◌, ◌∙◌, ◌<◌, ◌^◌, length, length-append, subst, sym}
use Rattle.std.specs.List.{flat_map}
use Rattle.std.specs.Map.{keys_of, values_of}
use Rattle.std.proofs.lemmas.Map.Entries.{length-keys_of, length-values_of}
use Rattle.commonware_base.specs.Varint.{varint, varint_size}
use Rattle.commonware_base.specs.laws.VarintLaws.{varint-length, varint_size_is}
use Rattle.commonware_base.specs.Lists.{list_enc}
use Rattle.commonware_ordered.proofs.Sizes.{varint_grow, items_length, mul_grow}
use Rattle.commonware_map.proofs.map.Map.max_encode_size.Given.{Over}
use Rattle.commonware_map.proofs.map.Map.max_encode_size.Goals as goal

pub encode_size-requires-clause-fits : goal.encode_size-requires-clause-fits
encode_size-requires-clause-fits g c = let l = varint-length c.args.len c.requires.short in omega (arith, l)

-- the varint has the size of the length
size : (g : Over) (c : goal.After-encode_size g) → c.encode_size.result ≡ varint_size c.args.len
size g c = c.encode_size.ensures ∙ varint_size_is c.args.len

-- what is added is the bound of the keys, the size of the varint and that of the values
sum : (g : Over) (c : goal.After-encode_size g) → c.max_encode_size.result + (c.encode_size.result + c.args.len * c.args.value) ≡ varint_size c.args.len + c.args.len * g.K.MaxEncodeSize.MAX_ENCODE_SIZE + (varint_size c.args.len + c.args.len * c.args.value)
sum g c = λ i. c.max_encode_size.ensures.size i + (size g c i + c.args.len * c.args.value)

pub overflow_add-result-2 : goal.overflow_add-result-2
overflow_add-result-2 g c = let within : c.max_encode_size.result + (c.encode_size.result + c.args.len * c.args.value) < 2 ^ 64 = subst (λ n. n < 2 ^ 64) (sym (sum g c)) c.requires.fits in search rules

pub overflow_add-result : goal.overflow_add-result
overflow_add-result g c = let within : c.encode_size.result + c.args.len * c.args.value < 2 ^ 64 = omega (arith, size g c, c.requires.fits) in search rules

pub returns-clause-size : goal.returns-clause-size
returns-clause-size = sum

pub returns-clause-enough : goal.returns-clause-enough
returns-clause-enough g c = λ enc m keys values short.
    let ks = length-keys_of m in
    let vs = length-values_of m in
    let first = c.max_encode_size.ensures.enough (keys_of m) keys (omega (arith, ks, short)) in
    let within : length (values_of m) ≤ c.args.len = omega (arith, vs, short) in
    let count = varint_grow (length (values_of m)) c.args.len within in
    let items = items_length enc (λ v. length (enc v) ≤ c.args.value) c.args.value (λ v h. h) (values_of m) values in
    let most = mul_grow (length (values_of m)) c.args.len c.args.value within in
    let second : length (list_enc enc (values_of m)) ≡ length (varint (length (values_of m))) + length (flat_map enc (values_of m)) = length-append (varint (length (values_of m))) (flat_map enc (values_of m)) in
    let both = length-append (list_enc g.K.EncodeSize.enc (keys_of m)) (list_enc enc (values_of m)) in
    rw c.encode_size.ensures (omega (arith, first, count, items, most, second, both))
