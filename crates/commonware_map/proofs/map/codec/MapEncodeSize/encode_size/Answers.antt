use Rattle.std.proofs.Common.{ap, arith, length, length-append, subst, sym}
use Rattle.std.specs.Map.{keys_of, values_of}
use Rattle.commonware_base.specs.Lists.{list_enc, IsWritableList}
use Rattle.commonware_ordered.specs.Sets.{IsWritableSet}
use Rattle.commonware_map.proofs.Columns.{opened}
use Rattle.commonware_map.proofs.map.codec.MapEncodeSize.encode_size.Goals as goal

pub encode_size-requires-clause-writable : goal.encode_size-requires-clause-writable
encode_size-requires-clause-writable g c = subst (IsWritableSet g.K.EncodeSize.writable g.K.Ord.cmp) (sym (opened _ _ _ c.self.view_is c.self.invariant).keys) c.requires.writable.0

pub encode_size-requires-clause-fits : goal.encode_size-requires-clause-fits
encode_size-requires-clause-fits g c =
    let o = opened _ _ _ c.self.view_is c.self.invariant in
    let both = length-append (list_enc g.K.EncodeSize.enc (keys_of c.args.self.now)) (list_enc g.V.EncodeSize.enc (values_of c.args.self.now)) in
    omega (arith, ap (λ l. length (list_enc g.K.EncodeSize.enc l)) o.keys, both, c.requires.fits)

pub encode_size-requires-2-clause-writable : goal.encode_size-requires-2-clause-writable
encode_size-requires-2-clause-writable g c = subst (IsWritableList g.V.EncodeSize.writable) (sym (opened _ _ _ c.self.view_is c.self.invariant).values) c.requires.writable.1

pub encode_size-requires-2-clause-fits : goal.encode_size-requires-2-clause-fits
encode_size-requires-2-clause-fits g c =
    let o = opened _ _ _ c.self.view_is c.self.invariant in
    let both = length-append (list_enc g.K.EncodeSize.enc (keys_of c.args.self.now)) (list_enc g.V.EncodeSize.enc (values_of c.args.self.now)) in
    omega (arith, ap (λ l. length (list_enc g.V.EncodeSize.enc l)) o.values, both, c.requires.fits)

pub overflow_add-result : goal.overflow_add-result
overflow_add-result g c =
    let o = opened _ _ _ c.self.view_is c.self.invariant in
    let both = length-append (list_enc g.K.EncodeSize.enc (keys_of c.args.self.now)) (list_enc g.V.EncodeSize.enc (values_of c.args.self.now)) in
    omega (arith, c.encode_size.ensures, c.encode_size-2.ensures, ap (λ l. length (list_enc g.K.EncodeSize.enc l)) o.keys, ap (λ l. length (list_enc g.V.EncodeSize.enc l)) o.values, both, c.requires.fits)

pub returns : goal.returns
returns g c =
    let o = opened _ _ _ c.self.view_is c.self.invariant in
    let both = length-append (list_enc g.K.EncodeSize.enc (keys_of c.args.self.now)) (list_enc g.V.EncodeSize.enc (values_of c.args.self.now)) in
    omega (arith, c.encode_size.ensures, c.encode_size-2.ensures, ap (λ l. length (list_enc g.K.EncodeSize.enc l)) o.keys, ap (λ l. length (list_enc g.V.EncodeSize.enc l)) o.values, both)
