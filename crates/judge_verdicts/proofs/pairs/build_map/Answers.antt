use Rattle.std.proofs.Common.{List, inl, subst, sym}
use Rattle.std.specs.List.{zip}
use Rattle.commonware_utils.specs.Codec.{IsWritableList}
use Rattle.judge_verdicts.specs.Builds.{IsBuiltFrom, IsMapMade}
use Rattle.judge_verdicts.specs.Columns.{columns_of}
use Rattle.judge_verdicts.specs.Readings.{Reading}
use Rattle.judge_verdicts.specs.Whole.{items_of}
use Rattle.judge_verdicts.proofs.Builts.{made_built}
use Rattle.judge_verdicts.proofs.Results.{if_ok_so, on_error}
use Rattle.judge_verdicts.proofs.Writable.{IsWritablePair, beside_writable}
use Rattle.judge_verdicts.proofs.pairs.build_map.Goals as goal

pub returns-in_err-keys-clause-memory : goal.returns-in_err-keys-clause-memory
returns-in_err-keys-clause-memory g c = on_error _ c.from_residual.result (inl c.in_err-keys.ensures.memory)

pub make_map-requires : goal.make_map-requires
make_map-requires g c =
    let whole = rw c.in-Ok.is at c.in_ok-keys.ensures.read in
    subst (IsWritableList (IsWritablePair g.K.EncodeSize.writable g.V.EncodeSize.writable)) (sym c.in_ok-pairs_of-in-Ok.ensures) (beside_writable g.K.EncodeSize.writable g.V.EncodeSize.writable c.in-Ok.keys.items c.in-Ok.values.items whole.writable.0 whole.writable.1)

pub returns-in_ok-pairs_of-in-Ok-clause-built : goal.returns-in_ok-pairs_of-in-Ok-clause-built
returns-in_ok-pairs_of-in-Ok-clause-built g c =
    let cfg = c.args.cfg.now in
    let key : Reading = record { Value = g.row.K.Denot; enc = g.K.EncodeSize.enc; Writable = g.K.EncodeSize.writable; Allowed = g.K.Read.allowed cfg.1; HasFault = g.K.Read.fault cfg.1; MemoryFree = g.K.Read.memory_free cfg.1; items = λ _. 1 } in
    let value : Reading = record { Value = g.row.V.Denot; enc = g.V.EncodeSize.enc; Writable = g.V.EncodeSize.writable; Allowed = g.V.Read.allowed cfg.2; HasFault = g.V.Read.fault cfg.2; MemoryFree = g.V.Read.memory_free cfg.2; items = λ _. 1 } in
    let whole = rw c.in-Ok.is at c.in_ok-keys.ensures.read in
    let Made = λ (ps : List (g.row.K.Denot × g.row.V.Denot)). IsMapMade c.args.unique g.K.EncodeSize.enc g.V.EncodeSize.enc g.K.PartialEq.eq g.K.Ord.cmp ps in
    if_ok_so (λ built. Made c.in_ok-pairs_of-in-Ok.field-0.items (items_of built)) (λ built. IsBuiltFrom (columns_of cfg.0 key value) (λ columns. Made (zip columns.0 columns.1)) c.args.text.now (items_of built)) c.make_map.result
    (λ built h. made_built (columns_of cfg.0 key value) (λ columns. Made (zip columns.0 columns.1)) c.args.text.now (c.in-Ok.keys.items, c.in-Ok.values.items) whole (λ what never. never) (items_of built) (subst (λ ps. Made ps (items_of built)) c.in_ok-pairs_of-in-Ok.ensures h)) c.make_map.ensures
