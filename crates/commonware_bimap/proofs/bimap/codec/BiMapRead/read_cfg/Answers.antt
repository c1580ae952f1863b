use Rattle.std.proofs.Common.{◌≤◌, length, refl, subst}
use Rattle.std.specs.Map.{values_of}
use Rattle.commonware_base.proofs.Errors.{err_along}
use Rattle.commonware_base.specs.Lists.{IsListMemoryFree}
use Rattle.commonware_base.specs.laws.RefusalLaws.{refuses_from}
use Rattle.commonware_base.specs.Source.{rest_of}
use Rattle.commonware_map.specs.Maps.{MapFault}
use Rattle.commonware_ordered.specs.Whole.{HasEqualItems, MatchError}
use Rattle.commonware_bimap.specs.BiMaps.{BiMapFault, bad_map, bad_values, repeated_fault}
use Rattle.commonware_bimap.proofs.BiMapReads.{pairs_want_memory}
use Rattle.std.proofs.Common.{arith}
use Rattle.std.proofs.lemmas.Grind.{common_steps}
use Rattle.commonware_bimap.proofs.bimap.codec.BiMapRead.read_cfg.Goals as goal

pub returns-in_err-map-clause-refused : goal.returns-in_err-map-clause-refused
returns-in_err-map-clause-refused g c =
    let cfg = c.args.cfg.now in
    let text = rest_of c.args.src.now in
    let free = IsListMemoryFree (g.K.Read.fault cfg.1) (g.K.Read.memory_free cfg.1) cfg.0 text in
    err_along c.from_residual.result c.in_err-map.field-0.0 _ c.from_residual.ensures.1
    (refuses_from
    (MapFault g.K.EncodeSize.enc g.K.EncodeSize.writable g.K.Ord.cmp (g.K.Read.allowed cfg.1) (g.K.Read.fault cfg.1) g.V.EncodeSize.enc g.V.EncodeSize.writable (g.V.Read.allowed cfg.2) (g.V.Read.fault cfg.2) cfg.0 text)
    (BiMapFault g.K.EncodeSize.enc g.K.EncodeSize.writable g.K.Ord.cmp (g.K.Read.allowed cfg.1) (g.K.Read.fault cfg.1) g.V.EncodeSize.enc g.V.EncodeSize.writable (g.V.Read.allowed cfg.2) (g.V.Read.fault cfg.2) g.V.PartialEq.eq cfg.0 text)
    free free (λ f w. bad_map w) (λ wants. wants) c.in_err-map.field-0.0 c.in_err-map.ensures.refused)

pub returns-in-Err-clause-refused : goal.returns-in-Err-clause-refused
returns-in-Err-clause-refused g c =
    let cfg = c.args.cfg.now in
    pairs_want_memory g.K.EncodeSize.enc g.K.EncodeSize.writable (g.K.Read.allowed cfg.1) g.K.Ord.cmp (g.K.Read.fault cfg.1) (g.K.Read.memory_free cfg.1) (g.met.K.Read.read_laws c.args.alloc cfg.1)
    g.V.EncodeSize.enc g.V.EncodeSize.writable (g.V.Read.allowed cfg.2) cfg.0 (rest_of c.args.src.now) _ c.in_ok-map.map c.in_ok-map.ensures.accepted
    (λ none. let taken = c.in-Err.ensures.empty none in cc)

pub returns-in-Err-DuplicateValue-clause-refused : goal.returns-in-Err-DuplicateValue-clause-refused
returns-in-Err-DuplicateValue-clause-refused g c =
    let a = c.in_ok-map.ensures.accepted in
    let twice = subst (λ e. MatchError e ⊥ (HasEqualItems g.V.PartialEq.eq (values_of c.in_ok-map.map)) (1 ≤ length c.in_ok-map.map)) c.in-Err-DuplicateValue.field-0-is c.in-Err-DuplicateValue.ensures.whole in
    bad_values (refl {a = repeated_fault}) (record { pairs = c.in_ok-map.map; rest = _; begins = a.begins; writable = a.writable; allowed = a.allowed; repeated = twice })

pub returns-in-Ok-clause-accepted : goal.returns-in-Ok-clause-accepted
returns-in-Ok-clause-accepted g c = grind (arith, common_steps)
