use Rattle.std.proofs.Common.{ap, subst, sym, ◌∙◌, ◌++◌, append_assoc}
use Rattle.commonware_base.specs.Lists.{list_enc, IsWritableList}
use Rattle.commonware_ordered.specs.Sets.{IsWritableSet}
use Rattle.commonware_map.proofs.Columns.{opened}
use Rattle.commonware_map.proofs.map.codec.MapWrite.write.Goals as goal

pub write-requires : goal.write-requires
write-requires g c = subst (IsWritableSet g.K.EncodeSize.writable g.K.Ord.cmp) (sym (opened _ _ _ c.self.view_is c.self.invariant).keys) c.requires.0

pub write-requires-2 : goal.write-requires-2
write-requires-2 g c = subst (IsWritableList g.V.EncodeSize.writable) (sym (opened _ _ _ c.self.view_is c.self.invariant).values) c.requires.1

pub returns-in-Ok-clause-ok : goal.returns-in-Ok-clause-ok
returns-in-Ok-clause-ok g c =
    let o = opened _ _ _ c.self.view_is c.self.invariant in
    let ek = list_enc g.K.EncodeSize.enc in
    let ev = list_enc g.V.EncodeSize.enc in
    c.in-Ok.ensures.ok ∙ ap (λ l. l ++ ev c.self.inside.values.items) c.in_ok-write.ensures.ok ∙ append_assoc c.args.sink.now.items (ek c.self.inside.keys) (ev c.self.inside.values.items)
    ∙ (λ j. c.args.sink.now.items ++ (ek (o.keys j) ++ ev (o.values j)))
