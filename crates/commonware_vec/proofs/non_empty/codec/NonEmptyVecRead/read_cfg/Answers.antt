-- A fault of the list is one of the list that isn't empty.
use Rattle.std.proofs.Common.{refl, subst, sym, ◌∙◌}
use Rattle.std.proofs.lemmas.Bool.{eqb-true}
use Rattle.std.specs.Prelude.{length}
use Rattle.commonware_base.proofs.Errors.{err_along}
use Rattle.commonware_base.specs.Lists.{ListFault, IsListMemoryFree}
use Rattle.commonware_base.specs.Range.{Within, as_numbers}
use Rattle.commonware_base.specs.Refusal.{Refuses}
use Rattle.commonware_base.specs.laws.RefusalLaws.{refuses_from}
use Rattle.commonware_base.specs.Source.{rest_of}
use Rattle.commonware_vec.specs.NonEmpty.{NonEmptyFault, bad_list, no_items}
use Rattle.commonware_vec.specs.laws.NonEmptyLaws.{begins_empty}
use Rattle.commonware_vec.proofs.non_empty.codec.NonEmptyVecRead.read_cfg.Goals as goal

pub returns-then-is_empty-clause-refused : goal.returns-then-is_empty-clause-refused
returns-then-is_empty-clause-refused g c =
    let items = c.in_ok-items.items.items in
    let within = subst (λ range. Within range (length items)) c.from-range.ensures c.in_ok-items.ensures.allowed.in_range in
    no_items refl (begins_empty g.T.EncodeSize.enc (as_numbers c.args.cfg.now.0) _ items _ (sym c.in_ok-items.items.ok.0 ∙ eqb-true _ 0 (sym c.is_empty.ensures ∙ c.if-is_empty.true)) c.in_ok-items.ensures.consumed.rest within)

pub returns-in_err-items-clause-refused : goal.returns-in_err-items-clause-refused
returns-in_err-items-clause-refused g c =
    let enc = g.T.EncodeSize.enc in
    let Writable = g.T.EncodeSize.writable in
    let Allowed = g.T.Read.allowed c.args.cfg.now.1 in
    let fault = g.T.Read.fault c.args.cfg.now.1 in
    let range = as_numbers c.args.cfg.now.0 in
    let text = rest_of c.args.src.now in
    let free = g.T.Read.memory_free c.args.cfg.now.1 in
    err_along c.from_residual.result c.in_err-items.field-0.0 _ c.from_residual.ensures.1
    (refuses_from (ListFault enc Writable Allowed fault range text) (NonEmptyFault enc Writable Allowed fault range text) (IsListMemoryFree fault free range text) (IsListMemoryFree fault free range text) (λ f w. bad_list w) (λ wants. wants) c.in_err-items.field-0.0
    (subst (λ r. Refuses (ListFault enc Writable Allowed fault r text) (IsListMemoryFree fault free r text) c.in_err-items.field-0.0) c.from-range.ensures c.in_err-items.ensures.refused))
