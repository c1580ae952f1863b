use Rattle.std.proofs.Common.{arith, [], refl, ◌≡◌, ◌+◌, sym, subst, rules, Err}
use Rattle.std.specs.Prelude.{IfErr}
use Rattle.commonware_base.specs.Lists.{ItemsFault, IsItemsMemoryFree}
use Rattle.commonware_base.specs.Refusal.{Refuses}
use Rattle.commonware_base.specs.laws.RefusalLaws.{refuses_from}
use Rattle.commonware_base.specs.Source.{rest_of}
use Rattle.commonware_base.proofs.Errors.{err_along}
use Rattle.commonware_base.proofs.ReadSteps.{ReadSoFar, read_none, read_more, read_all, read_all_writable, read_all_allowed, read_outside, read_faulty, read_wants, list_faulty, list_wants}
use Rattle.std.proofs.lemmas.Grind.{common_steps}
use Rattle.commonware_base.proofs.codec.list.read_list.Goals as goal

pub returns-then-not-contains-clause-refused : goal.returns-then-not-contains-clause-refused
returns-then-not-contains-clause-refused g c =
    read_outside g.T.EncodeSize.enc g.T.EncodeSize.writable (g.T.Read.allowed c.args.item.now) c.args.range c.in_ok-count.count c.args.src.now (g.T.Read.fault c.args.item.now) (g.T.Read.memory_free c.args.item.now)
    c.read_varint.new.src c.in_ok-count.ensures.fits (λ w. cc (c.if-not-contains.ensures.1 w)) c.in_ok-count.ensures.consumed

pub loop-init : goal.loop-init
loop-init g c =
    let none = read_none g.T.EncodeSize.enc g.T.EncodeSize.writable (g.T.Read.allowed c.args.item.now) c.args.range c.in_ok-count.count c.args.src.now c.read_varint.new.src c.in_ok-count.ensures.fits (c.if-not-contains.ensures.0 refl) c.in_ok-count.ensures.consumed in
    let here = subst (λ s. ReadSoFar g.T.EncodeSize.enc g.T.EncodeSize.writable (g.T.Read.allowed c.args.item.now) c.args.range c.in_ok-count.count 0 c.args.src.now s []) (sym c.in-None.ensures.none) none in
    subst (ReadSoFar g.T.EncodeSize.enc g.T.EncodeSize.writable (g.T.Read.allowed c.args.item.now) c.args.range c.in_ok-count.count 0 c.args.src.now c.read_at_once.new.src) (sym c.new-items.ensures.items) here

pub returns-in_default-clause-refused : goal.returns-in_default-clause-refused
returns-in_default-clause-refused g c =
    let more = read_more g.T.EncodeSize.enc g.T.EncodeSize.writable (g.T.Read.allowed c.args.item.now) c.args.range c.in_ok-count.count c.args.src.now c.loop.counter c.loop.here c.read_cfg.new.src c.loop.items.items c.in_ok-value.value c.loop.invariant c.in_ok-value.ensures.accepted c.in_ok-value.ensures.consumed in
    read_wants g.T.EncodeSize.enc g.T.EncodeSize.writable (g.T.Read.allowed c.args.item.now) c.args.range c.in_ok-count.count c.args.src.now (g.T.Read.fault c.args.item.now) (g.T.Read.memory_free c.args.item.now)
    _ _ _ more (omega arith) (g.met.T.Read.read_laws c.args.alloc c.args.item.now).accepted_no_fault (λ e. absurd (omega arith))

pub returns-in_err-value-clause-refused : goal.returns-in_err-value-clause-refused
returns-in_err-value-clause-refused g c =
    err_along c.from_residual-in_err-value.result c.in_err-value.field-0.0 _ c.from_residual-in_err-value.ensures.1
    (refuses_from (g.T.Read.fault c.args.item.now (rest_of c.loop.here)) _ (g.T.Read.memory_free c.args.item.now (rest_of c.loop.here)) _
    (λ f w. read_faulty g.T.EncodeSize.enc g.T.EncodeSize.writable (g.T.Read.allowed c.args.item.now) c.args.range c.in_ok-count.count c.args.src.now (g.T.Read.fault c.args.item.now) (g.T.Read.memory_free c.args.item.now) c.loop.counter c.loop.here c.loop.items.items f c.loop.invariant c.loop-test.true w)
    (λ wants. read_wants g.T.EncodeSize.enc g.T.EncodeSize.writable (g.T.Read.allowed c.args.item.now) c.args.range c.in_ok-count.count c.args.src.now (g.T.Read.fault c.args.item.now) (g.T.Read.memory_free c.args.item.now)
    c.loop.counter c.loop.here c.loop.items.items c.loop.invariant (omega arith) (g.met.T.Read.read_laws c.args.alloc c.args.item.now).accepted_no_fault (λ e. wants))
    c.in_err-value.field-0.0 c.in_err-value.ensures.refused)

pub loop-preserved : goal.loop-preserved
loop-preserved g c =
    let more = read_more g.T.EncodeSize.enc g.T.EncodeSize.writable (g.T.Read.allowed c.args.item.now) c.args.range c.in_ok-count.count c.args.src.now c.loop.counter c.loop.here c.read_cfg.new.src c.loop.items.items c.in_ok-value.value c.loop.invariant c.in_ok-value.ensures.accepted c.in_ok-value.ensures.consumed in
    subst (ReadSoFar g.T.EncodeSize.enc g.T.EncodeSize.writable (g.T.Read.allowed c.args.item.now) c.args.range c.in_ok-count.count (c.loop.counter + 1) c.args.src.now c.read_cfg.new.src) (sym c.in-Ok.ensures) more

pub returns-clause-consumed : goal.returns-clause-consumed
returns-clause-consumed g c =
    let n : c.loop.counter ≡ c.in_ok-count.count = omega arith in
    read_all g.T.EncodeSize.enc g.T.EncodeSize.writable (g.T.Read.allowed c.args.item.now) c.args.range c.in_ok-count.count c.args.src.now c.loop.here c.loop.items.items
    (subst (λ k. ReadSoFar g.T.EncodeSize.enc g.T.EncodeSize.writable (g.T.Read.allowed c.args.item.now) c.args.range c.in_ok-count.count k c.args.src.now c.loop.here c.loop.items.items) n c.loop.invariant)

pub returns-clause-writable : goal.returns-clause-writable
returns-clause-writable g c =
    let n : c.loop.counter ≡ c.in_ok-count.count = omega arith in
    read_all_writable g.T.EncodeSize.enc g.T.EncodeSize.writable (g.T.Read.allowed c.args.item.now) c.args.range c.in_ok-count.count c.args.src.now c.loop.here c.loop.items.items
    (subst (λ k. ReadSoFar g.T.EncodeSize.enc g.T.EncodeSize.writable (g.T.Read.allowed c.args.item.now) c.args.range c.in_ok-count.count k c.args.src.now c.loop.here c.loop.items.items) n c.loop.invariant)

pub returns-clause-allowed : goal.returns-clause-allowed
returns-clause-allowed g c =
    let n : c.loop.counter ≡ c.in_ok-count.count = omega arith in
    read_all_allowed g.T.EncodeSize.enc g.T.EncodeSize.writable (g.T.Read.allowed c.args.item.now) c.args.range c.in_ok-count.count c.args.src.now c.loop.here c.loop.items.items
    (subst (λ k. ReadSoFar g.T.EncodeSize.enc g.T.EncodeSize.writable (g.T.Read.allowed c.args.item.now) c.args.range c.in_ok-count.count k c.args.src.now c.loop.here c.loop.items.items) n c.loop.invariant)

pub returns-in_err-items-in-Some-clause-refused : goal.returns-in_err-items-in-Some-clause-refused
returns-in_err-items-in-Some-clause-refused g c =
    let is : c.in-Some.read ≡ Err c.in_err-items-in-Some.field-0.0 = search rules in
    let refused : Refuses (ItemsFault g.T.EncodeSize.enc g.T.EncodeSize.writable (g.T.Read.allowed c.args.item.now) (g.T.Read.fault c.args.item.now) c.in_ok-count.count (rest_of c.read_varint.new.src)) (IsItemsMemoryFree g.T.EncodeSize.enc g.T.EncodeSize.writable (g.T.Read.allowed c.args.item.now) (g.T.Read.memory_free c.args.item.now) c.in_ok-count.count (rest_of c.read_varint.new.src)) c.in_err-items-in-Some.field-0.0 = subst (λ r. IfErr r (Refuses (ItemsFault g.T.EncodeSize.enc g.T.EncodeSize.writable (g.T.Read.allowed c.args.item.now) (g.T.Read.fault c.args.item.now) c.in_ok-count.count (rest_of c.read_varint.new.src)) (IsItemsMemoryFree g.T.EncodeSize.enc g.T.EncodeSize.writable (g.T.Read.allowed c.args.item.now) (g.T.Read.memory_free c.args.item.now) c.in_ok-count.count (rest_of c.read_varint.new.src)))) is c.in-Some.ensures.refused in
    err_along c.from_residual-in_err-items-in-Some.result c.in_err-items-in-Some.field-0.0 _ c.from_residual-in_err-items-in-Some.ensures.1
    (refuses_from (ItemsFault g.T.EncodeSize.enc g.T.EncodeSize.writable (g.T.Read.allowed c.args.item.now) (g.T.Read.fault c.args.item.now) c.in_ok-count.count (rest_of c.read_varint.new.src)) _ (IsItemsMemoryFree g.T.EncodeSize.enc g.T.EncodeSize.writable (g.T.Read.allowed c.args.item.now) (g.T.Read.memory_free c.args.item.now) c.in_ok-count.count (rest_of c.read_varint.new.src)) _
    (list_faulty g.T.EncodeSize.enc g.T.EncodeSize.writable (g.T.Read.allowed c.args.item.now) c.args.range c.in_ok-count.count c.args.src.now c.read_varint.new.src c.in_ok-count.ensures.fits c.in_ok-count.ensures.consumed (g.T.Read.fault c.args.item.now) (g.T.Read.memory_free c.args.item.now) (c.if-not-contains.ensures.0 refl))
    (list_wants g.T.EncodeSize.enc g.T.EncodeSize.writable (g.T.Read.allowed c.args.item.now) c.args.range c.in_ok-count.count c.args.src.now c.read_varint.new.src c.in_ok-count.ensures.fits c.in_ok-count.ensures.consumed (g.T.Read.fault c.args.item.now) (g.T.Read.memory_free c.args.item.now) (c.if-not-contains.ensures.0 refl) (g.met.T.Read.read_laws c.args.alloc c.args.item.now).accepted_no_fault)
    c.in_err-items-in-Some.field-0.0 refused)

pub returns-in-Some-clause-consumed : goal.returns-in-Some-clause-consumed
returns-in-Some-clause-consumed g c = grind (arith, common_steps)
