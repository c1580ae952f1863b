use Rattle.std.proofs.Common.{◌≡◌, ℕ, ap, length, subst, arith}
use Rattle.std.proofs.lemmas.Slice.Zip.{length-zip}
use Rattle.commonware_base.proofs.Errors.{err_along}
use Rattle.commonware_base.specs.Lists.{IsAllowedList, IsListMemoryFree, ListFault, list_enc}
use Rattle.commonware_base.specs.Range.{Bounds, exactly}
use Rattle.commonware_base.specs.Refusal.{Refuses}
use Rattle.commonware_base.specs.laws.RefusalLaws.{refuses_from}
use Rattle.commonware_base.specs.Sequence.{bad_first, bad_second}
use Rattle.commonware_base.specs.Source.{rest_of}
use Rattle.commonware_base.specs.Text.{AreBytes}
use Rattle.commonware_base.specs.laws.TextLaws.{bytes_right}
use Rattle.commonware_map.specs.Maps.{MapFault}
use Rattle.commonware_ordered.specs.Sets.{SetFault}
use Rattle.commonware_map.proofs.MapReads.{accepts_map, as_many, consumes_map, keys_want_memory, rest_bytes}
use Rattle.commonware_map.proofs.map.codec.read_map_counted.Goals as goal

pub returns-in_err-keys-clause-refused : goal.returns-in_err-keys-clause-refused
returns-in_err-keys-clause-refused g c =
    let text = rest_of c.args.src.now in
    let key_fault = SetFault g.K.EncodeSize.enc g.K.EncodeSize.writable g.K.Order.order (g.K.Read.allowed c.args.key.now) (g.K.Read.fault c.args.key.now) c.args.range in
    let map_fault = MapFault g.K.EncodeSize.enc g.K.EncodeSize.writable g.K.Order.order (g.K.Read.allowed c.args.key.now) (g.K.Read.fault c.args.key.now) g.V.EncodeSize.enc g.V.EncodeSize.writable (g.V.Read.allowed c.args.value.now) (g.V.Read.fault c.args.value.now) c.args.range in
    let free = IsListMemoryFree (g.K.Read.fault c.args.key.now) (g.K.Read.memory_free c.args.key.now) c.args.range text in
    err_along c.from_residual.result c.in_err-keys.field-0.0 _ c.from_residual.ensures.1
    (refuses_from (key_fault text) (map_fault text) free free (λ f w. bad_first w) (λ wants. wants) c.in_err-keys.field-0.0 c.in_err-keys.ensures.refused)

pub returns-clause-accepted : goal.returns-clause-accepted
returns-clause-accepted g c =
    let a = c.in_ok-keys.ensures in
    let b = c.in_ok-values.ensures in
    let range : exactly c.len.result ≡ exactly (length c.in_ok-keys.keys) = ap exactly c.len.ensures in
    accepts_map g.K.EncodeSize.enc g.V.EncodeSize.enc g.K.EncodeSize.writable (g.K.Read.allowed c.args.key.now) g.K.Order.order g.V.EncodeSize.writable (g.V.Read.allowed c.args.value.now) c.args.range _ _ _ _ _ a.writable a.allowed b.writable
    (subst (λ r. IsAllowedList r (g.V.Read.allowed c.args.value.now) c.in_ok-values.values.items) range b.allowed) a.consumed.rest b.consumed.rest

pub returns-clause-consumed : goal.returns-clause-consumed
returns-clause-consumed g c =
    let b = c.in_ok-values.ensures in
    let range : exactly c.len.result ≡ exactly (length c.in_ok-keys.keys) = ap exactly c.len.ensures in
    let even = as_many (g.V.Read.allowed c.args.value.now) (length c.in_ok-keys.keys) c.in_ok-values.values.items (subst (λ r. IsAllowedList r (g.V.Read.allowed c.args.value.now) c.in_ok-values.values.items) range b.allowed) in
    consumes_map g.K.EncodeSize.enc g.V.EncodeSize.enc c.args.src.now c.read_set_counted.new.src c.read_values.new.src c.in_ok-keys.keys c.in_ok-values.values.items even c.in_ok-keys.ensures.consumed b.consumed

pub returns-in_err-values-clause-refused : goal.returns-in_err-values-clause-refused
returns-in_err-values-clause-refused g c =
    let text = rest_of c.args.src.now in
    let after = rest_of c.read_set_counted.new.src in
    let a = c.in_ok-keys.ensures in
    let bytes = bytes_right (list_enc g.K.EncodeSize.enc c.in_ok-keys.keys) after (subst AreBytes a.consumed.rest (rest_bytes c.args.src.now c.args.src.now.are_bytes)) in
    let range : exactly c.len.result ≡ exactly (length c.in_ok-keys.keys) = ap exactly c.len.ensures in
    let value_fault = λ (r : Bounds ℕ). ListFault g.V.EncodeSize.enc g.V.EncodeSize.writable (g.V.Read.allowed c.args.value.now) (g.V.Read.fault c.args.value.now) r after in
    let map_fault = MapFault g.K.EncodeSize.enc g.K.EncodeSize.writable g.K.Order.order (g.K.Read.allowed c.args.key.now) (g.K.Read.fault c.args.key.now) g.V.EncodeSize.enc g.V.EncodeSize.writable (g.V.Read.allowed c.args.value.now) (g.V.Read.fault c.args.value.now) c.args.range text in
    let free = λ (r : Bounds ℕ). IsListMemoryFree (g.V.Read.fault c.args.value.now) (g.V.Read.memory_free c.args.value.now) r after in
    err_along c.from_residual-in_err-values.result c.in_err-values.field-0.0 _ c.from_residual-in_err-values.ensures.1
    (refuses_from (value_fault (exactly (length c.in_ok-keys.keys))) map_fault (free (exactly (length c.in_ok-keys.keys))) (IsListMemoryFree (g.K.Read.fault c.args.key.now) (g.K.Read.memory_free c.args.key.now) c.args.range text)
    (λ f w. bad_second c.in_ok-keys.keys after (record { writable = a.writable; allowed = a.allowed; begins = a.consumed.rest }) w)
    (keys_want_memory g.K.EncodeSize.enc g.K.EncodeSize.writable (g.K.Read.allowed c.args.key.now) (g.K.Read.fault c.args.key.now) (g.K.Read.memory_free c.args.key.now) (g.met.K.Read.read_laws c.args.alloc c.args.key.now) c.args.range
    g.V.EncodeSize.enc g.V.EncodeSize.writable (g.V.Read.allowed c.args.value.now) (g.V.Read.fault c.args.value.now) (g.V.Read.memory_free c.args.value.now) g.met.V.EncodeSize.prefix_free (g.met.V.Read.read_laws c.args.alloc c.args.value.now)
    text after c.in_ok-keys.keys a.writable.list a.allowed a.consumed.rest bytes)
    c.in_err-values.field-0.0
    (subst (λ r. Refuses (value_fault r) (free r) c.in_err-values.field-0.0) range c.in_err-values.ensures.refused))

pub returns-clause-cost_ok : goal.returns-clause-cost_ok
returns-clause-cost_ok g c =
    let ks = c.in_ok-keys.keys in
    let vs = c.in_ok-values.values.items in
    let range : exactly c.len.result ≡ exactly (length ks) = ap exactly c.len.ensures in
    let even = as_many (g.V.Read.allowed c.args.value.now) (length ks) vs (subst (λ r. IsAllowedList r (g.V.Read.allowed c.args.value.now) vs) range c.in_ok-values.ensures.allowed) in
    let both = length-zip ks vs in
    let keys = c.in_ok-keys.ensures.cost_ok in
    omega arith

pub returns-clause-least : goal.returns-clause-least
returns-clause-least g c = λ one.
    let ks = c.in_ok-keys.keys in
    let vs = c.in_ok-values.values.items in
    let range : exactly c.len.result ≡ exactly (length ks) = ap exactly c.len.ensures in
    let even = as_many (g.V.Read.allowed c.args.value.now) (length ks) vs (subst (λ r. IsAllowedList r (g.V.Read.allowed c.args.value.now) vs) range c.in_ok-values.ensures.allowed) in
    let both = length-zip ks vs in
    let keys = c.in_ok-keys.ensures.least one in
    omega arith
