use Rattle.std.proofs.Common.{◌≡◌, ◌∙◌, ◌++◌, ap, arith, sym, subst, subst₂, length}
use Rattle.std.proofs.lemmas.Map.Made.{keys_of-zip}
use Rattle.commonware_base.proofs.Errors.{err_along}
use Rattle.commonware_base.proofs.SourceLemmas.{consumes_both}
use Rattle.commonware_base.specs.laws.RefusalLaws.{refuses_from}
use Rattle.commonware_base.specs.Lists.{IsAllowedList, list_enc}
use Rattle.commonware_base.specs.Range.{exactly}
use Rattle.commonware_base.specs.Refusal.{Refuses}
use Rattle.commonware_base.specs.Sequence.{bad_first, bad_second}
use Rattle.commonware_base.specs.Source.{Consumes, rest_of}
use Rattle.commonware_map.proofs.Columns.{values_of-zip}
use Rattle.commonware_map.proofs.MapReads.{accepts_map, as_many}
use Rattle.commonware_sequence.specs.FixedBytes.{IsOfSize, bytes_cmp, own_bytes}
use Rattle.commonware_views.proofs.Pairs.{pairs_number}
use Rattle.commonware_views.specs.Lists.{Any, list_fault}
use Rattle.commonware_views.specs.Maps.{sized_map_fault}
use Rattle.commonware_views.specs.Sets.{key_set_fault}
use Rattle.commonware_views.proofs.map.next_pairs.Goals as goal

pub returns-in_err-keys-clause-refused : goal.returns-in_err-keys-clause-refused
returns-in_err-keys-clause-refused g c =
    let text = rest_of c.args.src.now in
    err_along c.from_residual.result c.in_err-keys.field-0.0 _ c.from_residual.ensures.1
    (refuses_from (key_set_fault c.args.key_size c.args.range text) (sized_map_fault c.args.key_size c.args.value_size c.args.range text) (Unit {0}) (Unit {0})
    (λ f w. bad_first w) (λ never. never) c.in_err-keys.field-0.0 c.in_err-keys.ensures.refused)

pub returns-in_err-values-clause-refused : goal.returns-in_err-values-clause-refused
returns-in_err-values-clause-refused g c =
    let text = rest_of c.args.src.now in
    let after = rest_of c.read_counted.new.src in
    let keys = c.in_ok-keys.keys in
    let range : c.exact.result ≡ exactly (length keys) = c.exact.ensures.bounds ∙ ap exactly c.len.ensures in
    err_along c.from_residual-in_err-values.result c.in_err-values.field-0.0 _ c.from_residual-in_err-values.ensures.1
    (refuses_from (list_fault c.args.value_size (exactly (length keys)) after) (sized_map_fault c.args.key_size c.args.value_size c.args.range text) (Unit {0}) (Unit {0})
    (λ f w. bad_second keys after c.in_ok-keys.ensures.accepted w) (λ never. never) c.in_err-values.field-0.0
    (subst (λ r. Refuses (list_fault c.args.value_size r after) (Unit {0}) c.in_err-values.field-0.0) range c.in_err-values.ensures.refused))

pub returns-clause-accepted : goal.returns-clause-accepted
returns-clause-accepted g c =
    let old = c.args.src.now in
    let mid = c.read_counted.new.src in
    let new = c.read.new.src in
    let ks = c.args.key_size in
    let vs = c.args.value_size in
    let keys = c.in_ok-keys.keys in
    let values = c.in_ok-values.values in
    let set = c.in_ok-keys.ensures.accepted in
    let list = c.in_ok-values.ensures.accepted in
    let range : c.exact.result ≡ exactly (length keys) = c.exact.ensures.bounds ∙ ap exactly c.len.ensures in
    let allowed : IsAllowedList (exactly (length keys)) Any values = subst (λ r. IsAllowedList r Any values) range list.allowed in
    accepts_map own_bytes own_bytes (IsOfSize ks) Any bytes_cmp (IsOfSize vs) Any c.args.range (rest_of old) (rest_of mid) (rest_of new) keys values
    set.writable set.allowed list.writable allowed set.begins list.begins

pub returns-clause-consumed : goal.returns-clause-consumed
returns-clause-consumed g c =
    let keys = c.in_ok-keys.keys in
    let values = c.in_ok-values.values in
    let range : c.exact.result ≡ exactly (length keys) = c.exact.ensures.bounds ∙ ap exactly c.len.ensures in
    let allowed : IsAllowedList (exactly (length keys)) Any values = subst (λ r. IsAllowedList r Any values) range c.in_ok-values.ensures.accepted.allowed in
    let even = as_many Any (length keys) values allowed in
    let both = consumes_both c.args.src.now c.read_counted.new.src c.read.new.src (list_enc own_bytes keys) (list_enc own_bytes values) c.in_ok-keys.ensures.consumed c.in_ok-values.ensures.consumed in
    subst₂ (λ ks vs. Consumes c.args.src.now c.read.new.src (list_enc own_bytes ks ++ list_enc own_bytes vs)) (sym (keys_of-zip keys values even)) (sym (values_of-zip keys values even)) both

pub returns-clause-least : goal.returns-clause-least
returns-clause-least g c = λ one.
    let keys = c.in_ok-keys.keys in
    let values = c.in_ok-values.values in
    let range : c.exact.result ≡ exactly (length keys) = c.exact.ensures.bounds ∙ ap exactly c.len.ensures in
    let allowed : IsAllowedList (exactly (length keys)) Any values = subst (λ r. IsAllowedList r Any values) range c.in_ok-values.ensures.accepted.allowed in
    let number = pairs_number keys values (as_many Any (length keys) values allowed) in
    omega (arith, number, c.in_ok-keys.ensures.least one)
