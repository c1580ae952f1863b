use Rattle.std.proofs.Common.{◌≡◌, ◌↔◌, ℕ, sym, subst, arith}
use Rattle.std.specs.Prelude.{Some}
use Rattle.std.specs.List.{Contains, slice_get}
use Rattle.std.proofs.lemmas.Option.{get_or_from_slice_get, slice_get_within}
use Rattle.commonware_ordered.specs.Strict.{IsStrict}
use Rattle.commonware_sequence.specs.FixedBytes.{bytes_cmp}
use Rattle.commonware_views.specs.Lists.{IsGapFor}
use Rattle.commonware_c.proofs.Arrays.{items_are_arrays}
use Rattle.commonware_c.proofs.places.commonware_committee_position.Goals as goal

-- 32 is not 0
some : ◌≡◌ {A = ℕ} 32 0 → ⊥
some e = absurd (omega (arith, e))

pub returns-clause-found : goal.returns-clause-found
returns-clause-found c = λ e.
    let members = c.args.members.now in
    let key = c.args.key.now in
    let index = c.place_in.result.index in
    let same = items_are_arrays 32 some members c.in-Ok.items c.as_flattened.result.now c.told-members c.as_flattened.ensures.value c.in-Ok.ensures.items in
    let at = subst (λ xs. slice_get xs index ≡ Some key) same (c.place_in.ensures.found e) in
    (slice_get_within members index key at, λ d. get_or_from_slice_get members index key d at)

pub returns-clause-absent : goal.returns-clause-absent
returns-clause-absent c = λ e.
    let members = c.args.members.now in
    let same = items_are_arrays 32 some members c.in-Ok.items c.as_flattened.result.now c.told-members c.as_flattened.ensures.value c.in-Ok.ensures.items in
    let said = c.place_in.ensures.absent e in
    (said.0, subst (λ xs. IsGapFor c.args.key.now xs c.place_in.result.index) same said.1)

pub returns-clause-exactly : goal.returns-clause-exactly
returns-clause-exactly c = λ strict.
    let members = c.args.members.now in
    let key = c.args.key.now in
    let same = items_are_arrays 32 some members c.in-Ok.items c.as_flattened.result.now c.told-members c.as_flattened.ensures.value c.in-Ok.ensures.items in
    subst (λ xs. (c.place_in.result.status ≡ 0) ↔ Contains xs key) same
    (c.place_in.ensures.exactly (subst (IsStrict bytes_cmp) (sym same) strict))
